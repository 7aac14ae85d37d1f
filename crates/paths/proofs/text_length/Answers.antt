-- The blanks at the end are dropped one by one.
use native.Mathlib.Omega.{arith}
use Prim.Native.Nat.{◌+◌, ◌-◌}
use mathlib.Core.Path.{◌≡◌, ◌∙◌, sym}
use Rattle.model.specs.Path.{trimmed}
use Rattle.paths.proofs.Laws.{trim_keep, trim_drop}
use Rattle.paths.proofs.text_length.Goals as goal

pub returns-then-image-at-ne32 : goal.returns-then-image-at-ne32
returns-then-image-at-ne32 c =
    let k = c.loop-k.k in
    let e : k - 1 + 1 ≡ k = omega arith in
    rw e (sym c.loop-k.invariant ∙ trim_keep c.args.image.now c.args.at k (omega arith) (omega arith) c.if-image-at-ne32.true, omega arith)

pub loop-k-preserved : goal.loop-k-preserved
loop-k-preserved c =
    trim_drop c.args.image.now c.args.at c.loop-k.k (omega arith) (omega arith) c.if-image-at-ne32.false ∙ c.loop-k.invariant

pub returns : goal.returns
unfolding trimmed
returns c = let k : c.loop-k.k ≡ 0 = omega arith in (sym c.loop-k.invariant ∙ rw k, omega arith)
