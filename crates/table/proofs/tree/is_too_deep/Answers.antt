-- The walk up: from here with what is left is as from node i with 32.
use native.Mathlib.Omega.{arith}
use Prim.Native.Nat.{◌+◌, ◌-◌, ◌<◌}
use mathlib.Core.Path.{◌≡◌, refl, sym, ap, ◌∙◌}
use mathlib.Core.Bool.{true}
use borrow.Author.Count.{below_more}
use Rattle.model.specs.Image.{parent}
use Rattle.model.specs.Records.{deeper_than, parent_lawful}
use Rattle.model.proofs.Parents.{parent-lower}
use Rattle.records.specs.Table.{all_records}
use Rattle.table.proofs.Laws.{deeper_root, deeper_none, deeper_up}
use Rattle.table.proofs.tree.is_too_deep.Goals as goal

pub loop-init : goal.loop-init
loop-init c = (omega arith, refl)

pub returns-then-at-eq0 : goal.returns-then-at-eq0
returns-then-at-eq0 c = sym (deeper_root _ _) ∙ ap (deeper_than _ _) (sym c.if-at-eq0.true) ∙ c.loop.invariant.1

pub loop-preserved : goal.loop-preserved
loop-preserved c =
    let t = all_records c.args.table.now in
    let at = c.loop.at in
    let left = 32 - c.loop.counter in
    let e : 32 - (c.loop.counter + 1) ≡ left - 1 = omega arith in
    let p : parent_lawful t at ≡ true = below_more (λ j. parent_lawful t j ≡ true) c.args.i c.requires.1.0 c.requires.1.1 at (omega arith) in
    let up : parent t at < at = parent-lower t at p c.if-at-eq0.false in (
      omega (arith, c.parent_of-at.ensures.0),
      rw (e, c.parent_of-at.ensures.0) (sym (deeper_up t left at (omega arith) c.if-at-eq0.false) ∙ c.loop.invariant.1),
    )

pub returns : goal.returns
returns c = sym (deeper_none _ (32 - c.loop.counter) _ (omega arith)) ∙ c.loop.invariant.1
