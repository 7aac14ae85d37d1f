-- After k turns the first k numbers stand in front.
use Prim.Native.Nat.{ℕ, ◌-◌}
use native.Mathlib.Omega.{arith}
use mathlib.Core.Path.{◌≡◌, ◌∙◌}
use borrow.Author.Rules.{sfits_of}
use mathlib.Core.List.{List, ◌++◌}
use lib.ListN.{length, take, drop}
use mir.Syntax.{w64}
use mir.Facts.{to_z-of_z}
use Rattle.model.specs.Lists.{over}
use Rattle.model.proofs.Reading.{drop-take}
use Rattle.model.proofs.Written.{values_length, written_none, written_more}
use Rattle.std.proofs.lemmas.List.{length-take-le, append-nil}
use Rattle.corners.specs.Spans.{row_values}
use Rattle.corners.proofs.element.put_row.Goals as goal

pub loop-k-init : goal.loop-k-init
loop-k-init g c = written_none _ _

pub loop-k-preserved : goal.loop-k-preserved
loop-k-preserved g c =
    let z = c.signed_number_at in
    written_more _ _ _ _ _ c.loop-k-test.true c.loop-k.invariant (to_z-of_z (sfits_of {w = w64} {z = z.result} z.type_inv) ∙ z.ensures)

-- n values in front of a list, written into its first n places
in_front : {A : Type 0} (out values : List A) (n : ℕ) → length values ≡ n → over (take n out) values ++ drop n out ≡ over out values
unfolding over
in_front out values n e = let z : n - n ≡ 0 = omega arith in rw (e, drop-take n n out, z, append-nil values)

pub returns : goal.returns
returns g c =
    let a = c.args in
    let l = length-take-le a.n a.out.now c.requires.numbers.1.1 in
    let e : c.loop-k.k ≡ a.n = omega (arith, l, c.loop-k-test.false, c.loop-k.auto.k-end) in
    let v = rw (e, ← c.requires.width) at c.loop-k.invariant in
    rw v (in_front a.out.now (row_values a.image.now a.row a.start a.n) a.n (values_length _ a.n 0))
