-- Both start offsets lie inside the image, or none is read.
use Prim.Native.Nat.{◌+◌, ◌<◌, ◌^◌}
use native.Mathlib.Numerals.{add-one}
use native.Mathlib.Omega.{arith}
use mathlib.Core.Path.{sym}
use lib.ListN.{length}
use Rattle.corners.specs.Spans.{offset_span}
use Rattle.rows.proofs.Rows.{inside-numbers, inside_many}
use Rattle.corners.proofs.spans.offset_span.Goals as goal
use Rattle.corners.proofs.spans.offset_span.Goals.{Else-not-inside}

-- no image has so many numbers
pub returns-in_err-n : goal.returns-in_err-n
unfolding offset_span
returns-in_err-n c =
    let a = c.args in
    let s : length a.image.now < 2 ^ 64 = omega arith in
    rw c.from_residual.ensures
    (rw (inside_many a.image.now a.at a.width (a.k + 2) s (omega (arith, c.in_err-n.ensures))), tt)

pub returns-then-not-inside : goal.returns-then-not-inside
unfolding offset_span
returns-then-not-inside c = (rw (← c.in_ok-n.ensures.1, sym c.if-not-inside.ensures), tt)

pub number_at-start-requires : goal.number_at-start-requires
number_at-start-requires c = (inside-numbers _ _ _ _ (sym c.if-not-inside.ensures), omega (arith, c.in_ok-n.ensures))

pub number_at-end-requires : goal.number_at-end-requires
number_at-end-requires c = (inside-numbers _ _ _ _ (sym c.if-not-inside.ensures), omega (arith, c.in_ok-n.ensures))

pub range_between-requires : goal.range_between-requires
range_between-requires c = (inside-numbers _ _ _ _ (sym c.if-not-inside.ensures)).wide

pub returns : goal.returns
unfolding offset_span
returns c = (
  rw (← c.in_ok-n.ensures.1, sym c.if-not-inside.ensures)
      (rw (c.number_at-start.ensures, c.number_at-end.ensures, add-one) at c.range_between.ensures.0),
  c.range_between.ensures.1,
)
