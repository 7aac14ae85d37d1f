-- The face is in the section's range, and the two columns have a number for each face of it.
use Prim.Native.Nat.{ℕ}
use mathlib.Core.Path.{◌≡◌, ap}
use native.Mathlib.Omega.{arith}
use Rattle.std.proofs.Common.{Option}
use Rattle.std.specs.Option.{unwrap_or}
use Rattle.face_parents.proofs.Columns.{columns_long}
use Rattle.face_parents.proofs.OneFace.{in_span, row-long, stored_pair}
use Rattle.face_parents.proofs.face.stored_parents.Goals as goal

pub parents_row-row-requires : goal.parents_row-row-requires
parents_row-row-requires c =
    record {
      sound = c.requires.section.0.accepted.sound;
      columns = λ j q. let e : c.args.a ≡ j = ap (λ (o : Option ℕ). unwrap_or o 0) q in rw (← e, columns_long c.requires.a_value.1) c.requires.a_value.1;
    }

pub overflow_sub-k : goal.overflow_sub-k
overflow_sub-k c = (in_span c.span_of-span.ensures _ c.requires.section.1).0

pub number_at-first-requires : goal.number_at-first-requires
number_at-first-requires c =
    let g = c.span_of-span.ensures in
    let w = c.parents_row-row.ensures in
    (w.numbers, omega (arith, in_span g _ c.requires.section.1, row-long g _ c.requires.section.1 c.requires.a_value.0 c.requires.a_value.1 w))

pub overflow_add-n-2 : goal.overflow_add-n-2
overflow_add-n-2 c =
    let g = c.span_of-span.ensures in
    record { fits = omega (arith, in_span g _ c.requires.section.1, g.most) }

pub number_at-second-requires : goal.number_at-second-requires
number_at-second-requires c =
    let g = c.span_of-span.ensures in
    let w = c.parents_row-row.ensures in
    (w.numbers, omega (arith, in_span g _ c.requires.section.1, row-long g _ c.requires.section.1 c.requires.a_value.0 c.requires.a_value.1 w))

pub returns : goal.returns
returns c =
    stored_pair c.span_of-span.ensures _ c.requires.section.1 c.requires.a_value.0 c.requires.a_value.1
    c.parents_row-row.ensures c.number_at-first.ensures c.number_at-second.ensures
