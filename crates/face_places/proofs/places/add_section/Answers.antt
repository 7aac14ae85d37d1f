-- A face section's range is put among the others, and its first face comes after all faces of the sections before it.
use mathlib.Core.Path.{sym, ◌∙◌}
use native.Mathlib.Omega.{arith}
use Rattle.model.proofs.Logic.{and_first}
use Rattle.face_places.proofs.Accepted.{section_by}
use Rattle.face_places.proofs.Gathering.{total-few, room_for_lem, same-ranges, more_ranges}
use Rattle.face_places.proofs.places.add_section.Goals as goal

pub returns-then-not-has_type : goal.returns-then-not-has_type
returns-then-not-has_type c =
    same-ranges c.requires.accepted.0 c.requires.ranges c.requires.accepted.1.1 (sym c.has_type.ensures ∙ c.if-not-has_type.true)

pub span_of-span-requires : goal.span_of-span-requires
span_of-span-requires c =
    section_by c.requires.accepted.0 c.requires.accepted.1.0 _ _ c.requires.accepted.1.1 (and_first _ _ (sym c.has_type.ensures ∙ c.if-not-has_type.false))

pub insert-place-requires : goal.insert-place-requires
insert-place-requires c =
    let r = room_for_lem c.requires.accepted.0 c.requires.ranges c.requires.accepted.1.1 (sym c.has_type.ensures ∙ c.if-not-has_type.false) in
    record { ordered = c.requires.ranges.gathered.ordered; n_in_bounds = (omega (arith, r), omega (arith, r), (let s = c.span_of-span.ensures in omega (arith, s.up, s.most))) }

pub add_place-requires : goal.add_place-requires
add_place-requires c =
    let s = c.span_of-span.ensures in
    let r = room_for_lem c.requires.accepted.0 c.requires.ranges c.requires.accepted.1.1 (sym c.has_type.ensures ∙ c.if-not-has_type.false) in
    record { place_le_n = (c.insert-place.ensures.inside, omega (arith, r)); n_bound = (total-few c.requires.accepted.0 c.requires.ranges (omega arith), omega (arith, s.one, s.up, s.most)) }

pub returns : goal.returns
returns c =
    more_ranges c.requires.accepted.0 c.requires.ranges c.requires.accepted.1.1 (sym c.has_type.ensures ∙ c.if-not-has_type.false) c.span_of-span.ensures
    c.insert-place.ensures c.add_place.ensures (omega (arith, c.add_place.auto.places))
