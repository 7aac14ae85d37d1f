-- The entry of the section's first face gets its array.
use Prim.Native.Nat.{ℕ, ◌<◌}
use mathlib.Core.Path.{◌≡◌, sym, ◌∙◌}
use mathlib.Core.Bool.{true}
use native.Mathlib.Omega.{arith}
use borrow.Author.Tests.{eqb-true}
use Rattle.std.proofs.Common.{Some}
use Rattle.ranges.specs.Tables.{holds}
use Rattle.model.specs.Image.{tree_of}
use Rattle.model.specs.Containment.{section_of}
use Rattle.model.specs.Elements.{face_section, parents_of}
use Rattle.model.proofs.Logic.{and_first, and_second}
use Rattle.face_places.proofs.Accepted.{section_by, section-kind, face-section-is}
use Rattle.face_places.proofs.Gathering.{few-ranges}
use Rattle.face_parents.proofs.Columns.{parents_most, looked_up}
use Rattle.agreement.proofs.ArrayLaws.{arrays_same, entry-there, arrays_more}
use Rattle.agreement.proofs.arrays.put_array.Goals as goal
use Rattle.agreement.proofs.arrays.put_array.Goals.{After-find, After-unwrap_or}

pub returns-then-not-has_type : goal.returns-then-not-has_type
returns-then-not-has_type c =
    arrays_same c.requires.accepted.0 c.requires.in_tables c.requires.arrays c.requires.accepted.1.1
    (face-section-is c.requires.accepted.0 c.args.z c.args.s c.requires.accepted.1.1 ∙ sym c.has_type.ensures ∙ c.if-not-has_type.true)

pub span_of-span-requires : goal.span_of-span-requires
span_of-span-requires c =
    section_by c.requires.accepted.0 c.requires.accepted.1.0 _ _ c.requires.accepted.1.1 (and_first _ _ (sym c.has_type.ensures ∙ c.if-not-has_type.false))

pub find-requires : goal.find-requires
find-requires c =
    (c.requires.in_tables.1.gathered.ordered, omega (arith, c.span_of-span.ensures.up, c.span_of-span.ensures.most))

pub parents_of-requires : goal.parents_of-requires
parents_of-requires c =
    let t = sym c.has_type.ensures ∙ c.if-not-has_type.false in
    let s = section_of (tree_of c.args.image.now) c.args.z c.args.s in
    record { index = (c.requires.accepted.1.0, c.requires.accepted.1.1); s_value = section-kind (section_by c.requires.accepted.0 c.requires.accepted.1.0 _ _ c.requires.accepted.1.1 (and_first s _ t)); element_type_value = sym (eqb-true _ _ (and_second s _ t)) }

-- what the look-up tells
face-section : (c : After-find) → face_section (tree_of c.args.image.now) c.args.z c.args.s ≡ true
face-section c =
    face-section-is c.requires.accepted.0 c.args.z c.args.s c.requires.accepted.1.1 ∙ sym c.has_type.ensures ∙ c.if-not-has_type.false

pub unwrap-j-requires : goal.unwrap-j-requires
unwrap-j-requires c =
    let f = (goal.at.unwrap-j-requires c).After-find in
    entry-there f.requires.accepted.0 f.requires.in_tables f.requires.arrays f.requires.accepted.1.1 (face-section f) f.span_of-span.ensures.is-first _ f.find.ensures

found : (f : After-find) → {j : ℕ} → f.find.result ≡ Some j → (j < f.args.n) × (holds f.args.firsts.now f.args.reach.now f.span_of-span.result.first j ≡ true)
found f e = rw e at f.find.ensures

-- what is put there
array-is : (c : After-unwrap_or) → c.unwrap_or.result ≡ parents_of (tree_of c.args.image.now) c.args.s
array-is c = c.unwrap_or.ensures ∙ rw c.node_count-none.ensures.0 (looked_up _ _ _ c.parents_of.ensures)

pub bounds-arrays-j : goal.bounds-arrays-j
bounds-arrays-j c =
    omega (arith, c.requires.arrays.room, (found (goal.at.bounds-arrays-j c).After-find c.unwrap-j.ensures).0)

pub overflow_cast-arrays : goal.overflow_cast-arrays
overflow_cast-arrays c =
    omega (arith, array-is (goal.at.overflow_cast-arrays c).After-unwrap_or, parents_most c.args.image.now c.args.s, c.requires.accepted.0.sound.laid.few)

pub offset_bounds-arrays-j : goal.offset_bounds-arrays-j
offset_bounds-arrays-j c =
    omega (arith, (found (goal.at.offset_bounds-arrays-j c).After-find c.unwrap-j.ensures).0, few-ranges c.requires.accepted.0 c.requires.in_tables.1)

pub returns : goal.returns
returns c =
    let f = (goal.at.returns c).After-find in
    arrays_more f.requires.accepted.0 f.requires.in_tables f.requires.arrays f.requires.accepted.1.1 (face-section f) f.span_of-span.ensures.is-first (found f c.unwrap-j.ensures) (array-is (goal.at.returns c).After-unwrap_or)
