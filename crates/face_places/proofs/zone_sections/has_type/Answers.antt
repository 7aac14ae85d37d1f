-- The type of a section is the first of its numbers.
use mathlib.Core.Path.{sym, ap, ◌∙◌}
use Prim.Native.Nat.{ℕ}
use lib.Dec.{eqb}
use Rattle.model.specs.Elements.{element_type_of}
use Rattle.model.proofs.Joins.{and_on}
use Rattle.face_places.proofs.Accepted.{section-has}
use Rattle.face_places.proofs.zone_sections.has_type.Goals as goal

pub whole-requires : goal.whole-requires
whole-requires c =
    (c.requires.0.sound, section-has c.requires.0 c.args.z c.args.s c.requires.1.1 (sym c.section_of.ensures ∙ c.if-not-section_of.false))

pub returns : goal.returns
unfolding element_type_of
returns c =
    and_on c.section_of.ensures (c.if-not-section_of.false) (ap (λ (x : ℕ). eqb x c.args.e) c.whole.ensures)
