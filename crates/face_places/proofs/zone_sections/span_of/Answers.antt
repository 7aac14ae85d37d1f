-- The range of a section of an accepted image conforms, so that its two numbers can be read.
use mathlib.Core.Path.{refl, sym, ◌∙◌}
use native.Mathlib.Omega.{arith}
use borrow.Author.Tests.{lt-ltb}
use Rattle.types.proofs.Missing.{there, is_there}
use Rattle.face_places.proofs.Accepted.{section-kind, range-has, spans}
use Rattle.face_places.proofs.zone_sections.span_of.Goals as goal

pub range_of-requires : goal.range_of-requires
range_of-requires c = let p = c.requires in record { index = (p.indexed, p.inside); s_value = section-kind p }

pub unwrap-range-requires : goal.unwrap-range-requires
unwrap-range-requires c = is_there _ _ c.range_of.ensures ∙ lt-ltb _ _ (range-has c.requires refl 0 (omega arith)).inside

pub whole-requires : goal.whole-requires
whole-requires c =
    let p = c.requires in (p.accepted.sound, range-has p (there (sym c.unwrap-range.ensures ∙ c.range_of.ensures)).0 0 (omega arith))

pub whole-requires-2 : goal.whole-requires-2
whole-requires-2 c =
    let p = c.requires in (p.accepted.sound, range-has p (there (sym c.unwrap-range.ensures ∙ c.range_of.ensures)).0 1 (omega arith))

pub returns : goal.returns
returns c =
    spans c.requires (there (sym c.unwrap-range.ensures ∙ c.range_of.ensures)).0 c.whole.ensures c.whole-2.ensures
