-- The children are where the index has them; an accepted image has them conforming, so that their numbers are the entry's.
use mathlib.Core.Path.{refl, sym, ap, ◌∙◌}
use borrow.Author.Tests.{lt-ltb}
use Rattle.model.specs.Image.{tree_of}
use Rattle.model.specs.Values.{size}
use Rattle.model.specs.Elements.{element_type_of}
use Rattle.types.proofs.Missing.{there, is_there}
use Rattle.zone_sections.proofs.Parts.{section-kind, own-has, first-has, last_has, found_inside, found-flat, start_by, width_by, entry_made}
use Rattle.zone_sections.proofs.entry.entry_of.Goals as goal

pub range-requires : goal.range-requires
range-requires c = let p = c.requires in record { index = (p.1, p.0.inside); p_value = section-kind p.0 }

pub unwrap-range-requires : goal.unwrap-range-requires
unwrap-range-requires c = is_there _ _ c.range.ensures ∙ lt-ltb _ _ (first-has c.requires.0 refl).inside

pub offsets-offsets-requires : goal.offsets-offsets-requires
offsets-offsets-requires c = let p = c.requires in record { index = (p.1, p.0.inside); p_value = section-kind p.0 }

pub connectivity-connectivity-requires : goal.connectivity-connectivity-requires
connectivity-connectivity-requires c = let p = c.requires in record { index = (p.1, p.0.inside); p_value = section-kind p.0 }

pub whole-element_type-requires : goal.whole-element_type-requires
whole-element_type-requires c = let p = c.requires.0 in (p.accepted.sound, own-has p)

pub parents_of-parents-requires : goal.parents_of-parents-requires
unfolding element_type_of
parents_of-parents-requires c =
    let p = c.requires in
    record { index = (p.1, p.0.inside); s_value = section-kind p.0; element_type_value = c.whole-element_type.ensures }

pub whole-requires : goal.whole-requires
whole-requires c =
    let p = c.requires.0 in
    (p.accepted.sound, first-has p (there (sym c.unwrap-range.ensures ∙ c.range.ensures)).0)

pub whole-requires-2 : goal.whole-requires-2
whole-requires-2 c =
    let p = c.requires.0 in
    (p.accepted.sound, last_has p (there (sym c.unwrap-range.ensures ∙ c.range.ensures)).0)

pub start_of-requires : goal.start_of-requires
start_of-requires c = (c.requires.0.accepted.sound, λ j q. (there (sym q ∙ c.offsets-offsets.ensures)).1)

pub width_at-requires : goal.width_at-requires
width_at-requires c = (c.requires.0.accepted.sound, λ j q. (there (sym q ∙ c.offsets-offsets.ensures)).1)

pub start_of-requires-2 : goal.start_of-requires-2
start_of-requires-2 c = (c.requires.0.accepted.sound, λ j q. (there (sym q ∙ c.connectivity-connectivity.ensures)).1)

pub width_at-requires-2 : goal.width_at-requires-2
width_at-requires-2 c = (c.requires.0.accepted.sound, λ j q. (there (sym q ∙ c.connectivity-connectivity.ensures)).1)

pub unwrap-requires : goal.unwrap-requires
unwrap-requires c = is_there _ _ c.connectivity-connectivity.ensures ∙ lt-ltb _ _ (found_inside c.requires.0 refl)

pub size_of-requires : goal.size_of-requires
size_of-requires c =
    let p = c.requires.0 in
    let e = (there (sym c.unwrap.ensures ∙ c.connectivity-connectivity.ensures)).0 in
    ((p.accepted.sound, found_inside p e), found-flat p e)

pub start_of-requires-3 : goal.start_of-requires-3
start_of-requires-3 c = (c.requires.0.accepted.sound, λ j q. (there (sym q ∙ c.parents_of-parents.ensures)).1)

pub width_at-requires-3 : goal.width_at-requires-3
width_at-requires-3 c = (c.requires.0.accepted.sound, λ j q. (there (sym q ∙ c.parents_of-parents.ensures)).1)

pub returns : goal.returns
returns c =
    rw (
      width_by _ _ _ c.parents_of-parents.ensures c.width_at-3.ensures,
      start_by _ _ _ c.parents_of-parents.ensures c.start_of-3.ensures,
      c.size_of.ensures ∙ ap (size (tree_of c.args.image.now)) (there (sym c.unwrap.ensures ∙ c.connectivity-connectivity.ensures)).0,
      width_by _ _ _ c.connectivity-connectivity.ensures c.width_at-2.ensures,
      start_by _ _ _ c.connectivity-connectivity.ensures c.start_of-2.ensures,
      width_by _ _ _ c.offsets-offsets.ensures c.width_at.ensures,
      start_by _ _ _ c.offsets-offsets.ensures c.start_of.ensures,
      c.whole-2.ensures,
      c.whole.ensures,
      c.whole-element_type.ensures,
    )
    (entry_made c.requires.0 (there (sym c.unwrap-range.ensures ∙ c.range.ensures)).0 refl refl refl)
