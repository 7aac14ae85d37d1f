-- The search comes to the head of the sections that are left, and its entry is the answer.
use mathlib.Core.Path.{sym, ap, ◌∙◌}
use Rattle.model.specs.Image.{tree_of}
use Rattle.model.specs.Sections.{entry}
use Rattle.zone_sections.proofs.After.{next_some, next_found, next-is, next-section}
use Rattle.zone_sections.proofs.zones.entry_after.Goals as goal

pub section_after-requires : goal.section_after-requires
section_after-requires c = let p = c.requires in (p.indexed, p.inside)

pub unwrap-s-requires : goal.unwrap-s-requires
unwrap-s-requires c = let p = c.requires in rw c.section_after.ensures (next_some _ _ _ p.inside p.some)

pub entry_of-requires : goal.entry_of-requires
entry_of-requires c =
    let p = c.requires in
    (rw (← next_found _ _ _ p.inside p.some (sym c.unwrap-s.ensures ∙ c.section_after.ensures)) at (next-section _ _ _ p.inside p.some p.accepted), p.indexed)

pub returns : goal.returns
returns c =
    let t = tree_of c.args.image.now in
    let p = c.requires in
    c.entry_of.ensures ∙ ap (entry t) (next_found _ _ _ p.inside p.some (sym c.unwrap-s.ensures ∙ c.section_after.ensures) ∙ next-is _ _ _ p.inside p.some)
