-- A rejection leaves all as it was; a count is that of all the zone's sections, which have room.
use mathlib.Core.Path.{sym, ap, ◌∙◌}
use Rattle.model.specs.Sections.{section_numbers_memory}
use Rattle.model.specs.Answers.{count_tells}
use Rattle.sections.proofs.Answered.{counts, count-leaves, rejection-leaves}
use native.Mathlib.Omega.{arith}
use Rattle.sections.proofs.numbers.write_entries.Goals as goal

pub returns-in_default : goal.returns-in_default
unfolding section_numbers_memory
returns-in_default c =
    rejection-leaves _ _ _ _ _ (sym (ap count_tells c.in_default.is) ∙ c.requires.answer_value)

pub fill-requires : goal.fill-requires
fill-requires c =
    let q = counts _ _ _ (sym (ap count_tells c.in-Ok.is) ∙ c.requires.answer_value) in
    record { index = c.requires.index q.is-accepted.image; accepted = (q.is-accepted, q.zone-inside); n_value = (q.all, omega (arith, q.fits)) }

pub returns : goal.returns
unfolding section_numbers_memory
returns c =
    c.fill.ensures ∙ count-leaves _ _ _ _ _ (sym (ap count_tells c.in-Ok.is) ∙ c.requires.answer_value)
