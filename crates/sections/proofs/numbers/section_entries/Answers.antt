-- The answer is that of the call, and what it tells of is written.
use mathlib.Core.Path.{refl}
use Rattle.sections.proofs.numbers.section_entries.Goals as goal

pub write_entries-requires : goal.write_entries-requires
write_entries-requires c = record { answer_value = c.sections_answer-answer.ensures.result_value; index = c.sections_answer-answer.ensures.index }

pub returns : goal.returns
returns c =
    (c.sections_answer-answer.ensures.result_value, c.write_entries.ensures)

pub slice_bounds-sections_answer-end : goal.slice_bounds-sections_answer-end
slice_bounds-sections_answer-end c = refl
