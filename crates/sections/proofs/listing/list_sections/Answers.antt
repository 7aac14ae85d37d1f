-- Each turn stores the entry of the next section; in the end the memory is that of the call.
use Rattle.std.proofs.Common.{◌<◌, length, arith}
use borrow.Author.Rules.{scaled_Fits}
use Rattle.sections.proofs.Answered.{due, answered_memory}
use Rattle.sections.proofs.Filling.{none-stored, onward, one-stored}
use Rattle.sections.proofs.listing.list_sections.Goals as goal

pub loop-i-init : goal.loop-i-init
loop-i-init c = none-stored (due _ _ _ _ _ c.sections_answer-answer.ensures.result_value c.sections_answer-answer.ensures.index c.answered_count-n.ensures)

pub entry_after-e-requires : goal.entry_after-e-requires
entry_after-e-requires c =
    let d = due _ _ _ _ _ c.sections_answer-answer.ensures.result_value c.sections_answer-answer.ensures.index c.answered_count-n.ensures in
    onward d c.loop-i.invariant (omega arith)

pub bounds-out-i : goal.bounds-out-i
bounds-out-i c =
    let d = due _ _ _ _ _ c.sections_answer-answer.ensures.result_value c.sections_answer-answer.ensures.index c.answered_count-n.ensures in
    omega (arith, d.few, c.loop-i.invariant.same)

pub loop-i-preserved : goal.loop-i-preserved
loop-i-preserved c =
    let d = due _ _ _ _ _ c.sections_answer-answer.ensures.result_value c.sections_answer-answer.ensures.index c.answered_count-n.ensures in
    one-stored d c.loop-i.invariant (omega arith) c.entry_after-e.ensures

pub returns : goal.returns
returns c = (
  c.sections_answer-answer.ensures.result_value,
  answered_memory c.loop-i.invariant (omega arith) _ c.sections_answer-answer.ensures.result_value c.answered_count-n.ensures,
)

pub offset_bounds-out-i : goal.offset_bounds-out-i
offset_bounds-out-i c =
    let d = due _ _ _ _ _ c.sections_answer-answer.ensures.result_value c.sections_answer-answer.ensures.index c.answered_count-n.ensures in
    let within : c.loop-i.i < length c.args.out.now = omega (arith, d.few) in
    scaled_Fits c.loop-i.i (length c.args.out.now) 88 within c.well_formed.0.1
