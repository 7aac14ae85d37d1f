-- Five groups of rules, one after the other.
use mathlib.Core.Path.{refl, sym, ◌∙◌}
use Rattle.model.proofs.Staging.{stop, go, passes}
use Rattle.writer_model.specs.Writer.{Addition}
use Rattle.writer_model.specs.Writer.{addition}
use Rattle.writer.proofs.Calls.{turn_room, addition_groups}
use Rattle.writer.proofs.addition_stage.Goals as goal

pub returns-in_err-turn_stage : goal.returns-in_err-turn_stage
returns-in_err-turn_stage c =
    let p = c.args in
    let a : Addition = addition p.name.now p.label.now p.data_type.now p.dimensions.now p.parent p.bytes.now in
    stop c.turn_stage.ensures _ _ _ c.in_err-turn_stage.was c.from_residual.ensures.1 ∙ sym (addition_groups p.state a p.room.now)

pub line_stage-requires : goal.line_stage-requires
line_stage-requires c = turn_room _ _ (passes c.turn_stage.ensures c.in_ok-turn_stage.was)

pub returns-in_err-line_stage : goal.returns-in_err-line_stage
returns-in_err-line_stage c =
    let p = c.args in
    let a : Addition = addition p.name.now p.label.now p.data_type.now p.dimensions.now p.parent p.bytes.now in
    go c.turn_stage.ensures c.in_ok-turn_stage.was
    (stop (c.line_stage.ensures a refl) _ _ _ c.in_err-line_stage.was c.from_residual-in_err-line_stage.ensures.1)
    ∙ sym (addition_groups p.state a p.room.now)

pub text_stage-requires : goal.text_stage-requires
text_stage-requires c = turn_room _ _ (passes c.turn_stage.ensures c.in_ok-turn_stage.was)

pub returns-in_err-text_stage : goal.returns-in_err-text_stage
returns-in_err-text_stage c =
    let p = c.args in
    let a : Addition = addition p.name.now p.label.now p.data_type.now p.dimensions.now p.parent p.bytes.now in
    go c.turn_stage.ensures c.in_ok-turn_stage.was
    (go (c.line_stage.ensures a refl) c.in_ok-line_stage.was
    (stop (c.text_stage.ensures a refl refl refl) _ _ _ c.in_err-text_stage.was c.from_residual-in_err-text_stage.ensures.1))
    ∙ sym (addition_groups p.state a p.room.now)

pub returns-in_err-type_stage : goal.returns-in_err-type_stage
returns-in_err-type_stage c =
    let p = c.args in
    let a : Addition = addition p.name.now p.label.now p.data_type.now p.dimensions.now p.parent p.bytes.now in
    go c.turn_stage.ensures c.in_ok-turn_stage.was
    (go (c.line_stage.ensures a refl) c.in_ok-line_stage.was
    (go (c.text_stage.ensures a refl refl refl) c.in_ok-text_stage.was
    (stop (c.type_stage.ensures a refl refl) _ _ _ c.in_err-type_stage.was c.from_residual-in_err-type_stage.ensures.1)))
    ∙ sym (addition_groups p.state a p.room.now)

pub returns : goal.returns
returns c =
    let p = c.args in
    let a : Addition = addition p.name.now p.label.now p.data_type.now p.dimensions.now p.parent p.bytes.now in
    go c.turn_stage.ensures c.in_ok-turn_stage.was
    (go (c.line_stage.ensures a refl) c.in_ok-line_stage.was
    (go (c.text_stage.ensures a refl refl refl) c.in_ok-text_stage.was
    (go (c.type_stage.ensures a refl refl) c.in_ok-type_stage.was
    (c.size_stage.ensures a refl refl refl))))
    ∙ sym (addition_groups p.state a p.room.now)
