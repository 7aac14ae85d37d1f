-- The stage's rejection, or the node written and the next state.
use native.Mathlib.Omega.{arith}
use native.Mathlib.Numerals.{add-one}
use mathlib.Core.Path.{◌≡◌, sym, ◌∙◌}
use Rattle.model.specs.Rules.{passed}
use mathlib.Core.List.{[]}
use Rattle.std.proofs.Common.{ℕ}
use Rattle.model.proofs.Staging.{handed, passes, refuses}
use Rattle.writer_model.specs.Writer.{next_state, add_check, add_answer, add_memory}
use Rattle.writer_model.proofs.RoomKept.{below, has_parts}
use Rattle.writer_model.specs.Writer.{addition}
use Rattle.writer.proofs.Calls.{refused, done}
use Rattle.writer.proofs.add.Goals as goal
use Rattle.writer.proofs.add.Goals.{In_ok-addition_stage}

pub returns-in_err-addition_stage : goal.returns-in_err-addition_stage
unfolding add_answer add_memory
returns-in_err-addition_stage c =
    let r = refuses c.addition_stage.ensures c.in_err-addition_stage.was in
    record { result_value = handed _ _ c.from_residual.ensures.1 (sym (refused _ [] [] r).0); room_after = (refused {A = ℕ} 0 _ _ r).1 }

-- the stage passed
sound : (d : In_ok-addition_stage) → let a = d.args in
    add_check a.state (addition a.name.now a.label.now a.data_type.now a.dimensions.now a.parent a.bytes.now) a.room.now ≡ passed
sound d = passes d.addition_stage.ensures d.in_ok-addition_stage.was

pub put_node-requires : goal.put_node-requires
put_node-requires c = sound (goal.at.put_node-requires c).In_ok-addition_stage

pub next_state-requires : goal.next_state-requires
next_state-requires c =
    let d = (goal.at.next_state-requires c).In_ok-addition_stage in
    let a = d.args in
    let h = has_parts _ _ a.room.now (sound d) in
    (below _ _ a.room.now (sound d), (omega (arith, h.words-room), omega (arith, h.bytes-room)))

pub returns : goal.returns
unfolding add_answer add_memory next_state
returns c =
    let d = (goal.at.returns c).In_ok-addition_stage in
    let s = d.args.state in
    let e = done _ _ _ (sound d) in
    record { result_value = rw (c.next_state.ensures, add-one s.node) e.0; room_after = c.put_node.ensures ∙ e.1 }
