-- Two tests in order.
use mathlib.Core.Path.{sym}
use borrow.Author.Tests.{le-leb, lt-leb}
use Rattle.model.proofs.Staging.{holds, fails, no_rule}
use Rattle.writer.proofs.end_stage.Goals as goal

pub returns-then-room-needed_room : goal.returns-then-room-needed_room
returns-then-room-needed_room c = fails 0 46 _ (rw (← c.needed_room.ensures) (lt-leb _ _ c.if-room-needed_room.true)) c.reject.ensures

pub returns-then-state : goal.returns-then-state
returns-then-state c =
    holds 0 46 _ (rw (← c.needed_room.ensures) (le-leb _ _ c.if-room-needed_room.false)) (fails 0 51 _ (lt-leb _ _ c.if-state.true) c.reject-then-state.ensures)

pub returns : goal.returns
returns c =
    holds 0 46 _ (rw (← c.needed_room.ensures) (le-leb _ _ c.if-room-needed_room.false)) (holds 0 51 _ (le-leb _ _ c.if-state.false) (sym (no_rule 0)))
