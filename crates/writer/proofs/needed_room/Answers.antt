-- The state's own numbers.
use Rattle.writer_model.specs.Writer.{needed_room}
use Rattle.writer.proofs.needed_room.Goals as goal

pub returns : goal.returns
unfolding needed_room
returns c = c.room_for.ensures
