-- The sum as the paper has it.
use mathlib.Core.Path.{refl}
use Rattle.writer_model.specs.Writer.{room_for}
use Rattle.writer.proofs.room_for.Goals as goal

pub returns : goal.returns
unfolding room_for
returns c = refl
