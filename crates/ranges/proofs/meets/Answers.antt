-- Whether an entry was found.
use Rattle.std.proofs.Common.{◌∙◌}
use Rattle.ranges.proofs.Halving.{found_any}
use Rattle.ranges.proofs.meets.Goals as goal

pub returns : goal.returns
returns c = c.is_some.ensures ∙ found_any _ _ _ _ _ _ c.meeting.ensures
