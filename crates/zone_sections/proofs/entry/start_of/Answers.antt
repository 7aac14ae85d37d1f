-- A node that is there starts where its record says; one that is missing starts nowhere.
use mathlib.Core.Path.{◌∙◌}
use Rattle.zone_sections.proofs.Parts.{present_start, absent_start}
use native.Mathlib.Omega.{arith}
use Rattle.zone_sections.proofs.entry.start_of.Goals as goal

pub data_start-requires : goal.data_start-requires
data_start-requires c = (c.requires.0, c.requires.1 _ c.in-Some.is)

pub returns-in-Some : goal.returns-in-Some
returns-in-Some c = rw c.in-Some.is (c.data_start.ensures.0 ∙ present_start _ _ (c.requires.1 _ c.in-Some.is))

pub returns-in-None : goal.returns-in-None
returns-in-None c = rw c.in-None.is (absent_start _ _ (omega arith))
