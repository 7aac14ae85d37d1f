-- A node that is there has the width of its data type; one that is missing has none.
use mathlib.Core.Path.{sym}
use Rattle.model.proofs.Absent.{absent_width}
use native.Mathlib.Omega.{arith}
use Rattle.zone_sections.proofs.entry.width_at.Goals as goal

pub width_at-requires : goal.width_at-requires
width_at-requires c = (c.requires.0.laid, c.requires.1 _ c.in-Some.is)

pub returns-in-Some : goal.returns-in-Some
returns-in-Some c = rw c.in-Some.is c.width_at.ensures.0

pub returns-in-None : goal.returns-in-None
returns-in-None c = rw c.in-None.is (sym (absent_width _ _ (omega arith)))
