-- Two bytes of a list, one after the other.
use native.Mathlib.Omega.{arith}
use mathlib.Core.Path.{sym}
use Rattle.records.proofs.Codes.{pair_from}
use Rattle.records.proofs.fields.pair_at.Goals as goal

pub returns : goal.returns
returns c = let a = c.args in sym (pair_from a.table.now a.at (omega arith))
