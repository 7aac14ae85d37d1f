-- The size fits what the total leaves after the sum.
use native.Mathlib.Omega.{arith}
use Prim.Native.Nat.{◌+◌}
use mathlib.Core.Path.{sym}
use borrow.Author.Tests.{lt-leb}
use Rattle.table.proofs.Laws.{within_rest}
use Rattle.writer_rules.proofs.sizes.fits.Goals as goal

pub returns-then-total-sum : goal.returns-then-total-sum
returns-then-total-sum c = let a = c.args in sym (lt-leb (a.sum + a.size) a.total (omega arith))

pub returns : goal.returns
returns c = let a = c.args in within_rest a.sum a.size a.total (omega arith)
