-- The two tests are those of the contract.
use Rattle.std.proofs.Common.{le-ltb, lt-ltb}
use Rattle.ranges.proofs.entry_holds.Goals as goal

pub returns-then-n-j : goal.returns-then-n-j
returns-then-n-j c = rw (le-ltb _ _ c.if-n-j.true)

pub returns : goal.returns
returns c = rw (lt-ltb _ _ c.if-n-j.false) c.holds.ensures
