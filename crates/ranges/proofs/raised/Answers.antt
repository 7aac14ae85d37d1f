-- Before entry 0 there is none, and no number is below 0.
use Rattle.ranges.proofs.Moving.{entry-before}
use Rattle.std.proofs.Common.{arith}
use Rattle.ranges.proofs.raised.Goals as goal

pub returns : goal.returns
returns c = rw (entry-before _ _ c.if-k-eq0.false) c.greater.ensures

pub returns-then-k-eq0 : goal.returns-then-k-eq0
returns-then-k-eq0 c = rw c.if-k-eq0.true (omega arith)
