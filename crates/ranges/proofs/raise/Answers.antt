-- The entries before k are raised; where entry k is not below, none after it is, for they rise.
use Rattle.std.proofs.Common.{arith}
use Rattle.ranges.proofs.Moving.{raised_more, raised_all}
use Rattle.ranges.proofs.raise.Goals as goal

pub returns-then-least-table : goal.returns-then-least-table
returns-then-least-table c = raised_all c.loop-k.invariant (omega arith) c.requires.1 (λ h. c.if-least-table.true)

pub loop-k-preserved : goal.loop-k-preserved
loop-k-preserved c = let l = c.loop-k in raised_more l.invariant (omega arith) (omega arith) c.if-least-table.false

pub returns : goal.returns
returns c = raised_all c.loop-k.invariant (omega arith) c.requires.1 (λ h. absurd (omega arith))
