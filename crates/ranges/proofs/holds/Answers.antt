-- The two tests are those of the definition.
use Rattle.std.proofs.Common.{le-leb}
use borrow.Author.Tests.{lt-leb}
use Rattle.ranges.specs.Tables.{meets_at}
use Rattle.ranges.proofs.holds.Goals as goal

pub returns-then-f-firsts : goal.returns-then-f-firsts
unfolding meets_at
returns-then-f-firsts c = rw (lt-leb _ _ c.if-f-firsts.true)

pub returns : goal.returns
unfolding meets_at
returns c = rw (le-leb _ _ c.if-f-firsts.false)
