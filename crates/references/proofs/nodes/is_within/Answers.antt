-- The two tests are those of the definition.
use borrow.Author.Tests.{lt-leb, le-leb}
use Rattle.references.specs.Arrays.{is_within}
use Rattle.references.proofs.nodes.is_within.Goals as goal

pub returns-then-x-lt1 : goal.returns-then-x-lt1
unfolding is_within
returns-then-x-lt1 c = rw (← c.number_at-x.ensures, lt-leb 1 _ c.if-x-lt1.true)

pub returns : goal.returns
unfolding is_within
returns c = rw (← c.number_at-x.ensures, le-leb 1 _ c.if-x-lt1.false)
