-- Four tests, one after the other.
use borrow.Author.Tests.{lt-leb, le-leb}
use Rattle.sids.proofs.zone.unstructured_sizes.Goals as goal

pub returns-then-vertices-lt1 : goal.returns-then-vertices-lt1
returns-then-vertices-lt1 c = rw (lt-leb _ _ c.if-vertices-lt1.true)

pub returns-then-vertices-gt-MAX_NUMBER : goal.returns-then-vertices-gt-MAX_NUMBER
returns-then-vertices-gt-MAX_NUMBER c = rw (le-leb _ _ c.if-vertices-lt1.false, lt-leb _ _ c.if-vertices-gt-MAX_NUMBER.true)

pub returns-then-cells-gt-MAX_NUMBER : goal.returns-then-cells-gt-MAX_NUMBER
returns-then-cells-gt-MAX_NUMBER c = rw (le-leb _ _ c.if-vertices-lt1.false, le-leb _ _ c.if-vertices-gt-MAX_NUMBER.false, lt-leb _ _ c.if-cells-gt-MAX_NUMBER.true)

pub returns : goal.returns
returns c = rw (le-leb _ _ c.if-vertices-lt1.false, le-leb _ _ c.if-vertices-gt-MAX_NUMBER.false, le-leb _ _ c.if-cells-gt-MAX_NUMBER.false)
