-- Three tests, one after the other.
use borrow.Author.Rules.{rules}
use borrow.Author.Tests.{lt-leb, le-leb}
use Rattle.types.proofs.StoredNumbers.{has_less}
use Rattle.types.proofs.stored_numbers.pair_within.Goals as goal

pub whole-first-requires : goal.whole-first-requires
whole-first-requires c = (search rules, has_less _ _ 1 0 c.requires.1 (search rules))

pub returns-then-first-lt1 : goal.returns-then-first-lt1
returns-then-first-lt1 c = rw (← c.whole-first.ensures, lt-leb _ _ c.if-first-lt1.true)

pub returns-then-last-first : goal.returns-then-last-first
returns-then-last-first c =
    rw (← c.whole-first.ensures, ← c.whole-last.ensures, le-leb _ _ c.if-first-lt1.false, lt-leb _ _ c.if-last-first.true)

pub returns : goal.returns
returns c =
    rw (← c.whole-first.ensures, ← c.whole-last.ensures, le-leb _ _ c.if-first-lt1.false, le-leb _ _ c.if-last-first.false)
