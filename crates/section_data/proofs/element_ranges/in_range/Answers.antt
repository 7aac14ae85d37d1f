-- The range stores its two numbers.
use native.Mathlib.Omega.{arith}
use borrow.Author.Tests.{le-leb, lt-leb}
use Rattle.model.specs.Elements.{in_range}
use Rattle.section_data.proofs.Stored.{stores-has}
use Rattle.section_data.proofs.ArrayLaws.{first_by, last_by}
use Rattle.section_data.proofs.element_ranges.in_range.Goals as goal

pub whole-first-requires : goal.whole-first-requires
whole-first-requires c = let p = c.requires in (p.0, rw p.1.0 (stores-has p.0 p.1.1.range 0 (omega arith)))

pub whole-last-requires : goal.whole-last-requires
whole-last-requires c = let p = c.requires in (p.0, rw p.1.0 (stores-has p.0 p.1.1.range 1 (omega arith)))

pub returns-then-first-e : goal.returns-then-first-e
unfolding in_range
returns-then-first-e c =
    let p = c.requires in
    rw (
      ← first_by _ _ _ _ p.1.0 c.whole-first.ensures,
      ← last_by _ _ _ _ p.1.0 c.whole-last.ensures,
      le-leb _ _ c.if-first-e.true,
    )

pub returns-else-first-e : goal.returns-else-first-e
unfolding in_range
returns-else-first-e c =
    let p = c.requires in rw (← first_by _ _ _ _ p.1.0 c.whole-first.ensures, lt-leb _ _ c.if-first-e.false)
