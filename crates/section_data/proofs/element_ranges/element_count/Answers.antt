-- The range stores its two numbers, the last no less than the first.
use native.Mathlib.Omega.{arith}
use Rattle.section_data.proofs.Stored.{stores-has}
use Rattle.section_data.proofs.ArrayLaws.{first_by, last_by, count_by}
use Rattle.section_data.proofs.element_ranges.element_count.Goals as goal

pub whole-first-requires : goal.whole-first-requires
whole-first-requires c = let p = c.requires in (p.0, rw p.1.0 (stores-has p.0 p.1.1.range 0 (omega arith)))

pub whole-last-requires : goal.whole-last-requires
whole-last-requires c = let p = c.requires in (p.0, rw p.1.0 (stores-has p.0 p.1.1.range 1 (omega arith)))

pub overflow_sub-result : goal.overflow_sub-result
overflow_sub-result c =
    let p = c.requires.1 in
    omega (arith, p.1.up, first_by _ _ _ _ p.0 c.whole-first.ensures, last_by _ _ _ _ p.0 c.whole-last.ensures)

pub overflow_add-result : goal.overflow_add-result
overflow_add-result c = let p = c.requires.1 in omega (arith, p.1.most, last_by _ _ _ _ p.0 c.whole-last.ensures)

pub returns : goal.returns
returns c =
    let p = c.requires.1 in
    let first = first_by _ _ _ _ p.0 c.whole-first.ensures in
    let last = last_by _ _ _ _ p.0 c.whole-last.ensures in
    (count_by _ _ first last, omega (arith, p.1.one, p.1.up, p.1.most, first, last))
