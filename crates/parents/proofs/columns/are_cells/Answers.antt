-- Every number before k is a parent: known ones are, and a number that was looked up where it was found. Number k is not known.
use Rattle.ranges.proofs.Intervals.{none-covered}
use Rattle.section_data.proofs.Passing.{passed_more, passed_on, passed_every, failed_every}
use Rattle.parents.proofs.ColumnLaws.{not_none, known_parents, found-parent, no_parent_lem}
use native.Mathlib.Omega.{arith}
use Rattle.parents.proofs.columns.are_cells.Goals as goal

pub loop-k-init : goal.loop-k-init
loop-k-init c =
    (known_parents _ c.requires.cells _ _ _ _ (none-covered _ _ _ _) c.first_unknown-k.ensures.passed, λ h. not_none _ _ _ _ _ (c.first_unknown-k.ensures.result_value h))

pub interval_of-requires : goal.interval_of-requires
interval_of-requires c = (c.requires.cells.ordered, c.requires.numbers.1)

pub returns-in_default : goal.returns-in_default
returns-in_default c =
    let h = c.loop-k-test.true in
    failed_every _ _ _ h (no_parent_lem _ c.requires.cells _ _ _ _ _ c.number_at-x.ensures (c.loop-k.invariant.1 h) c.in_default.ensures)

pub first_unknown-k-requires-in-loop-k : goal.first_unknown-k-requires-in-loop-k
first_unknown-k-requires-in-loop-k c =
    record { numbers = (c.requires.numbers.0, omega (arith, c.loop-k-test.true)); size_bound = c.in-Some.ensures.0.small }

pub loop-k-preserved : goal.loop-k-preserved
loop-k-preserved c =
    let g = c.requires.cells in (
      passed_on (passed_more c.loop-k.invariant.0 c.loop-k-test.true
          (found-parent _ g _ _ _ _ _ c.number_at-x.ensures c.in-Some.ensures.0 c.in-Some.ensures.1)) (known_parents _ g _ _ _ _ c.in-Some.ensures.0 c.first_unknown-k-in-loop-k.ensures.passed),
      λ h. not_none _ _ _ _ _ (c.first_unknown-k-in-loop-k.ensures.result_value h),
    )

pub overflow_add-k : goal.overflow_add-k
overflow_add-k c = omega (arith, c.loop-k-test.true, c.well_formed.1.1.0)

pub loop-k-smaller : goal.loop-k-smaller
loop-k-smaller c = omega (arith, c.loop-k-test.true, c.first_unknown-k-in-loop-k.ensures.passed.from)

pub returns : goal.returns
returns c = passed_every c.loop-k.invariant.0 (omega arith)
