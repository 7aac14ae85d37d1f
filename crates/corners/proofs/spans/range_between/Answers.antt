-- An end below half of the patterns that is above the start: neither is negative.
use borrow.Author.Tests.{le-leb, lt-leb}
use Rattle.corners.proofs.Ranges.{end-negative, not_rising, rising}
use Rattle.corners.proofs.spans.range_between.Goals as goal
use Rattle.corners.proofs.spans.range_between.Goals.{then-half_of-end-via-then-half_of-end, then-half_of-end-via-else-half_of-end+then-end-start, then-half_of-end-via-else-half_of-end+else-end-start+then-length-end}

pub returns-then-half_of-end : goal.returns-then-half_of-end
returns-then-half_of-end c =
    let h = c.half_of.ensures in
    elim c.then-half_of-end.branch [
      | then-half_of-end-via-then-half_of-end w ↦ (end-negative _ _ _ _ (rw h at w.if-half_of-end.true), tt)
      | then-half_of-end-via-else-half_of-end+then-end-start w ↦ (not_rising _ _ _ _ w.if-end-start.true, tt)
      | then-half_of-end-via-else-half_of-end+else-end-start+then-length-end w ↦ (
        rw (rising _ _ _ _ w.if-end-start.false (rw h at w.if-half_of-end.false), lt-leb _ _ w.if-length-end.true),
        tt,
      )
    ]

pub returns : goal.returns
returns c = (
  rw (
    rising _ _ _ _ c.if-end-start.false (rw c.half_of.ensures at c.if-half_of-end.false),
    le-leb _ _ c.if-length-end.false,
  ),
  (c.if-end-start.false, c.if-length-end.false),
)
