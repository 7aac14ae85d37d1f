-- A product or an end that does not fit in 64 bits is beyond the length.
use native.Mathlib.Omega.{arith}
use Rattle.corners.proofs.Ranges.{fixed_none, fixed_beyond, fixed_range}
use Rattle.corners.proofs.spans.fixed_span.Goals as goal
use Rattle.corners.proofs.spans.fixed_span.Goals.{then-nodes-eq0-via-then-nodes-eq0, then-nodes-eq0-via-else-nodes-eq0+then-length-end}

pub returns-in_err-start : goal.returns-in_err-start
returns-in_err-start c = rw c.from_residual.ensures (fixed_beyond _ _ _ (omega (arith, c.in_err-start.ensures)), tt)

pub returns-in_err-end : goal.returns-in_err-end
returns-in_err-end c = rw c.from_residual-in_err-end.ensures (fixed_beyond _ _ _ (omega (arith, c.in_ok-start.ensures, c.in_err-end.ensures)), tt)

pub returns-then-nodes-eq0 : goal.returns-then-nodes-eq0
returns-then-nodes-eq0 c =
    elim c.then-nodes-eq0.branch [
      | then-nodes-eq0-via-then-nodes-eq0 w ↦ (fixed_none _ _ _ w.if-nodes-eq0.true, tt)
      | then-nodes-eq0-via-else-nodes-eq0+then-length-end w ↦ (fixed_beyond _ _ _ (omega (arith, c.in_ok-start.ensures, c.in_ok-end.ensures, w.if-length-end.true)), tt)
    ]

pub returns : goal.returns
returns c =
    let s = c.in_ok-start.ensures in
    let e = c.in_ok-end.ensures in
    (rw (e.1, s.1) (fixed_range _ _ _ (omega arith) (omega (arith, s, e, c.if-length-end.false))), (omega (arith, s, e), c.if-length-end.false))
