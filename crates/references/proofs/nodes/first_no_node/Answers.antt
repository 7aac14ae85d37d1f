-- Every number before 2 * pair lies in 1 to limit.
use Prim.Native.Nat.{◌+◌, ◌*◌, ◌-◌}
use mathlib.Core.Path.{◌≡◌, sym, ◌∙◌}
use native.Mathlib.Omega.{arith}
use Rattle.section_data.proofs.Passing.{passed_none, passed_more}
use Rattle.references.proofs.Failing.{passed-two, failing_here, failing_none, failing_two}
use Rattle.references.proofs.nodes.first_no_node.Goals as goal

pub loop-pair-init : goal.loop-pair-init
loop-pair-init c = passed_none _ _ _ (omega arith)

pub returns-then-not-two_within : goal.returns-then-not-two_within
returns-then-not-two_within c =
    failing_two c.loop-pair.invariant (omega arith) (sym c.two_within.ensures ∙ c.if-not-two_within.true) c.past_within.ensures

pub loop-pair-preserved : goal.loop-pair-preserved
loop-pair-preserved c =
    let e : 2 * c.loop-pair.pair + 2 ≡ 2 * (c.loop-pair.pair + 1) = omega arith in
    rw e at (passed-two c.loop-pair.invariant (omega arith) (sym c.two_within.ensures ∙ c.if-not-two_within.false))

pub returns-then-n-eq0 : goal.returns-then-n-eq0
returns-then-n-eq0 c = failing_none c.loop-pair.invariant (omega arith)

-- the last of an odd number
pub returns-then-is_within : goal.returns-then-is_within
returns-then-is_within c =
    let e : c.args.row.n - 1 ≡ 2 * c.loop-pair.pair = omega arith in
    failing_none (passed_more c.loop-pair.invariant (omega arith) (rw e at (sym c.is_within.ensures ∙ c.if-is_within.true))) (omega arith)

pub returns : goal.returns
returns c =
    let e : 2 * c.loop-pair.pair ≡ c.args.row.n - 1 = omega arith in
    failing_here (rw e at c.loop-pair.invariant) (omega arith) (sym c.is_within.ensures ∙ c.if-is_within.false)
