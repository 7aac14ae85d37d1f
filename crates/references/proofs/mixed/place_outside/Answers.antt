-- Every node before k lies in 1 to limit; behind the type the nodes follow.
use mathlib.Core.Path.{sym, ◌∙◌}
use native.Mathlib.Omega.{arith}
use Rattle.section_data.proofs.Passing.{passed_more}
use Rattle.references.proofs.Failing.{failing_place, failing_no_place}
use Rattle.references.proofs.mixed.place_outside.Goals as goal

pub returns-then-not-is_within : goal.returns-then-not-is_within
returns-then-not-is_within c = (
  λ h. absurd (omega (arith, c.if-place-gt0.false)),
  λ e. failing_place c.loop-k.invariant (omega arith) (sym c.is_within.ensures ∙ c.if-not-is_within.true),
)

pub loop-k-preserved : goal.loop-k-preserved
loop-k-preserved c =
    passed_more c.loop-k.invariant (omega arith) (sym c.is_within.ensures ∙ c.if-not-is_within.false)

pub returns : goal.returns
returns c =
    (λ h. absurd (omega (arith, c.if-place-gt0.false)), λ e. failing_no_place c.loop-k.invariant (omega arith))
