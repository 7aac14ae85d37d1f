-- Every number before j is known.
use mathlib.Core.Path.{sym, ◌∙◌}
use Rattle.section_data.proofs.Passing.{passed_more}
use Rattle.parents.specs.Parents.{known_at}
use native.Mathlib.Omega.{arith}
use Rattle.parents.proofs.columns.first_unknown.Goals as goal

pub returns-then-not-is_known : goal.returns-then-not-is_known
unfolding known_at
returns-then-not-is_known c =
    record { passed = c.loop-j.invariant; result_value = λ h. rw (← c.number_at.ensures) (sym c.is_known.ensures ∙ c.if-not-is_known.true) }

pub loop-j-preserved : goal.loop-j-preserved
unfolding known_at
loop-j-preserved c =
    passed_more c.loop-j.invariant (omega arith) (rw (← c.number_at.ensures) (sym c.is_known.ensures ∙ c.if-not-is_known.false))
