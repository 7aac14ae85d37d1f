-- What is told of the span; then the type by the section's.
use native.Mathlib.Omega.{arith}
use mathlib.Core.Path.{ap, ◌∙◌}
use Rattle.model.specs.Rules.{answer}
use Rattle.model.proofs.Staging.{handed}
use Rattle.rows.proofs.Rows.{inside-numbers}
use Rattle.corners.proofs.Outcomes.{type_refused, type-place, type-mixed, type_plain}
use Rattle.corners.proofs.own_type.element_type.Goals as goal

pub returns-in_err-span : goal.returns-in_err-span
returns-in_err-span c = handed _ _ c.from_residual.ensures.1 (type_refused _ _ _ c.in_err-span.ensures.answers)

pub returns-then-section_type-ne-MIXED : goal.returns-then-section_type-ne-MIXED
returns-then-section_type-ne-MIXED c = type_plain _ _ _ c.in_ok-span.ensures.answers c.if-section_type-ne-MIXED.true

pub overflow_sub-span : goal.overflow_sub-span
overflow_sub-span c = omega (arith, type-place _ _ _ c.in_ok-span.ensures.answers c.if-section_type-ne-MIXED.false)

pub number_at-requires : goal.number_at-requires
number_at-requires c =
    let h = c.in_ok-span.ensures.held in
    rw c.connectivity_of-connectivity.ensures (inside-numbers _ _ _ _ h.2, omega (arith, h))

pub returns : goal.returns
returns c =
    ap answer (rw c.connectivity_of-connectivity.ensures at c.number_at.ensures)
    ∙ type-mixed _ _ _ c.in_ok-span.ensures.answers c.if-section_type-ne-MIXED.false
