-- 41 by the entry's range, 43 where no span was found.
use mathlib.Core.Path.{ap, ◌∙◌}
use Rattle.model.specs.Rules.{rejected}
use Rattle.corners.proofs.Outcomes.{below-range, above-range, in_range_lem}
use Rattle.corners.proofs.spans.readable_span.Goals as goal
use Rattle.corners.proofs.spans.readable_span.Goals.{then-element-first-via-then-element-first, then-element-first-via-else-element-first+then-section-element}

pub returns-then-element-first-clause-answers : goal.returns-then-element-first-clause-answers
returns-then-element-first-clause-answers c =
    ap rejected c.at.ensures
    ∙ elim c.then-element-first.branch [
      | then-element-first-via-then-element-first w ↦ below-range _ _ _ w.if-element-first.true
      | then-element-first-via-else-element-first+then-section-element w ↦ above-range _ _ _ w.if-section-element.true
    ]

pub returns-clause-answers : goal.returns-clause-answers
returns-clause-answers c =
    rw (c.ok_or.ensures.value, c.at-2.ensures)
    (in_range_lem _ _ _ c.if-element-first.false c.if-section-element.false c.element_span.ensures.0)
