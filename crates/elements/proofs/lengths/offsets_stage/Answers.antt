-- Each rule's test was made, and the first that fails is the answer.
use mathlib.Core.Path.{sym, ap, ◌∙◌}
use borrow.Author.Rules.{rules}
use Rattle.model.specs.Rules.{rejected}
use Rattle.model.proofs.Staging.{holds, fails, no_rule}
use Rattle.elements.specs.Arrays.{offset_rules}
use Rattle.elements.proofs.Offsets.{rise_alone, rise-holds, size_holds, size-fails}
use Rattle.elements.proofs.StageLaws.{same_read, other_read}
use borrow.Author.Tests.{eq-eqb, ne_eqb}
use Rattle.elements.proofs.lengths.offsets_stage.Goals as goal

pub returns-then-number_at-ne0 : goal.returns-then-number_at-ne0
unfolding offset_rules
returns-then-number_at-ne0 c =
    fails _ 30 _ (other_read c.number_at.ensures c.if-number_at-ne0.true) (ap rejected c.at.ensures)

pub all_rise-requires : goal.all_rise-requires
all_rise-requires c =
    let p = c.requires in
    record { numbers = p.0; width_value = (sym c.number_at.ensures ∙ c.if-number_at-ne0.false, p.1) }

pub returns-then-ends : goal.returns-then-ends
unfolding offset_rules
returns-then-ends c =
    let a = sym c.all_rise.ensures ∙ c.if-all_rise.true in
    holds _ 30 _ (same_read c.number_at.ensures c.if-number_at-ne0.false)
    (holds _ 31 _ (rise-holds _ _ _ _ _ a)
    (holds _ 32 _ (rw (← c.number_at-2.ensures) (eq-eqb _ _ c.if-ends.true))
    (holds _ 33 _ (size_holds _ _ _ _ _ a) (sym (no_rule _)))))

pub returns-then-all_rise : goal.returns-then-all_rise
unfolding offset_rules
returns-then-all_rise c =
    let a = sym c.all_rise.ensures ∙ c.if-all_rise.true in
    holds _ 30 _ (same_read c.number_at.ensures c.if-number_at-ne0.false)
    (holds _ 31 _ (rise-holds _ _ _ _ _ a)
    (fails _ 32 _ (rw (← c.number_at-2.ensures) (ne_eqb _ _ c.if-ends.false)) (ap rejected c.at-then-all_rise.ensures)))

pub all_rise-requires-2 : goal.all_rise-requires-2
all_rise-requires-2 c =
    let p = c.requires in
    record { numbers = p.0; width_value = (sym c.number_at.ensures ∙ c.if-number_at-ne0.false, search rules) }

pub returns-then-not-all_rise : goal.returns-then-not-all_rise
unfolding offset_rules
returns-then-not-all_rise c =
    holds _ 30 _ (same_read c.number_at.ensures c.if-number_at-ne0.false)
    (fails _ 31 _ (sym (rise_alone _ _ _ _) ∙ (sym c.all_rise-2.ensures ∙ c.if-not-all_rise.true)) (ap rejected c.at-then-not-all_rise.ensures))

pub returns-then-not-ends : goal.returns-then-not-ends
unfolding offset_rules
returns-then-not-ends c =
    holds _ 30 _ (same_read c.number_at.ensures c.if-number_at-ne0.false)
    (holds _ 31 _ (sym (rise_alone _ _ _ _) ∙ (sym c.all_rise-2.ensures ∙ c.if-not-all_rise.false))
    (fails _ 32 _ (rw (← c.number_at-2.ensures) (ne_eqb _ _ c.if-not-ends.true)) (ap rejected c.at-then-not-ends.ensures)))

pub returns : goal.returns
unfolding offset_rules
returns c =
    let u = sym (rise_alone _ _ _ _) ∙ (sym c.all_rise-2.ensures ∙ c.if-not-all_rise.false) in
    holds _ 30 _ (same_read c.number_at.ensures c.if-number_at-ne0.false)
    (holds _ 31 _ u
    (holds _ 32 _ (rw (← c.number_at-2.ensures) (eq-eqb _ _ c.if-not-ends.false))
    (fails _ 33 _ (size-fails _ _ _ _ _ (sym c.all_rise.ensures ∙ c.if-all_rise.false) u) (ap rejected c.at-2.ensures))))
