-- What is no section, or does not count, stores none; else its child decides.
use mathlib.Core.Path.{sym, ◌∙◌}
use Rattle.section_data.proofs.RangeLaws.{not-section, has-range, no_range}
use Rattle.parents.proofs.ParentLaws.{faces_kind, faces_type, parents_none, parents_by}
use Rattle.parents.proofs.rule.parents_if.Goals as goal

pub returns-then-not-validated_as : goal.returns-then-not-validated_as
returns-then-not-validated_as c =
    parents_none _ _ (not-section _ _ _ (sym c.validated_as.ensures ∙ c.if-not-validated_as.true))

pub returns-in_err-range_if : goal.returns-in_err-range_if
returns-in_err-range_if c = c.from_residual.ensures ∙ parents_none _ _ (no_range _ _ _ (sym c.in_err-range_if.was ∙ c.range_if.ensures))

pub parents_of-requires : goal.parents_of-requires
parents_of-requires c =
    let p = c.requires in
    let e = (has-range _ _ _ c.in_ok-range_if.ensures).0 in
    record { index = p; s_value = faces_kind p.0.sound _ e; element_type_value = faces_type p.0.sound _ e }

pub returns : goal.returns
returns c = parents_by _ _ (has-range _ _ _ c.in_ok-range_if.ensures).0 c.parents_of.ensures
