-- The zone's refusals, 54, those of the usage; where it is an answer, its bytes are lent to the second pass and come back as they were.
use mathlib.Core.Path.{sym, ap, ◌∙◌}
use native.Mathlib.Omega.{arith}
use Rattle.model.specs.Rules.{rejected, answer}
use Rattle.model.specs.Answers.{usage_tells}
use Rattle.model.specs.Image.{tree_of}
use Rattle.model.specs.ParentElements.{all_agree, agreement_check}
use Rattle.model.proofs.Bounds.{accepted-image}
use Rattle.model.proofs.Staging.{handed}
use Rattle.faces.proofs.Checks.{zone_refused, zone_passed, room_refused, room_passed, usage_refused, usage_filled}
use Rattle.faces.proofs.Agreement.{agreement_refused, agreement_accepted, check_no_parents, check-passed, refusal_on, answered_too, handed_on, two-signs}
use Rattle.faces.proofs.parent_calls.parents_agree.Goals as goal

pub returns-in_err-z : goal.returns-in_err-z
unfolding agreement_check
returns-in_err-z c =
    let w = agreement_refused c.args.image.now c.args.zone c.args.out.now (zone_refused _ _ c.check_zone.ensures.answer _ c.in_err-z.was) in
    (handed _ _ c.from_residual.ensures.1 (sym w.0), w.1)

pub any_parents-requires : goal.any_parents-requires
any_parents-requires c =
    let p = zone_passed _ _ c.check_zone.ensures.answer c.in_ok-z.was in (accepted-image _ p.0, c.check_zone.ensures.index p.0)

pub returns-then-not-any_parents : goal.returns-then-not-any_parents
returns-then-not-any_parents c =
    let p = zone_passed _ _ c.check_zone.ensures.answer c.in_ok-z.was in
    let w = agreement_refused c.args.image.now c.args.zone c.args.out.now (check_no_parents _ _ c.args.out.now p (sym c.any_parents.ensures ∙ c.if-not-any_parents.true)) in
    (ap rejected c.at.ensures ∙ w.0, w.1)

pub gather_faces-requires : goal.gather_faces-requires
gather_faces-requires c =
    let p = zone_passed _ _ c.check_zone.ensures.answer c.in_ok-z.was in
    record { accepted = ((accepted-image _ p.0, c.check_zone.ensures.index p.0), omega arith) }

pub returns-in_err-faces : goal.returns-in_err-faces
returns-in_err-faces c =
    let p = zone_passed _ _ c.check_zone.ensures.answer c.in_ok-z.was in
    let w = agreement_accepted c.args.image.now c.args.zone c.args.out.now (check-passed _ _ c.args.out.now p (sym c.any_parents.ensures ∙ c.if-not-any_parents.false)) in
    let u = usage_refused c.args.image.now c.args.zone c.args.out.now (room_refused _ p _ c.gather_faces.ensures.answer c.in_err-faces.was) in
    (handed _ _ c.from_residual-in_err-faces.ensures.1 (w.0 ∙ sym (refusal_on _ u.0)), u.1 ∙ sym w.1)

pub fill-requires-clause-tables : goal.fill-requires-clause-tables
fill-requires-clause-tables c = c.gather_faces.ensures.tables _ c.in_ok-faces.was

pub returns-in_err-fill : goal.returns-in_err-fill
returns-in_err-fill c =
    let p = zone_passed _ _ c.check_zone.ensures.answer c.in_ok-z.was in
    let q = room_passed _ p _ c.gather_faces.ensures.answer c.in_ok-faces.was in
    let w = agreement_accepted c.args.image.now c.args.zone c.args.out.now (check-passed _ _ c.args.out.now p (sym c.any_parents.ensures ∙ c.if-not-any_parents.false)) in
    let u = usage_filled _ _ _ q (ap usage_tells (sym c.in_err-fill.was) ∙ c.fill.ensures.result_value) c.fill.ensures.out_after in
    (handed _ _ c.from_residual-in_err-fill.ensures.1 (w.0 ∙ sym (refusal_on _ u.0)), u.1 ∙ sym w.1)

pub zone_agrees-requires-clause-by_index : goal.zone_agrees-requires-clause-by_index
zone_agrees-requires-clause-by_index c =
    let u = answered_too _ _ (ap usage_tells (sym c.in_ok-fill.was) ∙ c.fill.ensures.result_value) in
    two-signs (c.gather_faces.ensures.tables _ c.in_ok-faces.was).accepted _ c.args.out.now u.1 c.fill.ensures.out_after

pub returns : goal.returns
returns c =
    let p = zone_passed _ _ c.check_zone.ensures.answer c.in_ok-z.was in
    let q = room_passed _ p _ c.gather_faces.ensures.answer c.in_ok-faces.was in
    let w = agreement_accepted c.args.image.now c.args.zone c.args.out.now (check-passed _ _ c.args.out.now p (sym c.any_parents.ensures ∙ c.if-not-any_parents.false)) in
    let u = usage_filled _ _ _ q (ap usage_tells (sym c.in_ok-fill.was) ∙ c.fill.ensures.result_value) c.fill.ensures.out_after in
    (ap answer (c.zone_agrees.ensures.0 ∙ ap (all_agree (tree_of c.args.image.now)) q.1) ∙ handed_on _ (sym u.0) ∙ sym w.0, c.zone_agrees.ensures.1 ∙ u.1 ∙ sym w.1)
