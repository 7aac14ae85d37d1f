-- The zone's refusals, and those of the face.
use Rattle.model.specs.ParentElements.{parents_check}
use Rattle.model.proofs.Bounds.{accepted-image}
use Rattle.model.proofs.Staging.{handed}
use Rattle.faces.proofs.Checks.{zone_refused, zone_passed, parents_refused, parents_in_zone}
use Rattle.faces.proofs.parent_calls.parents.Goals as goal

pub returns-in_err-z : goal.returns-in_err-z
unfolding parents_check
returns-in_err-z c =
    handed _ _ c.from_residual.ensures.1 (parents_refused _ _ _ (zone_refused _ _ c.check_zone.ensures.answer _ c.in_err-z.was))

pub parents_of_face-requires : goal.parents_of_face-requires
parents_of_face-requires c =
    let p = zone_passed _ _ c.check_zone.ensures.answer c.in_ok-z.was in (accepted-image _ p.0, c.check_zone.ensures.index p.0)

pub returns : goal.returns
returns c = parents_in_zone _ (zone_passed _ _ c.check_zone.ensures.answer c.in_ok-z.was) _ c.parents_of_face.ensures
