-- The zone's refusals, those of the room, and the usage.
use mathlib.Core.Path.{sym}
use native.Mathlib.Omega.{arith}
use Rattle.model.specs.FaceUsage.{usage_check}
use Rattle.model.proofs.Bounds.{accepted-image}
use Rattle.model.proofs.Staging.{handed}
use Rattle.faces.proofs.Checks.{zone_refused, zone_passed, room_refused, room_passed, usage_refused, usage_filled}
use Rattle.faces.proofs.face_usage.Goals as goal

pub returns-in_err-z : goal.returns-in_err-z
unfolding usage_check
returns-in_err-z c =
    let w = usage_refused c.args.image.now c.args.zone c.args.out.now (zone_refused _ _ c.check_zone.ensures.answer _ c.in_err-z.was) in
    (handed _ _ c.from_residual.ensures.1 (sym w.0), w.1)

pub gather_faces-requires : goal.gather_faces-requires
gather_faces-requires c =
    let p = zone_passed _ _ c.check_zone.ensures.answer c.in_ok-z.was in
    record { accepted = ((accepted-image _ p.0, c.check_zone.ensures.index p.0), omega arith) }

pub returns-in_err-faces : goal.returns-in_err-faces
returns-in_err-faces c =
    let p = zone_passed _ _ c.check_zone.ensures.answer c.in_ok-z.was in
    let w = usage_refused c.args.image.now c.args.zone c.args.out.now (room_refused _ p _ c.gather_faces.ensures.answer c.in_err-faces.was) in
    (handed _ _ c.from_residual-in_err-faces.ensures.1 (sym w.0), w.1)

pub fill-requires-clause-tables : goal.fill-requires-clause-tables
fill-requires-clause-tables c = c.gather_faces.ensures.tables _ c.in_ok-faces.was

pub returns : goal.returns
returns c =
    let p = zone_passed _ _ c.check_zone.ensures.answer c.in_ok-z.was in
    let q = room_passed _ p _ c.gather_faces.ensures.answer c.in_ok-faces.was in
    usage_filled _ _ _ q c.fill.ensures.result_value c.fill.ensures.out_after
