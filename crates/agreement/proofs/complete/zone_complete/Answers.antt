-- One node after the other; a section's faces come after those of the sections before it.
use Prim.Native.Nat.{◌+◌, ◌<◌}
use mathlib.Core.Path.{refl, sym, ◌∙◌}
use native.Mathlib.Omega.{arith}
use Rattle.model.specs.Lists.{sum_before}
use Rattle.model.specs.Image.{tree_of, node_count}
use Rattle.model.specs.FaceUsage.{faces_in}
use Rattle.model.specs.ParentElements.{all_agree}
use Rattle.model.proofs.Loops.{every_start, every_more, every_stop, every_done}
use Rattle.model.proofs.Walks.{sum_before_step}
use Rattle.face_places.proofs.Accepted.{total-small}
use Rattle.agreement.proofs.complete.zone_complete.Goals as goal

pub loop-i-init : goal.loop-i-init
unfolding sum_before all_agree tree_of
loop-i-init c = (refl, every_start _ _)

pub returns-then-not-section_agrees : goal.returns-then-not-section_agrees
returns-then-not-section_agrees c =
    every_stop c.loop-i.invariant.1 (omega (arith, c.node_count-i-end.ensures.0)) (sym c.section_agrees.ensures ∙ c.if-not-section_agrees.true)

pub overflow_add-place : goal.overflow_add-place
overflow_add-place c =
    let a = c.requires.accepted.0 in
    let l = c.loop-i in
    let h : l.i < node_count c.args.image.now = omega (arith, c.node_count-i-end.ensures.0) in
    let f = faces_in (tree_of c.args.image.now) c.args.z in
    omega (arith, total-small a c.args.z (l.i + 1) (omega arith), sum_before_step f l.i, l.invariant.0, c.faces_of-n.ensures, a.sound.laid.few)

pub loop-i-preserved : goal.loop-i-preserved
loop-i-preserved c =
    let l = c.loop-i.invariant in
    let e = c.faces_of-n.ensures in (
      sym (sum_before_step (faces_in (tree_of c.args.image.now) c.args.z) c.loop-i.i ∙ rw (← l.0, ← e)),
      every_more l.1 (omega (arith, c.node_count-i-end.ensures.0)) (sym c.section_agrees.ensures ∙ c.if-not-section_agrees.false),
    )

pub returns : goal.returns
returns c = every_done c.loop-i.invariant.1 (omega (arith, c.node_count-i-end.ensures.0))
