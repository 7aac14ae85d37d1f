-- What is left of the directions decides.
use Prim.Native.Nat.{◌≤◌, ◌<◌}
use mathlib.Core.Path.{◌≡◌, sym, ◌∙◌}
use Rattle.model.specs.Image.{tree_of}
use Rattle.model.specs.Values.{index_dimension}
use Rattle.model.proofs.Loops.{every_start, every_more, every_stop, every_done}
use Rattle.sids.specs.Sizes.{permitted_in}
use Rattle.sids.proofs.Zones.{zone-value-is, permitted_is}
use Rattle.sids.proofs.zone.zone_value.Goals as goal
use Rattle.sids.proofs.zone.zone_value.Goals.{After-sizes_permitted}

pub loop-d-init : goal.loop-d-init
loop-d-init c = rw (zone-value-is _ _, ← c.dimension_of-n.ensures.0) (every_start _ _)

-- what the test of a direction tells
module _ (c : After-sizes_permitted) where
  tells : c.sizes_permitted.result ≡ permitted_in (tree_of c.args.image.now) c.args.z c.loop-d.d
  tells =
      let n = c.dimension_of-n.ensures in
      let t = tree_of c.args.image.now in
      let f = rw (c.structured-structured.ensures, c.zone_sizes-sizes.ensures) at c.sizes_permitted.ensures in
      let h : c.loop-d.d < index_dimension t c.args.z = rw (← n.0) c.loop-d-test.true in
      let k : index_dimension t c.args.z ≤ 3 = rw (← n.0) n.2 in
      f ∙ permitted_is t c.args.z c.loop-d.d h k

pub returns-then-not-sizes_permitted : goal.returns-then-not-sizes_permitted
returns-then-not-sizes_permitted c =
    every_stop c.loop-d.invariant c.loop-d-test.true (sym (tells (goal.at.returns-then-not-sizes_permitted c).After-sizes_permitted) ∙ c.if-not-sizes_permitted.true)

pub loop-d-preserved : goal.loop-d-preserved
loop-d-preserved c =
    every_more c.loop-d.invariant c.loop-d-test.true (sym (tells (goal.at.loop-d-preserved c).After-sizes_permitted) ∙ c.if-not-sizes_permitted.false)

pub returns : goal.returns
returns c = every_done c.loop-d.invariant c.loop-d-test.false
