-- What is left of the directions decides.
use Rattle.model.specs.Image.{tree_of}
use Rattle.model.specs.Values.{zone_value}
use Rattle.model.proofs.Loops.{EveryLeft}
use Rattle.sids.specs.Sizes.{permitted_in}
use Rattle.sids.proofs.zone.zone_value.Given as goal

abbrev pub invariant-loop-d : goal.invariant-loop-d
invariant-loop-d l = EveryLeft (permitted_in (tree_of l.image) l.z) l.n l.d (zone_value (tree_of l.image) l.z)
