-- Each node counts as one or as none; the nodes that are not validated are skipped.
use Rattle.model.specs.Image.{tree_of}
use Rattle.model.specs.Containment.{validated, validated_as, Zone, Elements}
use Rattle.validation.proofs.Laws.{Counted}
use Rattle.validation.proofs.counted.Given as goal

abbrev pub invariant-loop-i : goal.invariant-loop-i
invariant-loop-i l = (Counted (validated (tree_of l.image)) l.n l.i l.validated) × ((Counted (validated_as (tree_of l.image) Zone) l.n l.i l.zones) × (Counted (validated_as (tree_of l.image) Elements) l.n l.i l.sections))
