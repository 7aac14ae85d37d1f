-- No node before i brings the element to the zone.
use Rattle.model.specs.Lists.{some_from}
use Rattle.model.specs.Image.{tree_of}
use Rattle.model.specs.Elements.{has_element}
use Rattle.model.proofs.Loops.{SomeLeft}
use Rattle.section_data.proofs.element_ranges.is_element.Given as goal

abbrev pub invariant-loop-i : goal.invariant-loop-i
invariant-loop-i l = SomeLeft (has_element (tree_of l.image) l.z l.e) l.n l.i (some_from (has_element (tree_of l.image) l.z l.e) l.n 0)
