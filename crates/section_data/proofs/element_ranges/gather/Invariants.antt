-- The ranges of the nodes before i are gathered.
use Rattle.model.specs.Image.{tree_of}
use Rattle.ranges.specs.Tables.{Gathered}
use Rattle.section_data.specs.Ranges.{is_ranged, first_key, last_key}
use Rattle.section_data.proofs.element_ranges.gather.Given as goal

abbrev pub invariant-loop-i : goal.invariant-loop-i
invariant-loop-i l =
    Gathered (is_ranged (tree_of l.image) l.element_type) (first_key (tree_of l.image)) (last_key (tree_of l.image)) l.firsts l.reach l.n l.i
