-- No node before i meets an earlier one, and their ranges are gathered.
use Rattle.model.specs.Lists.{seek_from}
use Rattle.model.specs.Image.{tree_of}
use Rattle.model.proofs.Loops.{SeekLeft}
use Rattle.ranges.specs.Tables.{Gathered}
use Rattle.section_data.specs.Ranges.{is_ranged, first_key, last_key, overlap_at}
use Rattle.section_data.proofs.element_ranges.first_overlap.Given as goal

abbrev pub invariant-loop-i : goal.invariant-loop-i
invariant-loop-i l = record {
  left : SeekLeft (overlap_at (tree_of l.image)) l.nodes l.i (seek_from (overlap_at (tree_of l.image)) l.nodes 0);
  gathered : Gathered (is_ranged (tree_of l.image) 0) (first_key (tree_of l.image)) (last_key (tree_of l.image)) l.firsts l.reach l.n l.i;
}
