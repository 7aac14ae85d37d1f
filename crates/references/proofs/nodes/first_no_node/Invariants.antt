-- Every number before 2 * pair lies in 1 to limit.
use Prim.Native.Nat.{◌*◌}
use Rattle.section_data.specs.Passing.{Passed}
use Rattle.references.specs.Arrays.{is_within}
use Rattle.references.proofs.nodes.first_no_node.Given as goal

abbrev pub invariant-loop-pair : goal.invariant-loop-pair
invariant-loop-pair l = Passed (is_within l.image l.row.at l.row.width l.limit) l.n 0 (2 * l.pair)
