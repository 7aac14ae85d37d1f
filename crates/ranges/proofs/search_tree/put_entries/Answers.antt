-- All four lie in the lent memory.
use Rattle.std.proofs.Common.{arith, length-set}
use Rattle.ranges.proofs.search_tree.put_entries.Goals as goal

pub bounds-entries-k-2 : goal.bounds-entries-k-2
bounds-entries-k-2 c = simp length-set (omega arith)

pub bounds-entries-k-3 : goal.bounds-entries-k-3
bounds-entries-k-3 c = simp length-set (omega arith)

pub bounds-entries-k-4 : goal.bounds-entries-k-4
bounds-entries-k-4 c = simp length-set (omega arith)

pub shape_of-entries : goal.shape_of-entries
shape_of-entries c = simp length-set
