-- All eight places stay in one level, whose numbers lie in the table.
use Rattle.std.proofs.Common.{◌-◌, ◌≤◌}
use Rattle.ranges.specs.SearchTree.{InLevel}
use Rattle.ranges.proofs.search_tree.guess.Given as goal

abbrev pub invariant-loop-first : goal.invariant-loop-first
invariant-loop-first l = ((1 ≤ l.first) × (l.first ≤ 2048)) × (InLevel l.first l.p × InLevel l.first l.q)

abbrev pub decreases-loop-first : goal.decreases-loop-first
decreases-loop-first l = 2049 - l.first
