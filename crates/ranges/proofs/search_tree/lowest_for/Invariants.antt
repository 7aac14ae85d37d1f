-- No level has more than 1,024 nodes.
use Rattle.std.proofs.Common.{◌-◌, ◌≤◌}
use Rattle.ranges.proofs.search_tree.lowest_for.Given as goal

abbrev pub invariant-loop-lowest : goal.invariant-loop-lowest
invariant-loop-lowest l = (1 ≤ l.lowest) × (l.lowest ≤ 1024)

abbrev pub decreases-loop-lowest : goal.decreases-loop-lowest
decreases-loop-lowest l = 1025 - l.lowest
