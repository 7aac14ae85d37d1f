-- The entries of the zone begin after those of zones before it; each level lies in the table.
use Rattle.std.proofs.Common.{◌≡◌, ◌-◌, ◌≤◌, length}
use Rattle.ranges.proofs.search_tree.build.Given as goal

abbrev pub invariant-loop-first : goal.invariant-loop-first
invariant-loop-first l = (length l.levels ≡ length l.initial.levels) × ((1 ≤ l.first) × (l.first ≤ 2048)) × (l.step ≤ 1024)

abbrev pub decreases-loop-first : goal.decreases-loop-first
decreases-loop-first l = 2049 - l.first
