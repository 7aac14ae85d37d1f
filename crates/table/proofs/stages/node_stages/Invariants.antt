-- Rules 7 to 17 hold before node i, with the sums so far and what is known of names.
use mathlib.Core.Path.{◌≡◌}
use lib.ListN.{length}
use Rattle.table.specs.Siblings.{Names}
use Rattle.table.proofs.Progress.{Progress}
use Rattle.table.proofs.stages.node_stages.Given as goal

abbrev pub invariant-loop-i : goal.invariant-loop-i
invariant-loop-i l = Progress l.table l.size l.i l.words l.bytes × Names l.table l.size.nodes l.i l.known l.seen × (length l.seen ≡ length l.initial.seen)
