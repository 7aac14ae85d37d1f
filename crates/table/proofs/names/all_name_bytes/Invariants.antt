-- The sum of what stands before node i; the nodes before it are linked.
use Prim.Native.Nat.{◌*◌, ◌≤◌}
use mathlib.Core.Path.{◌≡◌}
use Rattle.model.specs.Lists.{sum_before}
use Rattle.model.specs.Image.{parent}
use Rattle.model.specs.NameBytes.{bytes_with_earlier}
use Rattle.records.specs.Table.{all_records}
use Rattle.texts.specs.Links.{Linked}
use Rattle.table.proofs.names.all_name_bytes.Given as goal

abbrev pub invariant-loop-i : goal.invariant-loop-i
invariant-loop-i l =
    ((l.sum ≡ sum_before (bytes_with_earlier (all_records l.table)) l.i) × (l.sum ≤ 135168 * l.i)) × Linked (parent (all_records l.table)) l.i l.siblings
