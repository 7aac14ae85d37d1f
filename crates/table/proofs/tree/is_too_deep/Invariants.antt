-- The walk up: from here with what is left is as from node i with 32.
use Prim.Native.Nat.{◌-◌, ◌≤◌}
use mathlib.Core.Path.{◌≡◌}
use Rattle.model.specs.Records.{deeper_than}
use Rattle.records.specs.Table.{all_records}
use Rattle.table.proofs.tree.is_too_deep.Given as goal

abbrev pub invariant-loop : goal.invariant-loop
invariant-loop l = (l.at ≤ l.i) × (deeper_than (all_records l.table) (32 - l.counter) l.at ≡ deeper_than (all_records l.table) 32 l.i)
