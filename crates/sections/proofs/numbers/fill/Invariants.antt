-- Each turn stores the entry of the next section: what is written are the entries of the sections visited.
use Prim.Native.Nat.{◌≤◌}
use mathlib.Core.Path.{◌≡◌}
use lib.ListN.{length}
use Rattle.model.specs.Lists.{over}
use Rattle.model.specs.Image.{tree_of}
use Rattle.model.specs.Sections.{all_numbers}
use Rattle.sections.proofs.Filling.{first_entries, Visited}
use Rattle.sections.proofs.numbers.fill.Given as goal

abbrev pub invariant-loop-k : goal.invariant-loop-k
invariant-loop-k l = ((l.k ≤ l.n) × Visited l.image l.zone l.at l.k) × ((length l.out ≡ length l.initial.out) × (l.out ≡ over l.initial.out (all_numbers (first_entries (tree_of l.image) l.zone l.k))))
