-- What is known of names from node to node.
use Prim.Native.Nat.{ℕ, ◌≤◌, ◌<◌}
use mathlib.Core.Path.{◌≡◌, refl, sym, ◌∙◌}
use mathlib.Core.Bool.{Bool, true, false}
use mathlib.Core.List.{List}
use native.Mathlib.Omega.{arith}
use native.Mathlib.Decide.{ℕ_discrete}
use borrow.Author.Tests.{eq-eqb, ne_eqb}
use Rattle.std.proofs.Common.{Some, None}
use Rattle.model.specs.Lists.{seek_from}
use Rattle.model.specs.Records.{name_taken}
use Rattle.model.proofs.Found.{the_some, the_none}
use Rattle.model.proofs.Logic.{untrue}
use Rattle.model.proofs.Walks.{seek_holds, seek_before}
use Rattle.records.specs.Table.{all_records}
use Rattle.table.specs.declared.siblings.Known.{Known}
use Rattle.table.specs.declared.siblings.Known.TheVariants.{ByKeys, InOrder}
use Rattle.table.specs.Siblings.{Names, NamesAt}

-- node i, where no name before it is taken
module _ (s : List ℕ) {n i : ℕ} (h : i < n) (free : (j : ℕ) → j < i → name_taken (all_records s) j ≡ false) where
  abbrev first : ℕ
  first = seek_from (name_taken (all_records s)) n 0

  other : (t : Bool) → name_taken (all_records s) i ≡ t → (i ≡ first → ⊥) → name_taken (all_records s) i ≡ false
  other false e z = e
  other true e z =
      let b : first ≤ i = seek_before (name_taken (all_records s)) n 0 i e (omega arith) (omega arith) in
      untrue (sym (free first (omega (arith, z))) ∙ seek_holds (name_taken (all_records s)) n 0 (omega arith))

  -- rule 11 by keys, or by an order of the names
  pub names_at : (known : Known) (seen : List ℕ) → Names s n i known seen → NamesAt s i known seen
  names_at (ByKeys left) seen k = k
  names_at (InOrder (Some f)) seen k =
      let e : f ≡ first = (the_some (sym k)).0 in
      elim (ℕ_discrete i first) [
        | yes q ↦ rw (e, eq-eqb i first q, q) (seek_holds (name_taken (all_records s)) n 0 (omega arith))
        | no z ↦ rw (e, ne_eqb i first z) (other (name_taken (all_records s) i) refl z)
      ]
  names_at (InOrder None) seen k = let l : n ≤ first = the_none (sym k) in other (name_taken (all_records s) i) refl (λ e. omega arith)
