-- A node past the last: no data, no number. A child that does not conform is missing.
use Prim.Native.Nat.{ℕ, suc, ◌≤◌, ◌<◌}
use mathlib.Core.Path.{◌≡◌, refl, sym, ◌∙◌}
use mathlib.Core.Bool.{Bool, true, false, cond, not}
use mathlib.Core.List.{List, [], ◌∷◌}
use native.Mathlib.Omega.{arith}
use lib.ListN.{length}
use lib.Dec.{eqb, ltb}
use borrow.Author.Tests.{ne_eqb, ltb-false}
use Rattle.std.proofs.Common.{Option, Some, None}
use Rattle.std.specs.Bool.{then_some}
use Rattle.model.specs.Found.{if_below}
use Rattle.std.specs.Option.{is_some, option_eq, unwrap_or}
use Rattle.model.proofs.Found.{is_some as some_below, is_none as none_below, the_some, the_none}
use Rattle.model.specs.Lists.{among}
use Rattle.model.specs.Bytes.{le, same, spells, text, place_from}
use Rattle.model.specs.Image.{node_of, tree_of, node_count, stored, data_type_of, data_types, width, widths, number}
use Rattle.model.specs.Containment.{or_missing}
use Rattle.model.specs.Values.{reads, typed, zone_type_shape}
use Rattle.model.proofs.Absent.{node_past}

empty : (u : List ℕ) → same [] u ≡ eqb (length u) 0
unfolding same
empty [] = refl
empty (x ∷ u) = sym (ne_eqb (suc (length u)) 0 (λ (e : suc (length u) ≡ 0). absurd (omega arith)))

module _ (b : List ℕ) (i : ℕ) (h : node_count b ≤ i) where
  pub reads_past : (u : List ℕ) → reads (tree_of b) i u ≡ eqb (length u) 0
  unfolding reads stored node_of le
  reads_past u = rw (node_past b i h) (empty u)

  pub number_past : (k : ℕ) → number (tree_of b) i k ≡ 0
  unfolding number width widths data_type_of data_types place_from spells text node_of le
  number_past k = rw (node_past b i h)

  pub shape_past : zone_type_shape (tree_of b) i ≡ false
  unfolding zone_type_shape typed among data_type_of data_types place_from spells text node_of le
  shape_past = rw (node_past b i h)

-- one that is there: which it is, and that it is a node
pub there : {n x j : ℕ} → Some j ≡ if_below n x → (j ≡ x) × (j < n)
there e = let l = the_some (sym e) in (l.0, rw (← l.0) at l.1)

-- its data, or those of a missing one
pub reads_by : (b : List ℕ) (x : ℕ) (u : List ℕ) {o : Option ℕ} {r : Bool} → o ≡ if_below (node_count b) x
    → r ≡ reads (tree_of b) (unwrap_or o (node_count b)) u → r ≡ reads (tree_of b) x u
reads_by b x u {o} e f = by_test o e f
  where
    by_test : {r : Bool} (o : Option ℕ) → o ≡ if_below (node_count b) x → r ≡ reads (tree_of b) (unwrap_or o (node_count b)) u → r ≡ reads (tree_of b) x u
    by_test None e f = f ∙ reads_past b (node_count b) (omega arith) u ∙ sym (reads_past b x (the_none (sym e)) u)
    by_test (Some j) e f = rw (there e).0 at f

-- is one there?
some_if : (n x : ℕ) → is_some (if_below n x) ≡ ltb x n
unfolding if_below
some_if n x = by_test (ltb x n)
  where
    by_test : (c : Bool) → is_some (cond c (Some x) None) ≡ c
    by_test true = refl
    by_test false = refl

pub is_there : (n x : ℕ) {r : Option ℕ} → r ≡ if_below n x → is_some r ≡ ltb x n
is_there n x e = rw e (some_if n x)

pub is_gone : (n x : ℕ) {r : Option ℕ} {c : Bool} → r ≡ if_below n x → is_some r ≡ not c → c ≡ not (ltb x n)
is_gone n x {r} {c} e f = by_test c (sym (is_there n x e) ∙ f)
  where
    by_test : (c : Bool) → ltb x n ≡ not c → c ≡ not (ltb x n)
    by_test true q = rw q refl
    by_test false q = rw q refl

-- is it node i?
pub is_that : (n x i : ℕ) {r : Option ℕ} → i < n → r ≡ if_below n x → option_eq eqb r (Some i) ≡ eqb x i
unfolding if_below
is_that n x i l e = rw e (by_test (ltb x n) refl)
  where
    by_test : (c : Bool) → ltb x n ≡ c → option_eq eqb (cond c (Some x) None) (Some i) ≡ eqb x i
    by_test true q = refl
    by_test false q = sym (ne_eqb x i (λ z. let h = ltb-false x n q in absurd (omega arith)))

-- a child that was looked up, where a test holds of it
module _ (b : List ℕ) (p : ℕ → Bool) (x : ℕ) where
  pub none_kept : None ≡ if_below (node_count b) x → None ≡ if_below (node_count b) (or_missing (tree_of b) (p x) x)
  unfolding or_missing tree_of
  none_kept e = sym (none_below (by_test (p x)))
    where
      by_test : (c : Bool) → node_count b ≤ cond c x (node_count b)
      by_test true = the_none (sym e)
      by_test false = omega arith

  pub kept : {j : ℕ} {c : Bool} → Some j ≡ if_below (node_count b) x → c ≡ p j → then_some c j ≡ if_below (node_count b) (or_missing (tree_of b) (p x) x)
  unfolding or_missing tree_of
  kept {j} {c} e f = let l = there e in rw (← l.0, ← f) (by_test c l.1)
    where
      by_test : (c : Bool) → j < node_count b → then_some c j ≡ if_below (node_count b) (cond c j (node_count b))
      by_test true l = sym (some_below l)
      by_test false l = sym (none_below (omega arith))
