-- A look-up's Option against the model's number.
use Prim.Native.Nat.{ℕ, ◌≤◌, ◌<◌}
use mathlib.Core.Path.{◌≡◌, refl, sym, ap, ◌∙◌}
use mathlib.Core.Bool.{Bool, true, false, cond}
use native.Mathlib.Omega.{arith}
use borrow.Author.Tests.{lt-ltb, le-ltb, ltb-true, ltb-false}
use lib.Dec.{ltb}
use Rattle.std.proofs.Common.{Option, None, Some, MatchOption, rules}
use Rattle.std.specs.Option.{unwrap_or}
use Rattle.model.specs.Lists.{seek_from}
use Rattle.model.specs.Found.{if_below}
use Rattle.model.proofs.Chains.{seek_in_range}

module _ {n x : ℕ} where
  pub is_some : x < n → if_below n x ≡ Some x
  unfolding if_below
  is_some l = rw (lt-ltb x n l) refl

  pub is_none : n ≤ x → if_below n x ≡ None
  unfolding if_below
  is_none l = rw (le-ltb x n l) refl

  -- what one that is there tells
  pub the_some : {j : ℕ} → if_below n x ≡ Some j → (j ≡ x) × (x < n)
  unfolding if_below
  the_some {j} e = by_test (ltb x n) refl e
    where
      by_test : (t : Bool) → ltb x n ≡ t → cond t (Some x) None ≡ Some j → (j ≡ x) × (x < n)
      by_test true q e = (sym (ap (λ (o : Option ℕ). unwrap_or o 0) e), ltb-true x n q)
      by_test false q e = search rules

  -- what none tells
  pub the_none : if_below n x ≡ None → n ≤ x
  unfolding if_below
  the_none e = by_test (ltb x n) refl e
    where
      by_test : (t : Bool) → ltb x n ≡ t → cond t (Some x) None ≡ None → n ≤ x
      by_test true q e = search rules
      by_test false q e = ltb-false x n q

-- the first of a range, as `find` answers it
pub seek_found : (p : ℕ → Bool) (n : ℕ) (r : Option ℕ)
    → MatchOption r ((k : ℕ) → 0 ≤ k → k < n → p k ≡ false) (λ i. (0 ≤ i) × (i < n) × (p i ≡ true) × ((k : ℕ) → 0 ≤ k → k < i → p k ≡ false))
    → r ≡ if_below n (seek_from p n 0)
seek_found p n None f = sym (is_none (omega (arith, seek_in_range p n None f)))
seek_found p n (Some i) f = let l = f.1 in sym (is_some (omega (arith, seek_in_range p n (Some i) f)) ∙ ap Some (sym (seek_in_range p n (Some i) f)))
