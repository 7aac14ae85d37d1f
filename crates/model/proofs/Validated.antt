-- Which nodes are validated, one step up at a time: the steps that the definition counts are always enough (rule 7).
use Prim.Native.Nat.{ℕ, zero, suc, ◌≤◌, ◌<◌}
use mathlib.Core.Path.{◌≡◌, refl, ap}
use mathlib.Core.Bool.{Bool, true, false, not, ◌&&◌, ◌||◌}
use mathlib.Core.List.{List}
use native.Mathlib.Omega.{arith}
use lib.Dec.{eqb, ltb}
use borrow.Author.Tests.{eqb-false, ne_eqb}
use Rattle.model.specs.Image.{Tree, tree_of, node_count, parent}
use Rattle.model.specs.Containment.{role, validated, validated_within, UserDefinedData}
use Rattle.model.specs.Given.{Sound}
use Rattle.model.proofs.Parents.{parent-lower, lawful_at}

-- what a node adds to its parent's being validated: a known label, and a parent that is no UserDefinedData_t
abbrev pub joins : Tree → ℕ → Bool
joins t i = ltb 0 (role t i) && not (eqb (role t (parent t i)) UserDefinedData)

-- more steps than there are lower nodes make no difference
module _ (t : Tree) (n : ℕ) (lower : (j : ℕ) → j < n → (j ≡ 0 → ⊥) → parent t j < j) where
  enough : (d e j : ℕ) → j ≤ d → j ≤ e → j < n → validated_within t d j ≡ validated_within t e j
  unfolding validated_within
  enough zero zero j h l k = refl
  enough zero (suc e) j h l k = let z : j ≡ 0 = omega arith in rw z
  enough (suc d) zero j h l k = let z : j ≡ 0 = omega arith in rw z
  enough (suc d) (suc e) j h l k =
      by_test (eqb j 0) refl (λ z. let u = lower j k z in enough d e (parent t j) (omega arith) (omega arith) (omega arith))
    where
      by_test : (c : Bool) → eqb j 0 ≡ c → ((j ≡ 0 → ⊥) → validated_within t d (parent t j) ≡ validated_within t e (parent t j))
          → (c || (joins t j && validated_within t d (parent t j))) ≡ (c || (joins t j && validated_within t e (parent t j)))
      by_test true q f = refl
      by_test false q f = ap (λ (r : Bool). joins t j && r) (f (eqb-false j 0 q))

pub validated_root : (t : Tree) (i : ℕ) → i ≡ 0 → true ≡ validated t i
unfolding validated validated_within
validated_root t i e = rw e

module _ (b : List ℕ) (s : Sound b) where
  lower : (j : ℕ) → j < node_count b → (j ≡ 0 → ⊥) → parent (tree_of b) j < j
  lower j h z = parent-lower (tree_of b) j (lawful_at b s j h) z

  pub validated_step : (i : ℕ) → i < node_count b → (i ≡ 0 → ⊥) → validated (tree_of b) i ≡ (joins (tree_of b) i && validated (tree_of b) (parent (tree_of b) i))
  unfolding validated validated_within
  validated_step zero h z = absurd (z refl)
  validated_step (suc i) h z =
      let u = lower (suc i) h z in
      rw (ne_eqb (suc i) 0 z)
      (ap (λ (r : Bool). joins (tree_of b) (suc i)
      && r) (enough (tree_of b) (node_count b) lower i (parent (tree_of b) (suc i)) (parent (tree_of b) (suc i)) (omega arith) (omega arith) (omega arith)))

  -- a child of a validated node that is no UserDefinedData_t is validated where its label is known
  pub validated-child : (i p : ℕ) → i < node_count b → (i ≡ 0 → ⊥) → parent (tree_of b) i ≡ p → validated (tree_of b) p ≡ true
      → eqb (role (tree_of b) p) UserDefinedData ≡ false
      → validated (tree_of b) i ≡ ltb 0 (role (tree_of b) i)
  validated-child i p h z e v u = rw (validated_step i h z, e, v, u) (both (ltb 0 (role (tree_of b) i)))
    where
      both : (c : Bool) → (c && true && true) ≡ c
      both true = refl
      both false = refl
