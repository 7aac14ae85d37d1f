-- A number put at a place, the entries from there on moved up by one; entries raised to a number.
use Rattle.std.proofs.Common.{◌≡◌, ℕ, zero, suc, ◌+◌, ◌-◌, ◌<◌, ◌≤◌, List, ◌∷◌, length, get_or, set, refl, ◌∙◌, arith, length-set, get_or-set_other, get_or-set_same}
use native.Mathlib.Decide.{ℕ_discrete, dec_lt}
use Rattle.ranges.specs.Tables.{Rising, Raised, Placed}
use Rattle.ranges.proofs.Cases.{sides}

-- the entry before k
pub entry-before : (s : List ℕ) (k : ℕ) → (k ≡ 0 → ⊥) → get_or (0 ∷ s) k 0 ≡ get_or s (k - 1) 0
entry-before s zero z = absurd (z refl)
entry-before s (suc k) z = let e : suc k - 1 ≡ k = omega arith in rw e

-- the entries from a place to k are raised, the others as they were
pub record RaisedTo (least : ℕ) (old new : List ℕ) (place k : ℕ) : Type 0 where
  pub long : length new ≡ length old
  pub raised : Raised least old new k place
  pub from : (i : ℕ) → k ≤ i → get_or new i 0 ≡ get_or old i 0

module _ {least : ℕ} {old new : List ℕ} {place k : ℕ} (m : RaisedTo least old new place k) (p : place ≤ k) where
  pub raised_more : k < length new → get_or new k 0 < least → RaisedTo least old (set new k least) place (k + 1)
  raised_more h b =
      record {
        long = length-set new k least ∙ m.long;
        raised = record {
          before = λ i l. get_or-set_other new k i least 0 (omega arith) ∙ m.raised.before i l;
          after = λ i l u. elim (ℕ_discrete i k) [
            | yes e ↦ rw e (get_or-set_same new k least 0 h ∙ omega (arith, m.from k (omega arith)))
            | no d ↦ get_or-set_other new k i least 0 d ∙ m.raised.after i l (omega arith)
          ];
        };
        from = λ i l. get_or-set_other new k i least 0 (omega arith) ∙ m.from i (omega arith);
      }

  -- entry k is not below, and so none after it
  pub raised_all : {n : ℕ} → ((i : ℕ) → place ≤ i → suc i < n → get_or old i 0 ≤ get_or old (suc i) 0) → (k < n → least ≤ get_or new k 0)
      → Raised least old new n place
  raised_all {n} r h =
      record {
        before = m.raised.before;
        after = λ i l u. elim (dec_lt i k) [
          | yes s ↦ m.raised.after i l s
          | no s ↦ omega (arith, m.from i (omega arith), up (i - k) i (omega arith) u)
        ];
      }
    where
      up : (d i : ℕ) → i ≡ k + d → i < n → least ≤ get_or old i 0
      up zero i e u = let q : i ≡ k = omega arith in rw q (omega (arith, m.from k (omega arith), h (omega arith)))
      up (suc d) i e u = let q : i ≡ suc (k + d) = omega arith in rw q (omega (arith, up d (k + d) refl (omega arith), r (k + d) (omega arith) (omega arith)))

-- entries that have moved up still rise
pub placed-rises : {x : ℕ} {old new : List ℕ} {n place : ℕ} → Placed x old new n place → Rising old n
    → (i : ℕ) → place + 1 ≤ i → suc i < n + 1 → get_or new i 0 ≤ get_or new (suc i) 0
placed-rises p r zero h l = absurd (omega arith)
placed-rises p r (suc i) h l = omega (arith, p.after i (omega arith) (omega arith), p.after (suc i) (omega arith) (omega arith), r.rises i (omega arith))

-- what holds of each number of a table and the one beside it in another, where both get one more at the same place
pub placed_every : {x y : ℕ} {xs xs' ys ys' : List ℕ} {n place : ℕ} → Placed x xs xs' n place → Placed y ys ys' n place → place ≤ n
    → (P : ℕ → ℕ → Type 0) → P x y → ((j : ℕ) → j < n → P (get_or xs j 0) (get_or ys j 0))
    → (j : ℕ) → j < n + 1 → P (get_or xs' j 0) (get_or ys' j 0)
placed_every p q h P one every j l =
    sides _ j (λ k. rw (p.before j k, q.before j k) (every j (omega arith)))
    (λ e. rw (e, p.here, q.here) one)
    (λ i k e. rw (e, p.after i k (omega arith), q.after i k (omega arith)) (every i (omega arith)))
