-- The search by halving: the last entry that begins no later than a range ends decides whether one meets it.
use Rattle.std.proofs.Common.{◌≡◌, ℕ, zero, suc, ◌+◌, ◌-◌, ◌*◌, ◌<◌, ◌≤◌, Bool, true, false, cond, ◌&&◌, ltb, leb, List, get_or, sym, refl, arith, ltb-true, le-leb, leb-false, leb-true, Option, Some, None}
use native.Mathlib.Decide.{ℕ_discrete, dec_lt}
use Rattle.model.specs.Lists.{some_from}
use Rattle.model.proofs.Logic.{and_first, and_second, and_both}
use Rattle.model.proofs.Walks.{some_at, some_by}
use Rattle.ranges.specs.Tables.{meets_at, Found, Rising, Ordered, Begun}
use Rattle.std.specs.Option.{is_some}
use Rattle.std.proofs.lemmas.Bool.{false_from_ne_true}

-- any two entries
pub rising : {s : List ℕ} {n : ℕ} → Rising s n → (i j : ℕ) → i ≤ j → j < n → get_or s i 0 ≤ get_or s j 0
rising r i zero h l = let e : i ≡ 0 = omega arith in rw e (omega arith)
rising r i (suc j) h l =
    elim (ℕ_discrete i (suc j)) [
      | yes q ↦ rw q (omega arith)
      | no d ↦ omega (arith, rising r i j (omega arith) (omega arith), r.rises j l)
    ]

pub begun_start : (s : List ℕ) (n f : ℕ) → Begun s n f 0 n
begun_start s n f = omega arith

-- no fewer begin no later than a greater number
pub begun_up : {s : List ℕ} {n f g r q : ℕ} → Begun s n f r 0 → Begun s n g q 0 → f ≤ g → r ≤ q
begun_up {r = r} {q = q} b d h =
    elim (dec_lt q r) [
      | yes l ↦ absurd (omega (arith, b.inside, b.begins (r - 1) (omega arith), d.later (r - 1) (omega arith) (omega (arith, b.inside))))
      | no l ↦ omega arith
    ]

module _ {s : List ℕ} {n f from left half : ℕ} (b : Begun s n f from left) (r : Rising s n) (z : 1 ≤ half) (h : half + half ≤ left + 1) where
  -- c tells whether the entry in the middle begins no later
  pub begun_half : {c : ℕ} → c ≡ cond (leb (get_or s (from + half - 1) 0) f) 1 0 → Begun s n f (from + half * c) (left - half)
  begun_half e = rw e (by_test (leb (get_or s (from + half - 1) 0) f) refl)
    where
      by_test : (t : Bool) → leb (get_or s (from + half - 1) 0) f ≡ t → Begun s n f (from + half * cond t 1 0) (left - half)
      by_test true t =
          let l = leb-true _ f t in
          record {
            inside = omega arith;
            begins = λ i u. omega (arith, rising r i (from + half - 1) (omega arith) (omega arith));
            later = λ i k u. b.later i (omega arith) u;
          }
      by_test false t =
          let l = leb-false _ f t in
          record {
            inside = omega arith;
            begins = λ i u. b.begins i (omega arith);
            later = λ i k u. omega (arith, rising r (from + half - 1) i (omega arith) u);
          }

module _ (firsts reach : List ℕ) (a c : ℕ) where
  pub met : (i : ℕ) → meets_at firsts reach a c i ≡ true → (get_or firsts i 0 ≤ c) × (a ≤ get_or reach i 0)
  unfolding meets_at
  met i e = (leb-true _ _ (and_first (leb (get_or firsts i 0) c) _ e), leb-true _ _ (and_second (leb (get_or firsts i 0) c) _ e))

  pub meets_at_lem : (i : ℕ) → get_or firsts i 0 ≤ c → a ≤ get_or reach i 0 → meets_at firsts reach a c i ≡ true
  unfolding meets_at
  meets_at_lem i l h = and_both _ _ (le-leb _ c l) (le-leb a _ h)

  module _ (n : ℕ) where
    pub meet : (i : ℕ) → i < n → get_or firsts i 0 ≤ c → a ≤ get_or reach i 0 → some_from (meets_at firsts reach a c) n 0 ≡ true
    meet i h l u = some_by (meets_at firsts reach a c) n 0 i (meets_at_lem i l u) (omega arith) (omega arith)

    -- the entry r meets the numbers from a to c; none does
    pub entry_found : (r : ℕ) → (ltb r n && meets_at firsts reach a c r) ≡ true → Found firsts reach n a c (Some r)
    entry_found r e = (ltb-true r n (and_first _ (meets_at firsts reach a c r) e), and_second (ltb r n) _ e)

    pub none_found : {r : ℕ} → Ordered firsts reach n → Begun firsts n c r 0 → (0 < r → get_or reach (r - 1) 0 < a)
        → Found firsts reach n a c None
    none_found {r} o b h =
        false_from_ne_true (some_from (meets_at firsts reach a c) n 0)
        (λ e. let s = some_at (meets_at firsts reach a c) n 0 e in none s.at (omega arith) (met s.at s.holds))
      where
        none : (i : ℕ) → i < n → (get_or firsts i 0 ≤ c) × (a ≤ get_or reach i 0) → ⊥
        none i l d =
            elim (dec_lt i r) [
              | yes k ↦ omega (arith, h (omega arith), rising o.reach_rises i (r - 1) (omega arith) (omega arith))
              | no k ↦ omega (arith, b.later i (omega arith) l)
            ]

    -- whether one does is whether one was found
    pub found_any : (r : Option ℕ) → Found firsts reach n a c r → is_some r ≡ some_from (meets_at firsts reach a c) n 0
    found_any None f = sym f
    found_any (Some j) f = sym (some_by (meets_at firsts reach a c) n 0 j f.1 (omega arith) (omega (arith, f.0)))
