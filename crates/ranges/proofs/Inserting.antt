-- One range more: the tables still rise, and meet what they met and what the new range meets.
use Rattle.std.proofs.Common.{◌≡◌, ℕ, zero, suc, ◌+◌, ◌<◌, ◌≤◌, max, true, ◌&&◌, ◌||◌, leb, List, ◌∷◌, length, get_or, ap, ◌∙◌, arith, le-leb, leb-true}
use native.Mathlib.Decide.{dec_lt}
use Rattle.model.specs.Lists.{some_from}
use Rattle.model.proofs.Logic.{and_first, and_second, and_both, or_left, or_right, or_cases}
use Rattle.model.proofs.Walks.{some_at}
use Rattle.ranges.specs.Tables.{meets_at, Rising, Ordered, Begun, Raised, Placed, Inserted}
use Rattle.ranges.proofs.Cases.{both, sides}
use Rattle.ranges.proofs.Halving.{rising, met, meet}

module _ {firsts reach firsts' reach' : List ℕ} {n first place : ℕ} (last : ℕ) (o : Ordered firsts reach n) (b : Begun firsts n first place 0)
    (p : Placed first firsts firsts' n place) {reach₁ : List ℕ} {here : ℕ} (here-is : here ≡ max (get_or (0 ∷ reach) place 0) last)
    (q : Placed here reach reach₁ n place) (m : Raised last reach₁ reach' (n + 1) (place + 1)) (small : first < 9223372036854775808)
    (hf : n < length firsts') (hr : n < length reach') where
  -- where the range stands, and behind it, entries reach no less far than it
  reach_before : (i : ℕ) → i < place → get_or reach' i 0 ≡ get_or reach i 0
  reach_before i l = m.before i (omega arith) ∙ q.before i l

  reach_after : (i : ℕ) → place ≤ i → i ≤ n → get_or reach' i 0 ≡ max (get_or (0 ∷ reach) i 0) last
  reach_after i l u =
      sides place i (λ k. absurd (omega arith)) (λ e. rw e (m.before place (omega arith) ∙ q.here ∙ here-is))
      (λ j k e. rw e (m.after (suc j) (omega arith) (omega arith) ∙ ap (λ x. max x last) (q.after j k (omega arith))))

  -- each first number of before lies between the one that now stands there and the next
  lower : (i : ℕ) → i < n → get_or firsts' i 0 ≤ get_or firsts i 0
  lower i h =
      sides place i (λ l. omega (arith, p.before i l))
      (λ e. rw e (omega (arith, b.later place (omega arith) (omega arith))))
      (λ j l e. rw e (omega (arith, p.after j l (omega arith), o.firsts_rise.rise.rises j (omega arith))))

  higher : (i : ℕ) → i < n → get_or firsts i 0 ≤ get_or firsts' (suc i) 0
  higher i h =
      sides place (suc i) (λ l. omega (arith, p.before (suc i) l, o.firsts_rise.rise.rises i (omega arith)))
      (λ e. rw e (omega (arith, b.begins i (omega arith))))
      (λ j l e. omega (arith, p.after i (omega arith) h))

  firsts_rise : Rising firsts' (n + 1)
  firsts_rise = record { room = omega arith; rises = λ i h. omega (arith, lower i (omega arith), higher i (omega arith)) }

  firsts_small : (i : ℕ) → i < n + 1 → get_or firsts' i 0 < 9223372036854775808
  firsts_small i h =
      sides place i (λ l. omega (arith, p.before i l, o.firsts_rise.small i (omega arith))) (λ e. rw e (omega (arith, p.here)))
      (λ j l e. rw e (omega (arith, p.after j l (omega arith), o.firsts_rise.small j (omega arith))))

  before-rises : (i : ℕ) → i < n → get_or (0 ∷ reach) i 0 ≤ get_or reach i 0
  before-rises zero h = omega arith
  before-rises (suc i) h = o.reach_rises.rises i h

  reach_rises : (i : ℕ) → i < n → get_or reach' i 0 ≤ get_or reach' (suc i) 0
  reach_rises i h =
      sides place (suc i) (λ l. omega (arith, reach_before i (omega arith), reach_before (suc i) l, o.reach_rises.rises i (omega arith)))
      (λ e. omega (arith, reach_before i (omega arith), reach_after (suc i) (omega arith) h))
      (λ j l e. omega (arith, reach_after i (omega arith) (omega arith), reach_after (suc i) (omega arith) h, before-rises i h))

  module _ (a c : ℕ) where
    abbrev Now : Type 0
    Now = (some_from (meets_at firsts reach a c) n 0 || (leb first c && leb a last)) ≡ true

    old : (i : ℕ) → i < n → get_or firsts i 0 ≤ c → a ≤ get_or reach i 0 → Now
    old i h l u = or_left _ (leb first c && leb a last) (meet firsts reach a c n i h l u)

    -- only an entry of before reaches further than the new range
    further : (i : ℕ) → i < n + 1 → place ≤ i → (get_or firsts' i 0 ≤ c) × (a ≤ get_or reach' i 0) → last < a → Now
    further zero h l d u = absurd (omega (arith, reach_after 0 l (omega arith)))
    further (suc i) h l d u = old i (omega arith) (omega (arith, higher i (omega arith))) (omega (arith, reach_after (suc i) l (omega arith)))

    forth : (i : ℕ) → i < n + 1 → (get_or firsts' i 0 ≤ c) × (a ≤ get_or reach' i 0) → Now
    forth i h d =
        elim (dec_lt i place) [
          | yes l ↦ old i (omega arith) (omega (arith, p.before i l)) (omega (arith, reach_before i l))
          | no l ↦ elim (dec_lt last a) [
            | yes u ↦ further i h (omega arith) d u
            | no u ↦ or_right (some_from (meets_at firsts reach a c) n 0) _
                (and_both _ _ (le-leb first c (omega (arith, rising firsts_rise place i (omega arith) h))) (le-leb a last (omega arith)))
          ]
        ]

    new : (i : ℕ) → i < n + 1 → get_or firsts' i 0 ≤ c → a ≤ get_or reach' i 0 → some_from (meets_at firsts' reach' a c) (n + 1) 0 ≡ true
    new = meet firsts' reach' a c (n + 1)

    back : (i : ℕ) → i < n → (get_or firsts i 0 ≤ c) × (a ≤ get_or reach i 0) → some_from (meets_at firsts' reach' a c) (n + 1) 0 ≡ true
    back i h d =
        elim (dec_lt i place) [
          | yes l ↦ new i (omega arith) (omega (arith, p.before i l)) (omega (arith, reach_before i l))
          | no l ↦ new (suc i) (omega arith) (omega (arith, p.after i (omega arith) h)) (omega (arith, reach_after (suc i) (omega arith) h))
        ]

    now_meets : some_from (meets_at firsts' reach' a c) (n + 1) 0 ≡ (some_from (meets_at firsts reach a c) n 0 || (leb first c && leb a last))
    now_meets =
        both _ _ (λ e. let s = some_at (meets_at firsts' reach' a c) (n + 1) 0 e in forth s.at (omega arith) (met firsts' reach' a c s.at s.holds))
        (λ e. or_cases (some_from (meets_at firsts reach a c) n 0) _ e
        (λ q. let s = some_at (meets_at firsts reach a c) n 0 q in back s.at (omega arith) (met firsts reach a c s.at s.holds))
        (λ q.
        let l = leb-true first c (and_first _ (leb a last) q) in
        let u = leb-true a last (and_second (leb first c) _ q) in
        new place (omega arith) (omega arith) (omega (arith, reach_after place (omega arith) (omega arith)))))

  pub inserted : Inserted firsts reach n first last firsts' reach' place
  inserted =
      record {
        inside = omega arith;
        placed = p;
        ordered = record {
          firsts_rise = record { rise = firsts_rise; small = firsts_small };
          reach_rises =
              record { room = omega arith; rises = λ i h. reach_rises i (omega arith) };
        };
        meets = now_meets;
      }
