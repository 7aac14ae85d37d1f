-- Intervals of a zone's numbers that ranges hold.
use Rattle.std.proofs.Common.{◌≡◌, ℕ, ◌+◌, ◌-◌, ◌%◌, ◌<◌, ◌≤◌, min, true, ltb, leb, List, get_or, arith, ltb-true, lt-ltb, le-leb, leb-true}
use Rattle.model.proofs.Logic.{and_first, and_second, and_both}
use Rattle.ranges.specs.declared.Interval.{Interval}
use Rattle.ranges.specs.Tables.{key, holds, is_within, Covered}
use Rattle.ranges.proofs.Cases.{both}
use Rattle.ranges.proofs.Halving.{met, meet}

-- d is f less `low`, round 2^64
pub within_is : (r : Interval) (f d : ℕ) → r.low + r.size ≤ 4294967296 → f < 18446744073709551616 → d < 18446744073709551616
    → (d + r.low) % 18446744073709551616 ≡ f → ltb d r.size ≡ is_within r f
unfolding is_within
within_is r f d small h l e =
    both _ _ (λ t.
    let q = ltb-true d r.size t in
    and_both _ _ (le-leb r.low f (omega arith)) (lt-ltb f (r.low + r.size) (omega arith)))
    (λ t.
    let a = leb-true r.low f (and_first _ (ltb f (r.low + r.size)) t) in
    let b = ltb-true f (r.low + r.size) (and_second (leb r.low f) _ t) in
    lt-ltb d r.size (omega arith))

pub none-covered : (firsts reach : List ℕ) (n z : ℕ) → Covered firsts reach n z (record { low = 0; size = 0 })
unfolding is_within
none-covered firsts reach n z =
    record { small = omega arith; covered = λ g e. absurd (omega (arith, ltb-true g 0 (and_second (leb 0 g) _ e))) }

-- entry j holds f of zone z: the interval of its numbers, cut to the zone's
module _ (firsts reach : List ℕ) (z f j : ℕ) {x base low high : ℕ} (e : holds firsts reach x j ≡ true) (p : x ≡ key z f) (q : base
    ≡ key z 0) (h : f < 4294967296)
    (a : low ≡ min (get_or firsts j 0 - base) 4294967295) (b : high ≡ min (get_or reach j 0 - base) 4294967295) where
  pub low_high : (low ≤ f) × (f ≤ high)
  unfolding key
  low_high = let m = met firsts reach x x j e in (omega arith, omega arith)

  all_covered : {n : ℕ} → j < n → Covered firsts reach n z (record { low = low; size = high + 1 - low })
  unfolding is_within key
  all_covered {n} l =
      let m = met firsts reach x x j e in
      record {
        small = omega arith;
        covered = λ g t.
            let x = leb-true low g (and_first _ (ltb g (low + (high + 1 - low))) t) in
            let y = ltb-true g (low + (high + 1 - low)) (and_second (leb low g) _ t) in
            meet firsts reach (key z g) (key z g) n j l (omega arith) (omega arith);
      }

  pub around : {n : ℕ} → j < n → let i : Interval = record { low = low; size = high + 1 - low } in Covered firsts reach n z i × (is_within i f ≡ true)
  unfolding is_within
  around l =
      let o = low_high in (all_covered l, and_both _ _ (le-leb low f (omega arith)) (lt-ltb f (low + (high + 1 - low)) (omega arith)))
