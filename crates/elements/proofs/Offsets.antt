-- Start offsets: one is above its predecessor, and by the least size or more.
use Prim.Native.Nat.{ℕ, suc, ◌+◌, ◌*◌, ◌-◌, ◌≤◌, ◌<◌}
use mathlib.Core.Path.{◌≡◌, refl, sym, ◌∙◌}
use mathlib.Core.Bool.{Bool, true, false, not, ◌&&◌}
use mathlib.Core.List.{List}
use native.Mathlib.Nat.{one-le-pow}
use native.Mathlib.Numerals.{add-one}
use native.Mathlib.Omega.{arith}
use lib.Dec.{ltb, leb}
use borrow.Author.Tests.{lt-leb, le-leb, lt-ltb, leb-true, leb-false, not-true}
use Rattle.model.specs.Lists.{every_from}
use Rattle.model.specs.Bytes.{half, negative, below}
use Rattle.model.specs.Corner.{number_at}
use Rattle.model.proofs.Logic.{and_first, and_second, and-true}
use Rattle.model.proofs.Loops.{EveryLeft, every_start, every_more, every_stop}
use Rattle.elements.specs.Arrays.{rises_at, large_at, rises_by}
use Rattle.model.proofs.Walks.{every_same, every_both}

-- of two numbers of which x is not negative: y is above x where it is not negative and greater
pub below_low : (w x y : ℕ) → x < half w → below w x y ≡ (not (leb (half w) y) && ltb x y)
unfolding below negative
below_low w x y h = rw (lt-leb (half w) x h)

pub still_low : (w x y : ℕ) → x < half w → below w x y ≡ true → y < half w
still_low w x y h e = leb-false (half w) y (not-true _ (and_first (not (leb (half w) y)) (ltb x y) (rw (below_low w x y h) at e)))

pub half-some : (w : ℕ) → 0 < half w
unfolding half
half-some w = one-le-pow (8 * w - 1) 2 (omega arith)

-- rules 31 and 33 of two numbers of which x is not negative: where y is negative, and where it is not
module _ (w x y : ℕ) (h : x < half w) where
  pub rise-negative : (t : Bool) → half w ≤ y → false ≡ (below w x y && t)
  rise-negative t g = rw (below_low w x y h, le-leb (half w) y g)

  pub rise_any : y < half w → ltb x y ≡ (below w x y && leb 0 (y - x))
  rise_any g = rw (below_low w x y h, lt-leb (half w) y g, le-leb 0 (y - x) (omega arith)) (sym (and-true (ltb x y)))

  pub rise_by : (least : ℕ) → (least ≡ 0 → ⊥) → y < half w → leb (x + least) y ≡ (below w x y && leb least (y - x))
  rise_by least n g = rw (below_low w x y h, lt-leb (half w) y g) (by_test (leb (x + least) y) refl (ltb x y) refl)
    where
      by_test : (c : Bool) → leb (x + least) y ≡ c → (d : Bool) → ltb x y ≡ d → c ≡ (d && leb least (y - x))
      by_test true p d q = let l = leb-true (x + least) y p in rw (← q, lt-ltb x y (omega arith), le-leb least (y - x) (omega arith))
      by_test false p true q = let l = leb-false (x + least) y p in rw (lt-leb least (y - x) (omega arith))
      by_test false p false q = refl

-- a loop over start offsets, k of which rose: the next one's predecessor is at hand, and is not negative
pub record Rising (b : List ℕ) (at w least n k last : ℕ) : Type 0 where
  pub left : EveryLeft (rises_by b at w least) n k (every_from (rises_by b at w least) n 0)
  pub here : last ≡ number_at b at w k
  pub low : last < half w

pub rising_start : {b : List ℕ} {at w least n : ℕ} → number_at b at w 0 ≡ 0 → Rising b at w least n 0 0
rising_start {b} {at} {w} {least} {n} e = record { left = every_start (rises_by b at w least) n; here = sym e; low = half-some w }

module _ {b : List ℕ} {at w least n k last next : ℕ} (r : Rising b at w least n k last) (e : next ≡ number_at b at w (k + 1)) where
  rise-is : {t : Bool} → (below w last next && leb least (next - last)) ≡ t → rises_by b at w least k ≡ t
  unfolding rises_by rises_at large_at
  rise-is f = rw (← add-one k, ← e, ← r.here) f

  pub rising_on : k < n → (below w last next && leb least (next - last)) ≡ true → Rising b at w least n (k + 1) next
  rising_on h f =
      record { left = every_more r.left h (rise-is f); here = e; low = still_low w last next r.low (and_first (below w last next) _ f) }

  pub rising_off : k < n → (below w last next && leb least (next - last)) ≡ false → false ≡ every_from (rises_by b at w least) n 0
  rising_off h f = every_stop r.left h (rise-is f)

-- a pass for both rules, and one for rule 31 alone: any size is 0 or more
module _ (b : List ℕ) (at w n : ℕ) where
  pub rise_alone : every_from (rises_by b at w 0) n 0 ≡ every_from (rises_at b at w) n 0
  unfolding rises_by large_at
  rise_alone =
      every_same (rises_by b at w 0) (rises_at b at w) n 0
      (λ k l h. rw (le-leb 0 (number_at b at w (suc k) - number_at b at w k) (omega arith)) (and-true _))

  module _ (least : ℕ) where
    both_rules : every_from (rises_by b at w least) n 0 ≡ (every_from (rises_at b at w) n 0 && every_from (large_at b at w least) n 0)
    unfolding rises_by
    both_rules = every_both (rises_at b at w) (large_at b at w least) n 0

    pub rise-holds : every_from (rises_by b at w least) n 0 ≡ true → every_from (rises_at b at w) n 0 ≡ true
    rise-holds e = and_first _ (every_from (large_at b at w least) n 0) (sym both_rules ∙ e)

    pub size_holds : every_from (rises_by b at w least) n 0 ≡ true → every_from (large_at b at w least) n 0 ≡ true
    size_holds e = and_second (every_from (rises_at b at w) n 0) _ (sym both_rules ∙ e)

    pub size-fails : every_from (rises_by b at w least) n 0 ≡ false → every_from (rises_at b at w) n 0 ≡ true → every_from (large_at b at w least) n 0 ≡ false
    size-fails e u = rw (both_rules, u) at e
