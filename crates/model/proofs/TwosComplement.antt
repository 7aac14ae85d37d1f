-- Signed numbers as their bits, over the width: what is above a number that is not negative, and when bits are the number itself.
use Prim.Native.Nat.{ℕ, zero, suc, ◌+◌, ◌*◌, ◌-◌, ◌≤◌, ◌<◌}
use mathlib.Core.Path.{◌≡◌, refl}
use mathlib.Core.Bool.{Bool, true, false, cond, not, ◌&&◌}
use native.Mathlib.Omega.{arith}
use lib.IntN.{pos, negsuc, nat_abs}
use lib.Pow.{pow_pos}
use lib.Dec.{eqb, ltb}
use borrow.Author.Tests.{ltb-true, lt-ltb, lt-leb, leb-false, not-true, eqb-true}
use Rattle.model.specs.Bytes.{half, negative, below, magnitude, signed}
use Rattle.model.specs.Corner.{width_lawful}
use Rattle.model.proofs.Logic.{and_first, and_second, or_cases}

-- a width is 4 or 8, so half of the bit patterns are more than any size or element number
pub half-wide : (w : ℕ) → width_lawful w ≡ true → 2147483647 < half w
unfolding width_lawful half
half-wide w e =
    or_cases (eqb w 4) (eqb w 8) e
    (λ h. rw (eqb-true w 4 h) (omega arith))
    (λ h. rw (eqb-true w 8 h) (omega arith))

pub not_negative_lem : (w x : ℕ) → x < half w → negative w x ≡ false
unfolding negative
not_negative_lem w x h = lt-leb (half w) x h

pub signed_is : (w x : ℕ) → x < half w → signed w x ≡ pos x
unfolding signed
signed_is w x h = rw (not_negative_lem w x h)

-- a magnitude that is not 0 is that of the signed number
pub magnitude-is : (w x : ℕ) → 1 ≤ magnitude w x → nat_abs (signed w x) ≡ magnitude w x
unfolding signed magnitude
magnitude-is w x h = by_sign (negative w x) h
  where
    by_sign : (t : Bool) → 1 ≤ cond t (2 * half w - x) x → nat_abs (cond t (negsuc (2 * half w - suc x)) (pos x)) ≡ cond t (2 * half w - x) x
    by_sign true m = omega arith
    by_sign false m = refl

-- above a number that is not negative stands only a greater one that is not negative either
pub below_up : (w x y : ℕ) → x < half w → below w x y ≡ true → (x < y) × (y < half w)
unfolding below negative
below_up w x y h e =
    let s : (not (negative w y) && ltb x y) ≡ true = rw (not_negative_lem w x h) at e in
    (ltb-true x y (and_second (not (negative w y)) (ltb x y) s), leb-false (half w) y (not-true (negative w y) (and_first (not (negative w y)) (ltb x y) s)))

pub below-is : (w x y : ℕ) → x < y → y < half w → below w x y ≡ true
unfolding below
below-is w x y l h = rw (not_negative_lem w x (omega arith), not_negative_lem w y h) (lt-ltb x y l)

-- from 0 on each above its predecessor, as signed numbers: none is negative, each is above its predecessor, none is above the last
module _ (w n : ℕ) (f : ℕ → ℕ) (first : f 0 ≡ 0) (up : (k : ℕ) → k < n → below w (f k) (f (suc k)) ≡ true) where
  pub rise-small : (k : ℕ) → k ≤ n → f k < half w
  unfolding half
  rise-small zero h = rw first (pow_pos _)
  rise-small (suc k) h = (below_up w (f k) (f (suc k)) (rise-small k (omega arith)) (up k h)).1

  pub rise-next : (k : ℕ) → k < n → f k < f (suc k)
  rise-next k h = (below_up w (f k) (f (suc k)) (rise-small k (omega arith)) (up k h)).0

-- a last number that none is above
pub rise-last : (n : ℕ) (f : ℕ → ℕ) → ((k : ℕ) → k < n → f k < f (suc k)) → (k d : ℕ) → k + d ≡ n → f k ≤ f n
rise-last n f up k zero e = let q : k ≡ n = omega arith in rw q (omega arith)
rise-last n f up k (suc d) e =
    let h = rise-last n f up (suc k) d (omega arith) in
    let l = up k (omega arith) in
    omega arith
