-- Laws of two's complement and of the magnitude, over the width.
use mathlib.Core.Path.{◌≡◌, refl, ap, ◌∙◌}
use mathlib.Core.Bool.{Bool, true, false, cond}
use Prim.Native.Nat.{ℕ, suc, ◌+◌, ◌*◌, ◌-◌, ◌^◌, ◌≤◌, ◌<◌}
use native.Mathlib.Omega.{arith}
use native.Mathlib.Decide.{ℕ_discrete}
use borrow.Author.Tests.{ne_eqb, leb-true, leb-false}
use lib.IntN.{pos, negsuc, nat_abs}
use lib.Dec.{T, leb, eqb→eq}
use mir.Syntax.{Width}
use mir.Val.{to_z, bits, hbits}
use mir.Facts.{to_z_pos, to_z-neg}
use Rattle.model.specs.Bytes.{half, negative, signed, magnitude}
use Rattle.words.specs.Width.{is_width}

-- what a cast of the bits gives is the model's signed number, over the width
pub cast_is : (w : Width) (k x : ℕ) → half k ≡ 2 ^ hbits w → 2 ^ bits w ≡ half k + half k → x < 2 ^ bits w → to_z w x ≡ signed k x
unfolding signed negative
cast_is w k x h d l = by_test (leb (half k) x) refl
  where
    by_test : (t : Bool) → leb (half k) x ≡ t → to_z w x ≡ cond t (negsuc (2 * half k - suc x)) (pos x)
    by_test true e =
        let m = 2 * half k - suc x in
        let q : x ≡ 2 ^ bits w - suc m = omega (arith, d, l) in
        ap (to_z w) q ∙ to_z-neg w m (omega (arith, h, d, l, leb-true (half k) x e))
    by_test false e = to_z_pos w {n = x} (omega (arith, h, leb-false (half k) x e))

pub eight : (k : ℕ) → T (is_width k) → (k ≡ 4 → ⊥) → k ≡ 8
eight k t n = eqb→eq k 8 (simp (ne_eqb k 4 n) at t)

-- half of the patterns of 4 or 8 bytes
pub half_is : (w : ℕ) → T (is_width w) → (256 ^ w ≡ half w + half w) × ((2147483648 ≤ half w) × (half w ≤ 9223372036854775808))
unfolding half
half_is w t =
    elim (ℕ_discrete w 4) [
      | yes q ↦ rw q (refl, (omega arith, omega arith))
      | no z ↦ rw (eight w t z) (refl, (omega arith, omega arith))
    ]

-- the magnitude of the number is the magnitude of its bits
pub magnitude-is : (w x : ℕ) → x < 2 * half w → nat_abs (signed w x) ≡ magnitude w x
unfolding signed magnitude
magnitude-is w x h = by_test (negative w x)
  where
    by_test : (t : Bool) → nat_abs (cond t (negsuc (2 * half w - suc x)) (pos x)) ≡ cond t (2 * half w - x) x
    by_test true = omega arith
    by_test false = refl
