-- Little-endian numbers written and read again, over the width.
use Prim.Native.Nat.{ℕ, zero, suc, ◌*◌, ◌-◌, ◌/◌, ◌^◌, ◌<◌}
use mathlib.Core.Path.{◌≡◌, refl}
use mathlib.Core.List.{List, [], ◌∷◌, ◌++◌}
use native.Mathlib.Omega.{arith}
use native.Mathlib.Nat.{pow-succ'}
use lib.ListN.{length, length-append}
use lib.IntN.{ℤ, pos, negsuc, nat_abs}
use mir.Syntax.{w64}
use mir.Val.{of_z}
use Rattle.model.specs.Bytes.{le, le_bytes, all_bytes, signed, half, negative}
use borrow.Author.Tests.{le-leb, lt-leb}

pub length-le_bytes : (w x : ℕ) → length (le_bytes w x) ≡ w
length-le_bytes zero x = refl
length-le_bytes (suc w) x = rw (length-le_bytes w (x / 256))

pub length-all_bytes : (w : ℕ) (xs : List ℕ) → length (all_bytes w xs) ≡ w * length xs
length-all_bytes w [] = omega arith
length-all_bytes w (x ∷ xs) = rw (length-append (le_bytes w x) (all_bytes w xs), length-le_bytes w x, length-all_bytes w xs) (omega arith)

-- a number that fits, written and read
pub le-written : (w x : ℕ) (s : List ℕ) → x < 256 ^ w → le w (le_bytes w x ++ s) ≡ x
unfolding le
le-written zero x s h = omega arith
le-written (suc w) x s h =
    let g : x < 256 * 256 ^ w = rw pow-succ' at h in
    rw (le-written w (x / 256) s (omega arith)) (omega arith)

-- a signed number of 64 bits is read back from its bits
pub signed_bits : (n : ℤ) → nat_abs n < 2 ^ 63 → signed 8 (of_z w64 n) ≡ n
unfolding signed half negative
signed_bits (pos n) h = rw (lt-leb (2 ^ 63) n h)
signed_bits (negsuc n) h = let l = le-leb (2 ^ 63) (2 ^ 64 - suc n) (omega arith) in let e : 2 ^ 64 - suc (2 ^ 64 - suc n) ≡ n = omega arith in rw l (rw e)

pub bits_small : (n : ℤ) → nat_abs n < 2 ^ 63 → of_z w64 n < 256 ^ 8
bits_small (pos n) h = omega arith
bits_small (negsuc n) h = omega arith
