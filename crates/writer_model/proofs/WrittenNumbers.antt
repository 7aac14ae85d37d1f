-- Numbers and rows of numbers, read from bytes and written again.
use Prim.Native.Nat.{ℕ, zero, suc, ◌+◌, ◌*◌, ◌/◌, ◌%◌, ◌^◌, ◌≤◌, ◌<◌}
use mathlib.Core.Path.{◌≡◌, refl}
use mathlib.Core.List.{List, [], ◌∷◌, ◌++◌, append_assoc}
use native.Mathlib.Omega.{arith}
use native.Mathlib.Nat.{pow-succ'}
use lib.ListN.{length, take, drop, length-drop}
use lib.Seq.{take-add, drop_at}
use Rattle.model.specs.Bytes.{le, le_bytes, all_bytes, numbers}
use Rattle.model.proofs.LittleEndian.{length-le_bytes, le-written}
use Rattle.writer_model.specs.Claims.{Below, IsBytes}

-- bytes read and written
pub written-le : (w : ℕ) (s : List ℕ) → IsBytes s → w ≤ length s → le_bytes w (le w s) ≡ take w s
unfolding le Below
written-le zero s h l = refl
written-le (suc w) [] h l = absurd (omega arith)
written-le (suc w) (y ∷ s) h l =
    let b : y < 256 = h.0 in
    let m : (y + 256 * le w s) % 256 ≡ y = omega arith in
    let q : (y + 256 * le w s) / 256 ≡ le w s = omega arith in
    rw (m, q, written-le w s h.1 (omega arith))

-- a number of w bytes is small
pub le-small : (w : ℕ) (s : List ℕ) → IsBytes s → le w s < 256 ^ w
unfolding le Below
le-small zero s h = omega arith
le-small (suc w) [] h = rw pow-succ' (omega (arith, le-small w [] h))
le-small (suc w) (y ∷ s) h = let b : y < 256 = h.0 in rw pow-succ' (omega (arith, le-small w s h.1))

-- a row of numbers
pub numbers-written : (w : ℕ) (xs s : List ℕ) → Below (256 ^ w) xs → numbers w (length xs) (all_bytes w xs ++ s) ≡ xs
unfolding numbers Below
numbers-written w [] s h = refl
numbers-written w (x ∷ xs) s h =
    rw (append_assoc (le_bytes w x) (all_bytes w xs) s, le-written w x (all_bytes w xs ++ s) h.0, drop_at (le_bytes w x) (all_bytes w xs ++ s) w (length-le_bytes w x), numbers-written w xs s h.1)

pub bytes_drop : (k : ℕ) (s : List ℕ) → IsBytes s → IsBytes (drop k s)
unfolding Below
bytes_drop zero s h = h
bytes_drop (suc k) [] h = h
bytes_drop (suc k) (y ∷ s) h = bytes_drop k s h.1

pub written-numbers : (w n : ℕ) (s : List ℕ) → IsBytes s → w * n ≤ length s → all_bytes w (numbers w n s) ≡ take (w * n) s
unfolding numbers
written-numbers w zero s h l = let e : w * 0 ≡ 0 = omega arith in rw e
written-numbers w (suc n) s h l =
    let e : w * suc n ≡ w + w * n = omega arith in
    let g : w * n ≤ length (drop w s) = rw length-drop (omega arith) in
    rw (e, take-add w (w * n) s, written-le w s h (omega arith), written-numbers w n (drop w s) (bytes_drop w s h) g)
