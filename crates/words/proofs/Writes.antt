-- A number or a list of bytes written byte by byte: what is left to write gives the whole.
use Prim.Native.Nat.{ℕ, zero, suc, ◌+◌, ◌/◌, ◌%◌, ◌^◌, ◌≤◌, ◌<◌}
use mathlib.Core.Path.{◌≡◌, refl, sym, ap, subst, ◌∙◌}
use mathlib.Core.List.{List, [], ◌∷◌, ◌++◌, append_assoc, append-nil}
use native.Mathlib.Omega.{arith}
use native.Mathlib.Numerals.{add-one}
use native.Mathlib.Nat.{pow-suc, div-div-eq-div-mul}
use lib.ListN.{length, get_or, take, drop, set, length-set, drop_of_length-le}
use borrow.Rule.Slice.PartMut.{put_mid}
use Rattle.std.specs.Int.{byte_at, bytes_low_first}
use lib.Seq.{take-suc-set, drop-set-lt, drop-drop, drop-cons}
use Rattle.model.specs.Lists.{over, over_at}
use Rattle.model.specs.Bytes.{le_bytes}
use Rattle.model.proofs.Overlays.{over_at_nil}

pub over_at-cons : (k : ℕ) (out : List ℕ) (y : ℕ) (ys : List ℕ) → k < length out → over_at k out (y ∷ ys) ≡ over_at (k + 1) (set out k y) ys
unfolding over_at over
over_at-cons k out y ys h =
    let e : k + suc (length ys) ≡ suc k + length ys = omega arith in
    rw (add-one k, take-suc-set out k y, drop-set-lt (suc k) out k y (omega arith), drop-drop (length ys) (suc k) out, drop-drop (suc (length ys)) k out, e)
    (sym (append_assoc (take k out) (y ∷ []) (ys ++ drop (suc k + length ys) out)))

-- of the list `all`, written from `at` on, k are written into out and the list `rest` is left
pub record Left (out₀ all : List ℕ) (at : ℕ) (out : List ℕ) (k : ℕ) (rest : List ℕ) : Type 0 where
  pub long : length out ≡ length out₀
  pub count : k + length rest ≡ length all
  pub whole : over_at (at + k) out rest ≡ over_at at out₀ all

pub start : (out all : List ℕ) (at : ℕ) → Left out all at out 0 all
start out all at = let e : at + 0 ≡ at = omega arith in record { long = refl; count = omega arith; whole = rw e }

pub more : {out₀ all : List ℕ} {at : ℕ} {out : List ℕ} {k y : ℕ} {ys : List ℕ} → Left out₀ all at out k (y ∷ ys) → at + length all ≤ length out₀
    → Left out₀ all at (set out (at + k) y) (k + 1) ys
more {at = at} {out = out} {k = k} {y = y} {ys = ys} l g =
    let c = l.count in
    let f : at + k + 1 ≡ at + (k + 1) = omega arith in
    record {
      long = length-set out (at + k) y ∙ l.long;
      count = omega arith;
      whole = ap (λ (j : ℕ). over_at j (set out (at + k) y) ys) (sym f) ∙ sym (over_at-cons (at + k) out y ys (omega (arith, l.long, c))) ∙ l.whole;
    }

pub done : {out₀ all : List ℕ} {at : ℕ} {out : List ℕ} {k : ℕ} {rest : List ℕ} → Left out₀ all at out k rest → length all ≤ k → out ≡ over_at at out₀ all
done {out₀} {all} {at} {out} {k} {rest} l h = by_rest rest l.count l.whole
  where
    by_rest : (rest : List ℕ) → k + length rest ≡ length all → over_at (at + k) out rest ≡ over_at at out₀ all → out ≡ over_at at out₀ all
    by_rest [] c w = sym (over_at_nil (at + k) out) ∙ w
    by_rest (y ∷ ys) c w = absurd (omega arith)

-- a part of a buffer in whose place the list stands
pub put_mid_over_at : (at k : ℕ) (out new all : List ℕ) → new ≡ all → k ≡ length all → put_mid at k out new ≡ over_at at out all
unfolding over_at over
put_mid_over_at at k out new all e h = rw (e, h)

-- the lowest bytes of a number are its bytes at their width
pub take-bytes_low_first : (w i k n : ℕ) → w ≤ k → take w (bytes_low_first i k n) ≡ le_bytes w (n / 256 ^ i)
take-bytes_low_first zero i k n h = refl
take-bytes_low_first (suc w) i zero n h = absurd (omega arith)
take-bytes_low_first (suc w) i (suc k) n h =
    let e : n / 256 ^ suc i ≡ n / 256 ^ i / 256 = ap (λ (m : ℕ). n / m) (pow-suc 256 i) ∙ sym (div-div-eq-div-mul n (256 ^ i) 256) in
    rw (lowest i, take-bytes_low_first w (suc i) k n (omega arith), e)
  where
    lowest : (i : ℕ) → byte_at i n ≡ n / 256 ^ i % 256
    lowest zero = omega arith
    lowest (suc i) = refl

-- the bytes of a list
pub bytes_more : {out₀ s : List ℕ} {at : ℕ} {out : List ℕ} {k : ℕ} → Left out₀ s at out k (drop k s) → k < length s → at + length s ≤ length out₀
    → Left out₀ s at (set out (at + k) (get_or s k 0)) (k + 1) (drop (k + 1) s)
bytes_more {out₀} {s} {at} {out} {k} l h g =
    let e : suc k ≡ k + 1 = omega arith in
    let m : Left out₀ s at out k (get_or s k 0 ∷ drop (suc k) s) = rw (drop-cons s k 0 h) at l in
    more (subst (λ (j : ℕ). Left out₀ s at out k (get_or s k 0 ∷ drop j s)) e m) g

-- a list that fills the room
pub filled : (out new : List ℕ) → length out ≤ length new → over_at 0 out new ≡ new
unfolding over_at over
filled out new h = rw (drop_of_length-le out {i = length new} h) (append-nil new)
