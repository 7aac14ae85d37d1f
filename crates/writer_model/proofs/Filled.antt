-- A list filled up with zeros, and what is added to it.
use Prim.Native.Nat.{ℕ, zero, suc, ◌+◌, ◌-◌, ◌≤◌}
use mathlib.Core.Path.{◌≡◌, sym, ap, ◌∙◌}
use mathlib.Core.List.{List, ◌++◌, append_assoc, append-nil}
use native.Mathlib.Omega.{arith}
use lib.ListN.{length, drop, replicate, length-append, length-replicate}
use lib.Seq.{take-append_seam, drop-append_seam}
use Rattle.model.specs.Lists.{over, over_at}
use Rattle.model.proofs.Overlays.{over_at_past, over_at_within}

pub drop-replicate : (k r y : ℕ) → drop k (replicate r y) ≡ replicate (r - k) y
drop-replicate zero r y = let e : r - 0 ≡ r = omega arith in rw e
drop-replicate (suc k) zero y = let e : 0 - suc k ≡ 0 = omega arith in rw e
drop-replicate (suc k) (suc r) y = let e : suc r - suc k ≡ r - k = omega arith in rw e (drop-replicate k r y)

-- a list filled up with zeros
abbrev pub fill : ℕ → List ℕ → List ℕ
fill m l = l ++ replicate (m - length l) 0

pub fill_length : (m : ℕ) (l : List ℕ) → length l ≤ m → length (fill m l) ≡ m
fill_length m l h = rw (length-append l (replicate (m - length l) 0), length-replicate {A = ℕ} (m - length l) 0) (omega arith)

pub fill_full : (l : List ℕ) → fill (length l) l ≡ l
fill_full l = let e : length l - length l ≡ 0 = omega arith in rw e (append-nil l)

pub fill_more : (m : ℕ) (l new : List ℕ) → length l + length new ≤ m → over_at (length l) (fill m l) new ≡ fill m (l ++ new)
unfolding over_at over
fill_more m l new h =
    let e : m - length l - length new ≡ m - (length l + length new) = omega arith in
    rw (take-append_seam l (replicate (m - length l) 0), drop-append_seam l (replicate (m - length l) 0), drop-replicate (length new) (m - length l) 0, length-append l new, e)
    (sym (append_assoc l new (replicate (m - (length l + length new)) 0)))

-- a part between others: what is added to it
pub part_more : (k m : ℕ) (p l rest new : List ℕ) → k ≡ length p + length l → length l + length new ≤ m
    → over_at k (p ++ (fill m l ++ rest)) new ≡ p ++ (fill m (l ++ new) ++ rest)
part_more k m p l rest new e h =
    let f : k - length p ≡ length l = omega arith in
    let g : length l + length new ≤ length (fill m l) = rw (fill_length m l (omega arith)) h in
    over_at_past k p (fill m l ++ rest) new (omega arith) ∙ ap (λ (s : List ℕ). p ++ s) (rw f (over_at_within (length l) (fill m l) rest new g ∙ ap (λ (s : List ℕ). s ++ rest) (fill_more m l new h)))
