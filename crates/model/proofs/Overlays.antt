-- A list written over the front of a buffer, or at a place of it.
use Prim.Native.Nat.{ℕ, ◌+◌, ◌-◌, ◌≤◌}
use mathlib.Core.Path.{◌≡◌, refl, sym, ap, ◌∙◌}
use mathlib.Core.List.{List, [], ◌++◌, append_assoc}
use native.Mathlib.Omega.{arith}
use lib.ListN.{length, take, drop, length-append, length-drop, take-append-drop}
use lib.Seq.{take-append-add, drop-append-add, take-append_seam, drop-append_seam, drop-drop, take-append-le, drop-append-le, length-take-le}
use Rattle.model.specs.Lists.{over, over_at}

module _ {A : Type 0} where
  -- the front of two lists, past the first
  pub take_past : (k : ℕ) (p q : List A) → length p ≤ k → take k (p ++ q) ≡ p ++ take (k - length p) q
  take_past k p q h = let e : k ≡ length p + (k - length p) = omega arith in subst_take e
    where
      subst_take : k ≡ length p + (k - length p) → take k (p ++ q) ≡ p ++ take (k - length p) q
      subst_take e = ap (λ (m : ℕ). take m (p ++ q)) e ∙ take-append-add p q (k - length p)

  pub drop_past : (k : ℕ) (p q : List A) → length p ≤ k → drop k (p ++ q) ≡ drop (k - length p) q
  drop_past k p q h =
      let e : k ≡ length p + (k - length p) = omega arith in
      ap (λ (m : ℕ). drop m (p ++ q)) e ∙ drop-append-add p q (k - length p)

  pub over_at_nil : (k : ℕ) (out : List A) → over_at k out [] ≡ out
  unfolding over_at over
  over_at_nil k out = take-append-drop k out

  pub over_at_zero : (out new : List A) → over_at 0 out new ≡ over out new
  unfolding over_at over
  over_at_zero out new = refl

  -- what is written after what was written
  pub over_more : (out p q : List A) → over_at (length p) (over out p) q ≡ over out (p ++ q)
  unfolding over_at over
  over_more out p q =
      rw (take-append_seam p (drop (length p) out), drop-append_seam p (drop (length p) out), drop-drop (length q) (length p) out, length-append p q)
      (sym (append_assoc p q (drop (length p + length q) out)))

  pub over-length : (out new : List A) → length new ≤ length out → length (over out new) ≡ length out
  unfolding over
  over-length out new h = rw (length-append new (drop (length new) out), length-drop (length new) out) (omega arith)

  -- what lies past it
  pub over-rest : (out new : List A) → drop (length new) (over out new) ≡ drop (length new) out
  unfolding over
  over-rest out new = drop-append_seam new (drop (length new) out)

  -- written past a first part, or within it
  pub over_at_past : (k : ℕ) (p q new : List A) → length p ≤ k → over_at k (p ++ q) new ≡ p ++ over_at (k - length p) q new
  unfolding over_at
  over_at_past k p q new h =
      rw (take_past k p q h, drop_past k p q h) (append_assoc p (take (k - length p) q) (over (drop (k - length p) q) new))

  pub over_at_within : (k : ℕ) (p q new : List A) → k + length new ≤ length p → over_at k (p ++ q) new ≡ over_at k p new ++ q
  unfolding over_at over
  over_at_within k p q new h =
      rw (take-append-le k p q (omega arith), drop-append-le k p q (omega arith), drop-append-le (length new) (drop k p) q (rw (length-drop k p) (omega arith)))
      (simp append_assoc)

  pub over_at-length : (k : ℕ) (out new : List A) → k + length new ≤ length out → length (over_at k out new) ≡ length out
  unfolding over_at
  over_at-length k out new h =
      let e = over-length (drop k out) new (rw (length-drop k out) (omega arith)) in
      rw (length-append (take k out) (over (drop k out) new), e, length-take-le k out (omega arith), length-drop k out) (omega arith)

  -- what lies past a place that it does not reach
  pub over_at-beyond : (m k : ℕ) (out new : List A) → k + length new ≤ m → m ≤ length out → drop m (over_at k out new) ≡ drop m out
  unfolding over_at over
  over_at-beyond m k out new h l =
      let n = length-take-le k out (omega arith) in
      let e : k + (length new + (m - k - length new)) ≡ m = omega arith in
      rw (drop_past m (take k out) (over (drop k out) new) (omega (arith, n)), n, drop_past (m - k) new (drop (length new) (drop k out)) (omega arith), drop-drop (m - k - length new) (length new) (drop k out), drop-drop (length new + (m - k - length new)) k out, e)

  -- one part after the other
  pub over_at_more : (k : ℕ) (out p q : List A) → k ≤ length out → over_at (k + length p) (over_at k out p) q ≡ over_at k out (p ++ q)
  unfolding over_at
  over_at_more k out p q h =
      let n = length-take-le k out h in
      let e : k + length p - length (take k out) ≡ length p = omega (arith, n) in
      over_at_past (k + length p) (take k out) (over (drop k out) p) q (omega (arith, n))
      ∙ ap (λ (s : List A). take k out ++ s) (ap (λ (j : ℕ). over_at j (over (drop k out) p) q) e ∙ over_more (drop k out) p q)
