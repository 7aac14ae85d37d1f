-- Two lists of bytes, or of numbers, as a walk compares them.
use Prim.Native.Nat.{ℕ, zero, suc, ◌+◌, ◌≤◌, ◌<◌}
use mathlib.Core.Path.{◌≡◌, sym, ◌∙◌}
use mathlib.Core.Bool.{true, false, ◌&&◌}
use mathlib.Core.List.{List}
use native.Mathlib.Numerals.{add-one}
use lib.ListN.{length, get_or, take, drop, drop_of_length-le}
use lib.Seq.{drop-cons, length-take-le, get_or-take}
use lib.Dec.{eqb}
use borrow.Author.Tests.{eq-eqb, ne_eqb}
use native.Mathlib.Omega.{arith}
use Rattle.model.specs.Lists.{every_from}
use Rattle.model.specs.Bytes.{same}

-- the first k are the same: the next one, and the end
module _ (s u : List ℕ) (k : ℕ) where
  same_step : k < length s → k < length u → same (drop k s) (drop k u) ≡ (eqb (get_or s k 0) (get_or u k 0) && same (drop (k + 1) s) (drop (k + 1) u))
  unfolding same
  same_step h l = rw (drop-cons s k 0 h, drop-cons u k 0 l, add-one)

  pub same-on : k < length s → k < length u → get_or s k 0 ≡ get_or u k 0 → same (drop (k + 1) s) (drop (k + 1) u) ≡ same (drop k s) (drop k u)
  same-on h l e = rw (same_step h l, eq-eqb (get_or s k 0) (get_or u k 0) e)

  pub same-off : k < length s → k < length u → (get_or s k 0 ≡ get_or u k 0 → ⊥) → false ≡ same (drop k s) (drop k u)
  same-off h l n = rw (same_step h l, ne_eqb (get_or s k 0) (get_or u k 0) n)

  pub same_end : length s ≤ k → length u ≤ k → true ≡ same (drop k s) (drop k u)
  unfolding same
  same_end h l = rw (drop_of_length-le s h, drop_of_length-le u l)

-- as many, one by one
module _ (s u : List ℕ) where
  each_from : (m i : ℕ) → length s ≡ i + m → length u ≡ i + m → every_from (λ (k : ℕ). eqb (get_or s k 0) (get_or u k 0)) m i ≡ same (drop i s) (drop i u)
  unfolding every_from
  each_from zero i h l = same_end s u i (omega arith) (omega arith)
  each_from (suc m) i h l =
      rw (each_from m (suc i) (omega arith) (omega arith)) (rw add-one at (sym (same_step s u i (omega arith) (omega arith))))

  pub same-each : (n : ℕ) → length s ≡ n → length u ≡ n → every_from (λ (k : ℕ). eqb (get_or s k 0) (get_or u k 0)) n 0 ≡ same s u
  same-each n h l = each_from n 0 (omega arith) (omega arith)

-- the first n of some numbers
module _ (s u : List ℕ) (n k : ℕ) (e : length s ≡ n) (l : n ≤ length u) where
  pub first_on : k < n → get_or s k 0 ≡ get_or u k 0 → same (drop (k + 1) s) (drop (k + 1) (take n u)) ≡ same (drop k s) (drop k (take n u))
  first_on h f = same-on s (take n u) k (rw e h) (rw (length-take-le n u l) h) (f ∙ sym (get_or-take n u k 0 h))

  pub first_off : k < n → (get_or s k 0 ≡ get_or u k 0 → ⊥) → false ≡ same (drop k s) (drop k (take n u))
  first_off h f = same-off s (take n u) k (rw e h) (rw (length-take-le n u l) h) (λ g. f (g ∙ get_or-take n u k 0 h))

  pub first-end : n ≤ k → true ≡ same (drop k s) (drop k (take n u))
  first-end h = same_end s (take n u) k (rw e h) (rw (length-take-le n u l) h)
