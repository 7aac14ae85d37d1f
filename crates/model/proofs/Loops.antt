-- The walks of specs/Lists as a loop meets them, from any start: what is left from number i up to n gives the whole w.
use Prim.Native.Nat.{ℕ, zero, suc, ◌+◌, ◌-◌, ◌≤◌, ◌<◌}
use mathlib.Core.Path.{◌≡◌, sym}
use mathlib.Core.Bool.{Bool, true, false}
use native.Mathlib.Omega.{arith}
use native.Mathlib.Nat.{add-zero}
use Rattle.model.specs.Lists.{every_from, some_from, seek_from, count_from, list_from}
use Rattle.model.proofs.Walks.{every_from_step, every_from-end, some_from_step, some_from-end, seek_from_step, seek_from-end}

-- numbers where the test fails are passed over
module _ (p : ℕ → Bool) where
  pub some_skip : (m k i : ℕ) → ((j : ℕ) → i ≤ j → j < i + m → p j ≡ false) → some_from p (m + k) i ≡ some_from p k (i + m)
  unfolding some_from
  some_skip zero k i f = let e : 0 + k ≡ k = omega arith in rw (e, add-zero i)
  some_skip (suc m) k i f =
      let e : suc m + k ≡ suc (m + k) = omega arith in
      let g : suc i + m ≡ i + suc m = omega arith in
      rw (e, f i (omega arith) (omega arith), ← g) (some_skip m k (suc i) (λ j l h. f j (omega arith) (omega arith)))

  pub seek_skip : (m k i : ℕ) → ((j : ℕ) → i ≤ j → j < i + m → p j ≡ false) → seek_from p (m + k) i ≡ seek_from p k (i + m)
  unfolding seek_from
  seek_skip zero k i f = let e : 0 + k ≡ k = omega arith in rw (e, add-zero i)
  seek_skip (suc m) k i f =
      let e : suc m + k ≡ suc (m + k) = omega arith in
      let g : suc i + m ≡ i + suc m = omega arith in
      rw (e, f i (omega arith) (omega arith), ← g) (seek_skip m k (suc i) (λ j l h. f j (omega arith) (omega arith)))

  pub count_skip : (m k i : ℕ) → ((j : ℕ) → i ≤ j → j < i + m → p j ≡ false) → count_from p (m + k) i ≡ count_from p k (i + m)
  unfolding count_from
  count_skip zero k i f = let e : 0 + k ≡ k = omega arith in rw (e, add-zero i)
  count_skip (suc m) k i f =
      let e : suc m + k ≡ suc (m + k) = omega arith in
      let g : suc i + m ≡ i + suc m = omega arith in
      rw (e, f i (omega arith) (omega arith), ← g) (count_skip m k (suc i) (λ j l h. f j (omega arith) (omega arith)))

  pub list_skip : (m k i : ℕ) → ((j : ℕ) → i ≤ j → j < i + m → p j ≡ false) → list_from p (m + k) i ≡ list_from p k (i + m)
  unfolding list_from
  list_skip zero k i f = let e : 0 + k ≡ k = omega arith in rw (e, add-zero i)
  list_skip (suc m) k i f =
      let e : suc m + k ≡ suc (m + k) = omega arith in
      let g : suc i + m ≡ i + suc m = omega arith in
      rw (e, f i (omega arith) (omega arith), ← g) (list_skip m k (suc i) (λ j l h. f j (omega arith) (omega arith)))

pub record EveryLeft (p : ℕ → Bool) (n i : ℕ) (w : Bool) : Type 0 where
  pub inside : i ≤ n
  pub rest : every_from p (n - i) i ≡ w

pub every_start : (p : ℕ → Bool) (n : ℕ) → EveryLeft p n 0 (every_from p n 0)
every_start p n = let e : n - 0 ≡ n = omega arith in record { inside = omega arith; rest = rw e }

module _ {p : ℕ → Bool} {n i : ℕ} {w : Bool} (l : EveryLeft p n i w) where
  pub every_more : i < n → p i ≡ true → EveryLeft p n (i + 1) w
  every_more h e = record { inside = omega arith; rest = rw (every_from_step p n i h, e) at l.rest }

  pub every_stop : i < n → p i ≡ false → false ≡ w
  every_stop h e = rw (every_from_step p n i h, e) at l.rest

  pub every_done : n ≤ i → true ≡ w
  every_done h = rw (every_from-end p n i h) at l.rest

pub record SomeLeft (p : ℕ → Bool) (n i : ℕ) (w : Bool) : Type 0 where
  pub inside : i ≤ n
  pub rest : some_from p (n - i) i ≡ w

-- from number m on, where the test fails before it
pub some_start : (p : ℕ → Bool) (n m : ℕ) → m ≤ n → ((j : ℕ) → j < m → p j ≡ false) → SomeLeft p n m (some_from p n 0)
some_start p n m h f =
    let e : m + (n - m) ≡ n = omega arith in
    let z : 0 + m ≡ m = omega arith in
    record { inside = h; rest = rw (e, z) at (sym (some_skip p m (n - m) 0 (λ j l k. f j (omega arith)))) }

module _ {p : ℕ → Bool} {n i : ℕ} {w : Bool} (l : SomeLeft p n i w) where
  pub some_more : i < n → p i ≡ false → SomeLeft p n (i + 1) w
  some_more h e = record { inside = omega arith; rest = rw (some_from_step p n i h, e) at l.rest }

  pub some_stop : i < n → p i ≡ true → true ≡ w
  some_stop h e = rw (some_from_step p n i h, e) at l.rest

  pub some-done : n ≤ i → false ≡ w
  some-done h = rw (some_from-end p n i h) at l.rest

pub record SeekLeft (p : ℕ → Bool) (n i w : ℕ) : Type 0 where
  pub inside : i ≤ n
  pub rest : seek_from p (n - i) i ≡ w

pub seek_start : (p : ℕ → Bool) (n m : ℕ) → m ≤ n → ((j : ℕ) → j < m → p j ≡ false) → SeekLeft p n m (seek_from p n 0)
seek_start p n m h f =
    let e : m + (n - m) ≡ n = omega arith in
    let z : 0 + m ≡ m = omega arith in
    record { inside = h; rest = rw (e, z) at (sym (seek_skip p m (n - m) 0 (λ j l k. f j (omega arith)))) }

module _ {p : ℕ → Bool} {n i w : ℕ} (l : SeekLeft p n i w) where
  pub seek_more : i < n → p i ≡ false → SeekLeft p n (i + 1) w
  seek_more h e = record { inside = omega arith; rest = rw (seek_from_step p n i h, e) at l.rest }

  pub seek_stop : i < n → p i ≡ true → i ≡ w
  seek_stop h e = rw (seek_from_step p n i h, e) at l.rest

  pub seek_done : n ≤ i → i ≡ w
  seek_done h = rw (seek_from-end p n i h) at l.rest
