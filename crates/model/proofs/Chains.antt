-- The walks of specs/Lists as `any`, `all` and `find` over a range make them.
use Prim.Native.Nat.{ℕ, zero, suc, ◌≤◌, ◌<◌}
use mathlib.Core.Path.{◌≡◌, refl}
use mathlib.Core.Bool.{Bool, true, false}
use native.Mathlib.Omega.{arith}
use native.Mathlib.Numerals.{add-one}
use Rattle.std.specs.List.{range_with_len, list_any, list_all}
use Rattle.std.proofs.Common.{Option, None, Some, MatchOption}
use Rattle.std.specs.Option.{unwrap_or}
use Rattle.model.specs.Lists.{every_from, some_from, seek_from}
use Rattle.model.proofs.Loops.{seek_start, seek_stop, seek_done}

module _ (p : ℕ → Bool) where
  pub every_in_range : (n i : ℕ) → list_all p (range_with_len i n) ≡ every_from p n i
  unfolding every_from
  every_in_range zero i = refl
  every_in_range (suc n) i = rw (add-one, every_in_range n (suc i))

  pub some_in_range : (n i : ℕ) → list_any p (range_with_len i n) ≡ some_from p n i
  unfolding some_from
  some_in_range zero i = refl
  some_in_range (suc n) i = rw (add-one, some_in_range n (suc i))

  -- the first, or n where there is none
  pub seek_in_range : (n : ℕ) (r : Option ℕ)
      → MatchOption r ((k : ℕ) → 0 ≤ k → k < n → p k ≡ false) (λ i. (0 ≤ i) × (i < n) × (p i ≡ true) × ((k : ℕ) → 0 ≤ k → k < i → p k ≡ false))
      → unwrap_or r n ≡ seek_from p n 0
  seek_in_range n None f = seek_done (seek_start p n n (omega arith) (λ j l. f j (omega arith) l)) (omega arith)
  seek_in_range n (Some i) (u, l, e, f) = seek_stop (seek_start p n i (omega arith) (λ j h. f j (omega arith) h)) l e
