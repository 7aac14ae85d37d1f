-- Numbers one after the other that meet a test.
use Rattle.std.specs.Prelude.{ℕ, ◌≤◌, ◌<◌, ◌≡◌, Bool, true}

-- the numbers from k to j, of n, meet a test
pub record Passed (p : ℕ → Bool) (n k j : ℕ) : Type 0 where
  pub from : k ≤ j
  pub to : j ≤ n
  pub each : (i : ℕ) → k ≤ i → i < j → p i ≡ true
