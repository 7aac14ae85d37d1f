-- Numbers of one class linked, in a table of u16: from place 0 on the last number of each class, from 4096 on the one before each number in its
-- class; each is stored one higher, 0 for none.
use Rattle.std.specs.Prelude.{ℕ, ◌+◌, ◌-◌, ◌≤◌, ◌<◌, ◌≡◌, Bool, true, false, List, eqb, get_or, set}

-- x is one above the last number below n where the test holds; 0 where there is none
pub record LastOf (p : ℕ → Bool) (n x : ℕ) : Type 0 where
  pub small : x ≤ n
  pub none_after : (m : ℕ) → x ≤ m → m < n → p m ≡ false
  pub holds : 0 < x → p (x - 1) ≡ true

-- the numbers below n are linked by their classes
pub record Linked (class : ℕ → ℕ) (n : ℕ) (links : List ℕ) : Type 0 where
  pub last : (u : ℕ) → u < 4096 → LastOf (λ m. eqb (class m) u) n (get_or links u 0)
  pub before : (i : ℕ) → i < n → LastOf (λ m. eqb (class m) (class i)) i (get_or links (4096 + i) 0)

-- no class has a number yet
abbrev pub NoneLinked : List ℕ → Type 0
NoneLinked links = (u : ℕ) → u < 4096 → get_or links u 0 ≡ 0

-- number i is the last of class u now
abbrev pub with_link : List ℕ → ℕ → ℕ → List ℕ
with_link links i u = set (set links (4096 + i) (get_or links u 0)) u (i + 1)
