-- Laws of `le` as a loop from the highest byte down meets it, over the width.
use Prim.Native.Nat.{ℕ, suc, ◌+◌, ◌*◌, ◌-◌, ◌^◌, ◌≤◌, ◌<◌}
use mathlib.Core.Path.{◌≡◌, refl}
use mathlib.Core.List.{List}
use native.Mathlib.Nat.{pow-succ', lt_of_lt_of_le, pow-le-pow_right}
use native.Mathlib.Omega.{arith}
use lib.Dec.{lit<}
use lib.ListN.{get_or, drop}
use Rattle.model.specs.Bytes.{le}
use Rattle.model.proofs.Reading.{le_step}

-- r is the number of the w - k bytes from at + k
abbrev pub Tail : List ℕ → ℕ → ℕ → ℕ → ℕ → Type 0
Tail b at w k r = (r ≡ le (w - k) (drop (at + k) b)) × (r < 256 ^ (w - k))

pub none : (b : List ℕ) (at w : ℕ) → Tail b at w w 0
unfolding le
none b at w = let e : w - w ≡ 0 = omega arith in rw e (refl, lit< tt)

pub room : (j : ℕ) {r : ℕ} → r < 256 ^ j → j ≤ 7 → r < 256 ^ 7
room j h l = lt_of_lt_of_le h (pow-le-pow_right (lit< tt) l)

-- one byte more, in front
pub front : (b : List ℕ) (at w k r x : ℕ) → Tail b at w k r → (x ≡ get_or b (at + (k - 1)) 0) × (x < 256) → 0 < k → k ≤ w → Tail b at w (k - 1) (r * 256 + x)
front b at w k r x t byte h l =
    let e : w - (k - 1) ≡ suc (w - k) = omega arith in
    let f : at + (k - 1) + 1 ≡ at + k = omega arith in
    rw (e, pow-succ', le_step (w - k) b (at + (k - 1)), f) (omega arith)
