-- The low bytes that two numbers share.
use Rattle.std.specs.Prelude.{ℕ, zero, suc, ◌/◌, ◌%◌, cond, eqb}

-- how many of the w lowest bytes are the same, before the first that differs
unfoldable pub same_bytes : ℕ → ℕ → ℕ → ℕ
same_bytes zero x y = 0
same_bytes (suc w) x y = let rest = same_bytes w (x / 256) (y / 256) in cond (eqb (x % 256) (y % 256)) (suc rest) 0
