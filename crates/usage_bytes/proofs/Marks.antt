-- A free bit leaves room for it in its byte.
use Prim.Native.Nat.{ℕ, ◌+◌, ◌/◌, ◌%◌, ◌<◌}
use mathlib.Core.Path.{◌≡◌}
use mathlib.Core.Bool.{true}
use native.Mathlib.Omega.{arith}
use borrow.Author.Tests.{eqb-true}
use Rattle.model.specs.FaceUsage.{unused}

pub forward_room : (x : ℕ) → x < 256 → unused 1 x ≡ true → x + 1 < 256
unfolding unused
forward_room x h e = let q = eqb-true (x / 1 % 2) 0 e in omega arith

pub reversed_room : (x : ℕ) → x < 256 → unused 2 x ≡ true → x + 2 < 256
unfolding unused
reversed_room x h e = let q = eqb-true (x / 2 % 2) 0 e in omega arith
