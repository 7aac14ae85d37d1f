-- What a look-up answers in code. The model's look-ups answer a number from n on where there is none, as the node count; code answers an Option.
use Rattle.std.specs.Prelude.{ℕ, Option, Some, None, cond, ltb}

-- x where it is below n, else none
unfoldable pub if_below : ℕ → ℕ → Option ℕ
if_below n x = cond (ltb x n) (Some x) None
