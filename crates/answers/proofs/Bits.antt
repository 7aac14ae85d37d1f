-- Yes and no as a number.
use mathlib.Core.Path.{◌≡◌, refl}
use mathlib.Core.Bool.{Bool, true, false, cond}
use mir.Val.{bool_byte}

pub one_if : (y : Bool) → bool_byte y ≡ cond y 1 0
one_if true = refl
one_if false = refl
