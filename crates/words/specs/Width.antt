-- The widths of a signed number.
use Rattle.std.specs.Prelude.{ℕ, Bool, ◌||◌, eqb}

abbrev pub is_width : ℕ → Bool
is_width w = eqb w 4 || eqb w 8
