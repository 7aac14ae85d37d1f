-- A single or a double that an array value carries as a number is no NaN: a NaN has a case of its own.
use mathlib.Core.Path.{◌≡◌}
use mathlib.Core.Bool.{not}
use lib.Dec.{T}
use lib.Ieee.{Float, is_nan}
use Rattle.std.specs.Prelude.{Result, Ok}
use Rattle.model.specs.declared.Rejection.{Rejection}
use Rattle.model.specs.declared.ArrayValue.{ArrayValue}
use Rattle.model.specs.declared.ArrayValue.TheVariants.{Single, Double}
use Rattle.model.specs.Answers.{NanCases}

pub single_no_nan : {v : Result ArrayValue Rejection} (x : Float) → NanCases v → v ≡ Ok (Single x) → T (not (is_nan x))
single_no_nan x h e = rw (rw e at h) tt

pub double_no_nan : {v : Result ArrayValue Rejection} (x : Float) → NanCases v → v ≡ Ok (Double x) → T (not (is_nan x))
double_no_nan x h e = rw (rw e at h) tt
