-- The bits of a NaN are kept as they are, and any other bits are its float's.
use mathlib.Core.Path.{◌≡◌, refl, sym, ap, ◌∙◌}
use mathlib.Core.Bool.{false}
use lib.Ieee.{binary64, nan_bits}
use Rattle.model.specs.ArrayValue.{double}
use Rattle.array_values.proofs.Laws.{no_nan, bits_kept}
use Rattle.array_values.proofs.double_of.Goals as goal
use Rattle.array_values.proofs.double_of.Goals.{Else-nan_double}

plain : (c : Else-nan_double) → nan_bits binary64 c.args.bits ≡ false
plain c = sym c.nan_double.ensures ∙ c.if-nan_double.false

pub returns : goal.returns
returns c =
    let k = bits_kept binary64 c.args.bits c.ranges.bits.fits (plain c) in
    (ap double k.0, k.1)

pub returns-then-nan_double : goal.returns-then-nan_double
returns-then-nan_double c = (refl, sym c.nan_double.ensures ∙ c.if-nan_double.true)

pub float_from_bits-result : goal.float_from_bits-result
float_from_bits-result c = no_nan (nan_bits binary64 _) (plain c)
