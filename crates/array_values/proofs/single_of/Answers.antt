-- The bits of a NaN are kept as they are, and any other bits are its float's.
use mathlib.Core.Path.{◌≡◌, refl, sym, ap, ◌∙◌}
use mathlib.Core.Bool.{false}
use lib.Ieee.{binary32, nan_bits}
use Rattle.model.specs.ArrayValue.{single}
use Rattle.array_values.proofs.Laws.{no_nan, bits_kept}
use Rattle.array_values.proofs.single_of.Goals as goal
use Rattle.array_values.proofs.single_of.Goals.{Else-nan_single}

plain : (c : Else-nan_single) → nan_bits binary32 c.args.bits ≡ false
plain c = sym c.nan_single.ensures ∙ c.if-nan_single.false

pub returns : goal.returns
returns c =
    let k = bits_kept binary32 c.args.bits c.ranges.bits.fits (plain c) in
    (ap single k.0, k.1)

pub returns-then-nan_single : goal.returns-then-nan_single
returns-then-nan_single c = (refl, sym c.nan_single.ensures ∙ c.if-nan_single.true)

pub float_from_bits-result : goal.float_from_bits-result
float_from_bits-result c = no_nan (nan_bits binary32 _) (plain c)
