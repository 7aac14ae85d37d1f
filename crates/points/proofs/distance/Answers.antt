-- By the sign.
use native.Mathlib.Omega.{arith}
use Rattle.words.proofs.Signed.{half_is}
use Rattle.points.proofs.PointRanges.{distance_low, distance_high}
use Rattle.points.proofs.distance.Goals as goal

pub overflow_add-result : goal.overflow_add-result
overflow_add-result c =
    let h = half_is c.args.width c.requires.0 in
    let e = c.half_of-half.ensures in
    omega arith

pub returns-then-x-half : goal.returns-then-x-half
returns-then-x-half c = let e = c.half_of-half.ensures in rw e (distance_low _ _ (rw e at c.if-x-half.true))

pub returns : goal.returns
returns c = let e = c.half_of-half.ensures in rw e (distance_high _ _ (rw e at c.if-x-half.false))

pub half_of-half-requires : goal.half_of-half-requires
half_of-half-requires c = c.requires.0
