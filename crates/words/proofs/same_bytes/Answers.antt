-- The zeros below the lowest set bit of the difference, by bytes.
use native.Mathlib.Omega.{arith}
use Rattle.words.proofs.Difference.{shared_bytes, some_differ}
use Rattle.words.proofs.same_bytes.Goals as goal

pub returns : goal.returns
returns c =
    let s = rw (← c.abs_diff.ensures) at (shared_bytes 8 c.args.x c.args.y) in
    let m = some_differ 8 c.args.x c.args.y (omega (arith, c.ranges.x)) (omega (arith, c.ranges.y)) c.requires in
    (omega (arith, s, m), omega arith)
