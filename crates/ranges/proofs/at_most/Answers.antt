-- The sum is no less than 2^63 exactly where x is no greater than y.
use Rattle.std.proofs.Common.{leb, arith, leb-false, leb-true}
use Rattle.ranges.proofs.Cases.{one_or_none}
use Rattle.ranges.proofs.at_most.Goals as goal

pub returns : goal.returns
returns c =
    let x = c.args.x in
    let y = c.args.y in
    (one_or_none (leb x y) (λ e. omega (arith, leb-true x y e)) (λ e. omega (arith, leb-false x y e)), omega arith)
