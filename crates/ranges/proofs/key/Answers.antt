-- Below 4,096 zones the product has room.
use Rattle.ranges.specs.Tables.{key}
use Rattle.std.proofs.Common.{arith}
use Rattle.ranges.proofs.key.Goals as goal

pub returns : goal.returns
unfolding key
returns c = (omega arith, omega arith)
