-- A sign is 1 or 2, and its bit the last one of the byte divided by it.
use Prim.Native.Nat.{◌/◌}
use mathlib.Core.Path.{◌≡◌}
use native.Mathlib.Omega.{arith}
use Rattle.model.specs.FaceUsage.{unused}
use Rattle.usage_bytes.proofs.is_unused.Goals as goal

pub returns-then-reversed : goal.returns-then-reversed
unfolding unused
returns-then-reversed c = (rw c.if-reversed.true, omega arith)

pub returns-else-reversed : goal.returns-else-reversed
unfolding unused
returns-else-reversed c = let e : c.args.byte / 1 ≡ c.args.byte = omega arith in (rw (c.if-reversed.false, e), omega arith)
