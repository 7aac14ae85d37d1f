-- The entries before `from` begin no later, those after the entries left begin later, for first numbers rise.
use Rattle.std.proofs.Common.{◌≡◌, ◌-◌, ◌*◌, ◌/◌, ◌≤◌, mul-le-mul_left, arith}
use Rattle.ranges.proofs.Halving.{begun_start, begun_half}
use Rattle.ranges.proofs.begun.Goals as goal
use Rattle.ranges.proofs.begun.Goals.{After-at_most}

pub loop-left-init : goal.loop-left-init
loop-left-init c = begun_start _ _ _

pub at_most-requires : goal.at_most-requires
at_most-requires c = let p = c.requires in (p.0.small _ (omega arith), p.1)

module _ (c : After-at_most) where
  room : let l = c.loop-left.left in (l - l / 2) * c.at_most.result ≤ l - l / 2
  room = let l = c.loop-left.left in omega (arith, mul-le-mul_left (l - l / 2) c.at_most.ensures.1)

pub loop-left-preserved : goal.loop-left-preserved
loop-left-preserved c =
    begun_half c.loop-left.invariant c.requires.0.rise (omega arith) (omega arith) c.at_most.ensures.0

pub returns : goal.returns
returns c = let e : c.loop-left.left ≡ 0 = omega arith in rw e at c.loop-left.invariant

pub overflow_mul-from : goal.overflow_mul-from
overflow_mul-from c = omega (arith, room c)

pub overflow_add-from-in-loop-left : goal.overflow_add-from-in-loop-left
overflow_add-from-in-loop-left c = omega (arith, room c)
