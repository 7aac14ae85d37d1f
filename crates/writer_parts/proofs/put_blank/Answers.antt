-- The header, then zeros.
use native.Mathlib.Omega.{arith}
use Prim.Native.Nat.{◌+◌, ◌*◌, ◌≤◌}
use lib.ListN.{length}
use Rattle.writer_parts.proofs.PartLaws.{room_sum, start_limits, blank_put}
use Rattle.writer_parts.proofs.put_blank.Goals as goal
use Rattle.writer_parts.proofs.put_blank.Goals.{After-put_zeros-arg-1}

-- the needed room, as a sum, where the zeros are written
sum : (c : After-put_zeros-arg-1) → let a = c.args in
    (32 + 84 * a.nodes + 8 * a.words + a.bytes ≤ 16777216) × (32 + 84 * a.nodes + 8 * a.words + a.bytes ≤ length a.room.now)
sum c = let l = start_limits _ _ _ _ c.requires in (room_sum _ _ _ _ l.0, room_sum _ _ _ _ l.1)

pub put_header-requires : goal.put_header-requires
put_header-requires c = let l = start_limits _ _ _ _ c.requires in (l.0, omega (arith, room_sum _ _ _ _ l.1))

pub returns : goal.returns
returns c = blank_put _ _ _ _ _ _ c.put_header.ensures c.put_zeros.ensures

pub overflow_mul-nodes : goal.overflow_mul-nodes
overflow_mul-nodes c = omega (arith, sum c)

pub overflow_mul-words : goal.overflow_mul-words
overflow_mul-words c = omega (arith, sum c)

pub overflow_add-nodes : goal.overflow_add-nodes
overflow_add-nodes c = omega (arith, sum c)

pub overflow_add-nodes-2 : goal.overflow_add-nodes-2
overflow_add-nodes-2 c = omega (arith, sum c)

pub put_zeros-requires : goal.put_zeros-requires
put_zeros-requires c = omega (arith, sum c, c.put_header.auto.room)
