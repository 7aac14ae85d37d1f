-- What was filled in stands at its place.
use Prim.Native.Nat.{ℕ, ◌+◌, ◌-◌}
use native.Mathlib.Omega.{arith}
use mathlib.Core.Path.{◌≡◌}
use lib.ListN.{length-replicate, length, drop}
use Rattle.std.proofs.Common.{length-take-le, length-drop, ◌≤◌}
use Rattle.model.specs.Lists.{over, over_at}
use Rattle.writer_parts.proofs.put_zeros.Goals as goal

pub returns : goal.returns
unfolding over over_at
returns c =
    let at = c.args.at in
    let n = c.args.n in
    let e : at + n - at ≡ n = omega arith in
    let l : n ≤ length (drop at c.args.out.now) = rw length-drop (omega arith) in
    rw (c.fill.ensures.after (λ y h. h), e, length-take-le n (drop at c.args.out.now) l, length-replicate {A = ℕ} n 0)
