-- A part up to the end is the rest.
use native.Mathlib.Omega.{arith}
use Prim.Native.Nat.{◌-◌}
use lib.ListN.{length, drop, length-drop}
use lib.Seq.{take_all}
use Rattle.records.proofs.node_table.Goals as goal

pub returns : goal.returns
returns c =
    let b = c.args.image.now in
    let e = take_all (length b - 32) (drop 32 b) (rw length-drop (omega arith)) in
    (e, rw (e, length-drop) (omega arith))
