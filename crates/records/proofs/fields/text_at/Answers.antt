-- The bytes are written over the whole of the room.
use native.Mathlib.Omega.{arith}
use Prim.Native.Nat.{◌+◌, ◌-◌}
use mathlib.Core.Path.{◌≡◌, ◌∙◌}
use lib.Dec.{lit≤}
use lib.ListN.{length, take, drop, replicate, length-drop}
use lib.Seq.{length-take-le}
use Rattle.words.proofs.Writes.{filled}
use Rattle.records.proofs.fields.text_at.Goals as goal

pub returns : goal.returns
returns c =
    let a = c.args in
    let e : a.at + 32 - a.at ≡ 32 = omega arith in
    let s = take 32 (drop a.at a.table.now) in
    let l : length s ≡ 32 = length-take-le 32 (drop a.at a.table.now) (rw length-drop (omega arith)) in
    rw e at c.put_bytes.ensures ∙ filled (replicate 32 0) s (rw l (lit≤ tt))
