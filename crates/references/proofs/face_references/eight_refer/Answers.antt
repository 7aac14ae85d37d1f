-- Every number before k + i refers to a face; at the end i is 8.
use Prim.Native.Nat.{◌+◌}
use mathlib.Core.Path.{◌≡◌}
use native.Mathlib.Omega.{arith}
use Rattle.references.proofs.face_references.eight_refer.Goals as goal

pub returns : goal.returns
returns c e = let q : c.args.k + c.loop-i.i ≡ c.args.k + 8 = omega arith in rw q at c.loop-i.invariant
