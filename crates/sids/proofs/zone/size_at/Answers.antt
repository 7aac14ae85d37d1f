-- The number at its place, or nothing.
use native.Mathlib.Omega.{arith}
use Prim.Native.Nat.{◌+◌, ◌*◌, ◌<◌}
use mathlib.Core.Path.{refl}
use borrow.Author.Tests.{lt-ltb, le-ltb}
use Rattle.model.specs.Image.{tree_of}
use Rattle.model.specs.Values.{index_dimension}
use Rattle.sids.proofs.Zones.{zone-has}
use Rattle.sids.proofs.zone.size_at.Goals as goal

pub number-requires : goal.number-requires
number-requires c =
    let a = c.args in
    let h : a.from + a.d < 3 * index_dimension (tree_of a.image.now) a.z = omega arith in
    let n = zone-has a.image.now c.requires.sound.0 a.z c.requires.sound.1 (a.from + a.d) h in
    rw c.requires.wide_value (record { sound = (c.requires.sound.0, n.inside); t = (n.wide, refl); wide_bound = n.room })

pub returns-then-d-n : goal.returns-then-d-n
returns-then-d-n c = rw (lt-ltb _ _ c.if-d-n.true) c.number.ensures.0

pub returns : goal.returns
returns c = rw (le-ltb _ _ c.if-d-n.false)
