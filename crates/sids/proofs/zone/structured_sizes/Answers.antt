-- Four tests, one after the other.
use native.Mathlib.Omega.{arith}
use Prim.Native.Nat.{◌+◌}
use mathlib.Core.Path.{◌≡◌}
use borrow.Author.Tests.{lt-leb, le-leb, eq-eqb, ne_eqb}
use Rattle.sids.proofs.zone.structured_sizes.Goals as goal

pub returns-then-vertices-lt2 : goal.returns-then-vertices-lt2
returns-then-vertices-lt2 c = rw (lt-leb _ _ c.if-vertices-lt2.true)

pub returns-then-vertices-gt-MAX_NUMBER : goal.returns-then-vertices-gt-MAX_NUMBER
returns-then-vertices-gt-MAX_NUMBER c = rw (le-leb _ _ c.if-vertices-lt2.false, lt-leb _ _ c.if-vertices-gt-MAX_NUMBER.true)

pub returns-then-cells-vertices : goal.returns-then-cells-vertices
returns-then-cells-vertices c =
    let a = c.args in
    let n : a.cells + 1 ≡ a.vertices → ⊥ = λ e. c.if-cells-vertices.true (omega arith) in
    rw (le-leb _ _ c.if-vertices-lt2.false, le-leb _ _ c.if-vertices-gt-MAX_NUMBER.false, ne_eqb (a.cells + 1) a.vertices n)

pub returns : goal.returns
returns c =
    let a = c.args in
    let e : a.cells + 1 ≡ a.vertices = omega arith in
    rw (le-leb _ _ c.if-vertices-lt2.false, le-leb _ _ c.if-vertices-gt-MAX_NUMBER.false, eq-eqb (a.cells + 1) a.vertices e)
