-- The two tests are those of the definition.
use Prim.Native.Nat.{◌<◌}
use native.Mathlib.Omega.{arith}
use borrow.Author.Tests.{lt-ltb}
use Rattle.model.specs.Elements.{fits_length}
use Rattle.element_types.proofs.fits_length.Goals as goal

pub returns-then-nodes-eq0 : goal.returns-then-nodes-eq0
unfolding fits_length
returns-then-nodes-eq0 c = rw (← c.nodes_per-nodes.ensures.0, c.if-nodes-eq0.true)

pub returns : goal.returns
unfolding fits_length
returns c =
    let n = c.nodes_per-nodes in
    let h : 0 < n.result = omega (arith, c.if-nodes-eq0.false) in
    rw (← n.ensures.0, lt-ltb 0 n.result h)
