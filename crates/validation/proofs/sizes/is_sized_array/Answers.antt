-- Three tests, one after the other.
use native.Mathlib.Omega.{arith}
use Prim.Native.Nat.{◌≤◌, ◌<◌}
use mathlib.Core.Path.{sym, ◌∙◌}
use mathlib.Core.Bool.{and-true, and-false}
use borrow.Author.Tests.{lt-ltb, le-ltb}
use Rattle.model.specs.Image.{tree_of, node_count}
use Rattle.model.specs.DataSize.{is_sized_array}
use Rattle.validation.proofs.sizes.is_sized_array.Goals as goal

pub returns-then-n-node : goal.returns-then-n-node
unfolding is_sized_array tree_of
returns-then-n-node c =
    let a = c.args in
    let h : node_count a.image.now ≤ a.node = omega arith in
    rw (le-ltb a.node (node_count a.image.now) h)

pub returns-then-not-is_validated : goal.returns-then-not-is_validated
unfolding is_sized_array tree_of
returns-then-not-is_validated c = rw (sym c.is_validated.ensures ∙ c.if-not-is_validated.true, and-false)

pub sized_array-requires : goal.sized_array-requires
sized_array-requires c =
    let p = c.requires in
    record { index = (p, omega arith); i_value = sym c.is_validated.ensures ∙ c.if-not-is_validated.false }

pub returns : goal.returns
unfolding is_sized_array tree_of
returns c =
    let a = c.args in
    let h : a.node < node_count a.image.now = omega arith in
    rw (lt-ltb a.node (node_count a.image.now) h, sym c.is_validated.ensures ∙ c.if-not-is_validated.false, and-true) c.sized_array.ensures
