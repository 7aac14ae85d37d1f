-- The dimensions of the array before it, or DataSize.
use native.Mathlib.Omega.{arith}
use mathlib.Core.Path.{◌≡◌, sym, ap, ◌∙◌}
use mathlib.Core.Bool.{true}
use Rattle.model.specs.Lists.{◌⊃◌}
use Rattle.model.specs.Image.{tree_of, parent}
use Rattle.model.specs.Values.{sizes_lawful, sized_array, shaped}
use Rattle.sids.specs.Given.{Sized}
use Rattle.sids.proofs.Siblings.{array_after, sibling-sizes}
use Rattle.sids.proofs.stages.sizes_lawful.Goals as goal
use Rattle.sids.proofs.stages.sizes_lawful.Goals.{After-parent_of-up}

pub returns-then-not-sized_array : goal.returns-then-not-sized_array
unfolding sizes_lawful ◌⊃◌
returns-then-not-sized_array c = rw (sym c.sized_array.ensures ∙ c.if-not-sized_array.true)

-- an array
module _ (c : After-parent_of-up) where
  is-array : sized_array (tree_of c.args.image.now) c.args.i ≡ true
  is-array = sym c.sized_array.ensures ∙ c.if-not-sized_array.false

  size-known : Sized c.args.image.now (parent (tree_of c.args.image.now) c.args.i)
  size-known = c.requires.sized is-array

pub follows_array-requires : goal.follows_array-requires
follows_array-requires c = (c.requires.nodes_to.1, (array_after _ _ (is-array c), c.requires.nodes_to.0.inside))

pub overflow_sub-i : goal.overflow_sub-i
overflow_sub-i c = array_after _ _ (is-array (goal.at.overflow_sub-i c).After-parent_of-up)

pub same_shape-requires : goal.same_shape-requires
same_shape-requires c = (c.requires.nodes_to.0.sound, (c.requires.nodes_to.0.inside, omega arith))

pub returns-then-follows_array : goal.returns-then-follows_array
unfolding sizes_lawful ◌⊃◌
returns-then-follows_array c =
    let d = (goal.at.returns-then-follows_array c).After-parent_of-up in
    let a = d.args in
    rw (is-array d) (c.same_shape.ensures ∙ ap (shaped (tree_of a.image.now) a.i)
    (sibling-sizes a.image.now a.i d.parent_of-up.result d.requires.nodes_to.0 (is-array d) d.parent_of-up.ensures.0
    (sym c.follows_array.ensures ∙ c.if-follows_array.true)))

pub has_data_size-requires : goal.has_data_size-requires
has_data_size-requires c =
    let d = (goal.at.has_data_size-requires c).After-parent_of-up in
    record { index = (d.requires.nodes_to.1, rw d.parent_of-up.ensures.0 (size-known d)); i_bound = d.requires.nodes_to.0.inside }

pub returns : goal.returns
unfolding sizes_lawful ◌⊃◌
returns c =
    let d = (goal.at.returns c).After-parent_of-up in
    rw (is-array d) (rw d.parent_of-up.ensures.0 at c.has_data_size.ensures)
