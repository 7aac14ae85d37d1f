-- One dimension, then its size.
use mathlib.Core.Path.{◌≡◌, sym, ◌∙◌}
use mathlib.Core.Bool.{true}
use native.Mathlib.Omega.{arith}
use borrow.Author.Tests.{eqb-true}
use Rattle.model.specs.Image.{tree_of, node}
use Rattle.model.specs.Values.{flat}
use Rattle.model.proofs.Bounds.{node-placed}
use Rattle.model.proofs.Reading.{rank_is}
use Rattle.sids.proofs.DataSizes.{one_size, other_size}
use Rattle.sids.proofs.data_size.range_sized.Goals as goal
use Rattle.sids.proofs.data_size.range_sized.Goals.{Else-not-flat}

pub returns-then-not-flat : goal.returns-then-not-flat
returns-then-not-flat c = other_size _ _ _ (sym c.flat.ensures ∙ c.if-not-flat.true)

-- one dimension
module _ (c : Else-not-flat) where
  one : flat (tree_of c.args.image.now) c.args.i ≡ true
  one = sym c.flat.ensures ∙ c.if-not-flat.false

pub dimension-requires : goal.dimension-requires
unfolding flat
dimension-requires c =
    let b = c.args.image.now in
    let p = node-placed b c.requires.index.0.sound.table c.args.i c.requires.i_bound in
    let r : (node (tree_of b) c.args.i).rank ≡ 1 = sym (rank_is (tree_of b) c.args.i) ∙ eqb-true _ 1 (one c) in
    record { laid = (c.requires.index.0.sound.laid, c.requires.i_bound); k_bound = (omega arith, p.words_in) }

pub returns : goal.returns
returns c = rw c.dimension.ensures at c.has_points.ensures ∙ one_size _ _ _ (one (goal.at.returns c).Else-not-flat)
