-- The PointRange decides, then the PointList, then the zone.
use Prim.Native.Nat.{◌≤◌, ◌<◌}
use mathlib.Core.Path.{◌≡◌, sym, ap, ◌∙◌}
use native.Mathlib.Omega.{arith}
use Rattle.model.specs.Image.{tree_of, node_count}
use Rattle.model.specs.Containment.{role, FlowSolution}
use Rattle.model.specs.Values.{shaped, list_count, point_range_of, point_list_of}
use Rattle.model.proofs.Bounds.{node-placed}
use Rattle.model.proofs.Found.{the_none}
use Rattle.index.proofs.Marking.{kind_parts}
use Rattle.types.proofs.Missing.{there}
use Rattle.sids.proofs.DataSizes.{by_range, by_list, by_zone, range-typed, list_rank}
use Rattle.sids.proofs.data_size.flow_sized.Goals as goal
use Rattle.sids.proofs.data_size.flow_sized.Goals.{Start, In-Some, In-Some-point_list_of, After-point_list_of}

-- the node is a flow solution
is-flow : (c : Start) → role (tree_of c.args.image.now) c.args.p ≡ FlowSolution
is-flow c = (kind_parts (tree_of c.args.image.now) c.args.p c.requires.p_value.0 (omega arith)).1

-- a PointRange conforms
module _ (c : In-Some) where
  range-is : c.in-Some.range ≡ point_range_of (tree_of c.args.image.now) c.args.p
  range-is = (there c.in-Some.ensures).0

  range-inside : point_range_of (tree_of c.args.image.now) c.args.p < node_count c.args.image.now
  range-inside = rw (← range-is) (there c.in-Some.ensures).1

pub range_sized-requires : goal.range_sized-requires
range_sized-requires c =
    let d = (goal.at.range_sized-requires c).In-Some in
    let s = (goal.at.range_sized-requires c).Start in
    record {
      index = (c.requires.index.0, rw (range-is d) (range-typed c.args.image.now c.args.p c.requires.index.1.held (is-flow s) (range-inside d)));
      i_bound = c.requires.p_value.1;
    }

pub returns-in-Some : goal.returns-in-Some
returns-in-Some c =
    let b = c.args.image.now in
    let d = (goal.at.returns-in-Some c).In-Some in
    (rw (range-is d) at c.range_sized.ensures) ∙ ap (shaped (tree_of b) c.args.i) (sym (by_range b c.args.p (range-inside d)))

-- none conforms, and the PointList is looked up
no_range : (c : After-point_list_of) → node_count c.args.image.now ≤ point_range_of (tree_of c.args.image.now) c.args.p
no_range c = the_none (sym c.in_default.ensures)

-- a PointList conforms
module _ (c : In-Some-point_list_of) where
  list-is : c.in-Some-point_list_of.list ≡ point_list_of (tree_of c.args.image.now) c.args.p
  list-is = (there c.in-Some-point_list_of.ensures).0

  list-inside : point_list_of (tree_of c.args.image.now) c.args.p < node_count c.args.image.now
  list-inside = rw (← list-is) (there c.in-Some-point_list_of.ensures).1

pub dimension-requires : goal.dimension-requires
dimension-requires c =
    let b = c.args.image.now in
    let d = (goal.at.dimension-requires c).In-Some-point_list_of in
    let q = node-placed b c.requires.index.0.sound.table _ (list-inside d) in
    rw (list-is d) (record { laid = (c.requires.index.0.sound.laid, list-inside d); k_bound = (rw (list_rank b c.args.p (list-inside d)) (omega arith), q.words_in) })

pub returns-in-Some-point_list_of : goal.returns-in-Some-point_list_of
unfolding list_count
returns-in-Some-point_list_of c =
    let b = c.args.image.now in
    let d = (goal.at.returns-in-Some-point_list_of c).In-Some-point_list_of in
    let n = no_range (goal.at.returns-in-Some-point_list_of c).After-point_list_of in
    (rw (c.dimension.ensures, list-is d) at c.shaped.ensures) ∙ ap (shaped (tree_of b) c.args.i) (sym (by_list b c.args.p n (list-inside d)))

pub returns : goal.returns
returns c =
    let b = c.args.image.now in
    let n = no_range (goal.at.returns c).After-point_list_of in
    c.zone_sized.ensures ∙ ap (shaped (tree_of b) c.args.i) (sym (by_zone b c.args.p n (the_none (sym c.in_default-point_list_of.ensures))))

pub point_range_of-requires : goal.point_range_of-requires
point_range_of-requires c = record { index = (c.requires.index.0, c.requires.index.1.held); p_value = c.requires.p_value.0 }

pub point_list_of-requires : goal.point_list_of-requires
point_list_of-requires c = record { index = (c.requires.index.0, c.requires.index.1.held); p_value = c.requires.p_value.0 }
