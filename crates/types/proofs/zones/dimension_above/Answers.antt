-- The zone two above, and its IndexDimension.
use borrow.Author.Rules.{rules}
use Rattle.model.specs.Values.{zone_above}
use Rattle.types.proofs.zones.dimension_above.Goals as goal

pub index_dimension-requires : goal.index_dimension-requires
unfolding zone_above
index_dimension-requires c = (search rules, rw (c.parent_of-zone.ensures.0, c.parent_of.ensures.0) c.requires.1.1)

pub returns : goal.returns
unfolding zone_above
returns c =
    let e = c.index_dimension.ensures in
    (rw (c.parent_of-zone.ensures.0, c.parent_of.ensures.0) at e.0, e.1, e.2)
