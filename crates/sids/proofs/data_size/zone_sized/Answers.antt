-- The zone's sizes, direction by direction.
use mathlib.Core.Path.{ap, ◌∙◌}
use Rattle.model.specs.Image.{tree_of}
use Rattle.model.specs.Values.{shaped, index_dimension}
use Rattle.sids.proofs.Zones.{data_sizes_are}
use Rattle.sids.proofs.data_size.zone_sized.Goals as goal

pub index_dimension-n-requires : goal.index_dimension-n-requires
index_dimension-n-requires c = (c.requires.index.0, rw c.parent_of.ensures.0 c.requires.index.1.held.zone.based)

pub data_sizes-requires : goal.data_sizes-requires
data_sizes-requires c =
    let n = c.index_dimension-n.ensures in
    record { index = c.requires.index; n_value = (n.0 ∙ ap (index_dimension _) c.parent_of.ensures.0, n.2) }

pub returns : goal.returns
returns c =
    let a = c.args in
    let t = tree_of a.image.now in
    let e = c.index_dimension-n.ensures.0 ∙ ap (index_dimension t) c.parent_of.ensures.0 in
    let f = rw (c.data_sizes.ensures, e) at c.shaped.ensures in
    f ∙ ap (shaped t a.i) (data_sizes_are t a.p (rw (← e) c.index_dimension-n.ensures.2))

pub parent_of-requires : goal.parent_of-requires
parent_of-requires c = (c.requires.index.0.sound.laid, c.requires.index.1.held.inside)
