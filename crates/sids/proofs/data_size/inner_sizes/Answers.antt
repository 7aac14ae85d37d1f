-- The first row of the zone's sizes, or the second.
use mathlib.Core.Path.{sym, ◌∙◌}
use native.Mathlib.Omega.{arith}
use Rattle.sids.proofs.Zones.{inner_vertex, inner_cell}
use Rattle.sids.proofs.data_size.inner_sizes.Goals as goal

pub sizes_from-requires : goal.sizes_from-requires
sizes_from-requires c =
    let e = c.parent_of-zone.ensures.0 in
    record { sound = (c.requires.index.0.sound, rw e c.requires.index.1.held.zone); n_value = (rw e c.requires.n_value.0, (c.requires.n_value.1, omega arith)) }

pub returns-then-cell_centred : goal.returns-then-cell_centred
returns-then-cell_centred c =
    inner_cell _ _ c.parent_of-zone.ensures.0 c.requires.n_value.0
    (sym c.cell_centred.ensures ∙ c.if-cell_centred.true) c.sizes_from.ensures

pub sizes_from-requires-2 : goal.sizes_from-requires-2
sizes_from-requires-2 c =
    let e = c.parent_of-zone.ensures.0 in
    record { sound = (c.requires.index.0.sound, rw e c.requires.index.1.held.zone); n_value = (rw e c.requires.n_value.0, (c.requires.n_value.1, omega arith)) }

pub returns : goal.returns
returns c =
    inner_vertex _ _ c.parent_of-zone.ensures.0 c.requires.n_value.0
    (sym c.cell_centred.ensures ∙ c.if-cell_centred.false) c.sizes_from-2.ensures

pub parent_of-zone-requires : goal.parent_of-zone-requires
parent_of-zone-requires c = (c.requires.index.0.sound.laid, c.requires.index.1.held.inside)
