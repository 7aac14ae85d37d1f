-- One row after the other.
use Rattle.model.specs.Values.{vertex_size, cell_size, boundary_size}
use Rattle.sids.proofs.zone.zone_sizes.Goals as goal

pub returns : goal.returns
unfolding vertex_size cell_size boundary_size
returns c =
    let e = c.requires.n_value.0 in
    rw (c.sizes_from-vertices.ensures, c.sizes_from-cells.ensures, c.sizes_from-boundary.ensures, e)
