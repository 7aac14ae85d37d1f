-- They are the elements of one type.
use Rattle.model.specs.Elements.{cell_section, has_cell, cell_of}
use Rattle.section_data.specs.Ranges.{has_of, of_type}
use Rattle.section_data.proofs.element_ranges.gather_cells.Goals as goal

pub returns : goal.returns
unfolding of_type has_of cell_of has_cell cell_section
returns c = c.gather.ensures
