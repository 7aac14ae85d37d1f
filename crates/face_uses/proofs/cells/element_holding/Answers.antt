-- The section's start offsets tell how many of its elements end before the entry.
use mathlib.Core.Path.{refl}
use Rattle.face_uses.proofs.Arrays.{element_read}
use Rattle.face_uses.proofs.cells.element_holding.Goals as goal

pub cell_offsets-offsets-requires : goal.cell_offsets-offsets-requires
cell_offsets-offsets-requires c = (c.requires, c.span_of-span.ensures)

pub returns : goal.returns
returns c =
    element_read c.requires c.span_of-span.ensures refl c.cell_offsets-offsets.ensures _ c.ends_after.ensures.0

pub span_of-span-requires : goal.span_of-span-requires
span_of-span-requires c = c.requires.section
