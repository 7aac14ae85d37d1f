-- The width is that of the data type.
use mathlib.Core.Path.{◌∙◌, ap}
use lib.ListN.{get_or}
use Prim.Native.Nat.{ℕ}
use Rattle.model.specs.Image.{width, widths}
use Rattle.records.proofs.nodes.width_at.Goals as goal

pub returns : goal.returns
unfolding width
returns c = (c.width_of.ensures.0 ∙ ap (λ (d : ℕ). get_or widths d 0) c.data_type_of.ensures.0, c.width_of.ensures.1)
