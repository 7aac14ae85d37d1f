-- The data type is that of its two bytes.
use mathlib.Core.Path.{sym, ◌∙◌}
use Rattle.writer_rules.proofs.sizes.data_type_of.Goals as goal

pub returns : goal.returns
returns c = (c.by_code.ensures.0 ∙ sym c.type_code.ensures.0.0, c.by_code.ensures.1)
