-- The label is a text, and no text has a byte 0.
use mathlib.Core.Path.{◌∙◌}
use Rattle.texts.proofs.Laws.{label_in, no_zero_barred}
use Rattle.texts.proofs.label_lawful.Goals as goal

pub returns : goal.returns
returns c =
    rw (label_in c.args.table.now c.args.i c.requires.0) at (c.is_text.ensures ∙ no_zero_barred _)
