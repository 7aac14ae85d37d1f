-- The text over 32 blanks leaves the blanks after it.
use mathlib.Core.Path.{◌∙◌}
use Rattle.writer_rules.proofs.Padding.{blanks_after}
use Rattle.writer_rules.proofs.names.padded.Goals as goal

pub returns : goal.returns
returns c = c.put_bytes.ensures ∙ blanks_after _ c.requires
