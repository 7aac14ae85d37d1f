-- An entry that the list has is read with; any other is refused with 40.
use mathlib.Core.Path.{refl, sym, ◌∙◌, ap}
use Rattle.model.specs.Rules.{rejected}
use Rattle.model.proofs.Runs.{entry_read, read_unlisted}
use Rattle.reads.proofs.one_read.Goals as goal

pub returns-then-k-entries : goal.returns-then-k-entries
returns-then-k-entries c = entry_read c.if-k-entries.true (rw c.section_at.ensures at c.corner.ensures) refl

pub returns : goal.returns
returns c =
    record { answers = ap rejected c.at.ensures ∙ sym (read_unlisted _ _ _ _ _ c.if-k-entries.false); image-kept = refl; entries-kept = refl }
