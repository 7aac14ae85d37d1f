-- Whatever entry is asked first, the one found holds the number.
use mathlib.Core.Path.{sym, ◌∙◌}
use Rattle.ranges.proofs.Halving.{entry_found}
use Rattle.face_uses.proofs.uses.entry_of.Goals as goal

pub returns-then-entry_holds : goal.returns-then-entry_holds
returns-then-entry_holds c =
    rw (← c.magnitude_at-f.ensures) (entry_found _ _ _ _ _ _ (sym c.entry_holds.ensures ∙ c.if-entry_holds.true))
