-- Where no section stores parents none is broken; else the cells are gathered first.
use mathlib.Core.Path.{sym, ◌∙◌}
use Rattle.model.proofs.Found.{the_some}
use Rattle.parents.proofs.ParentLaws.{none_stored}
use Rattle.parents.proofs.rule.first_broken.Goals as goal

pub returns-in_err-start : goal.returns-in_err-start
returns-in_err-start c = c.from_residual.ensures ∙ none_stored _ _ (sym c.in_err-start.was ∙ c.first_stored.ensures)

pub first_broken_from-requires-clause-start_value : goal.first_broken_from-requires-clause-start_value
first_broken_from-requires-clause-start_value c = (the_some (sym c.first_stored.ensures ∙ c.in_ok-start.was)).0
