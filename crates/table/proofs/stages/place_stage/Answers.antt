-- Two tests in order; rule 7 at the nodes up to i lets the second walk up.
use mathlib.Core.Path.{◌≡◌, sym, ap, ◌∙◌}
use mathlib.Core.Bool.{true, not}
use Rattle.model.specs.Records.{parent_lawful}
use Rattle.model.proofs.Staging.{holds, fails, no_rule}
use Rattle.records.specs.Table.{all_records}
use Rattle.table.proofs.stages.place_stage.Goals as goal
use Rattle.table.proofs.stages.place_stage.Goals.{After-is_too_deep, Else-not-parent_lawful}

pub returns-then-not-parent_lawful : goal.returns-then-not-parent_lawful
returns-then-not-parent_lawful c = fails _ 7 _ (sym c.parent_lawful.ensures ∙ c.if-not-parent_lawful.true) c.reject.ensures

lawful : (g : Else-not-parent_lawful) → let a = g.args in parent_lawful (all_records a.table.now) a.i ≡ true
lawful g = sym g.parent_lawful.ensures ∙ g.if-not-parent_lawful.false

pub is_too_deep-requires : goal.is_too_deep-requires
is_too_deep-requires c = let p = c.requires in (p.0, (p.1, lawful c))

pub returns-then-is_too_deep : goal.returns-then-is_too_deep
returns-then-is_too_deep c =
    let g = (goal.at.returns-then-is_too_deep c).After-is_too_deep in
    holds _ 7 _ (lawful (goal.at.returns-then-is_too_deep c).Else-not-parent_lawful) (fails _ 8 _ (ap not (sym g.is_too_deep.ensures ∙ c.if-is_too_deep.true)) c.reject-then-is_too_deep.ensures)

pub returns : goal.returns
returns c =
    let g = (goal.at.returns c).After-is_too_deep in
    holds _ 7 _ (lawful (goal.at.returns c).Else-not-parent_lawful) (holds _ 8 _ (ap not (sym g.is_too_deep.ensures ∙ c.if-is_too_deep.false)) (sym (no_rule _)))
