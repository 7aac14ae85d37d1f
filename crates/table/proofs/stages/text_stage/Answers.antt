-- Three tests in order.
use mathlib.Core.Path.{◌≡◌, sym, ap, ◌∙◌}
use mathlib.Core.Bool.{not}
use mathlib.Core.List.{[], ◌∷◌}
use Rattle.model.specs.Rules.{Check, check, ◌unless◌}
use Rattle.model.specs.Records.{name_taken}
use Rattle.model.proofs.Staging.{holds, fails, no_rule}
use Rattle.records.specs.Table.{all_records}
use Rattle.table.specs.Groups.{text_rules}
use Rattle.table.proofs.stages.text_stage.Goals as goal
use Rattle.table.proofs.stages.text_stage.Goals.{After-is_taken, Else-not-label_lawful}

pub returns-then-not-name_lawful : goal.returns-then-not-name_lawful
returns-then-not-name_lawful c = fails _ 9 _ (sym c.name_lawful.ensures ∙ c.if-not-name_lawful.true) c.reject.ensures

pub returns-then-not-label_lawful : goal.returns-then-not-label_lawful
returns-then-not-label_lawful c =
    let n = sym c.name_lawful.ensures ∙ c.if-not-name_lawful.false in
    holds _ 9 _ n (fails _ 10 _ (sym c.label_lawful.ensures ∙ c.if-not-label_lawful.true) c.reject-then-not-label_lawful.ensures)

-- rule 11 is left
left : {x : Check} (g : Else-not-label_lawful) → let a = g.args in let t = all_records a.table.now in
    x ≡ check a.i (11 unless not (name_taken t a.i) ∷ []) → x ≡ check a.i (text_rules t a.i)
left g e =
    holds _ 9 _ (sym g.name_lawful.ensures ∙ g.if-not-name_lawful.false)
    (holds _ 10 _ (sym g.label_lawful.ensures ∙ g.if-not-label_lawful.false) e)

pub returns-then-is_taken : goal.returns-then-is_taken
returns-then-is_taken c =
    let f = (goal.at.returns-then-is_taken c).After-is_taken in
    left (goal.at.returns-then-is_taken c).Else-not-label_lawful (fails _ 11 _ (ap not (sym f.is_taken.ensures ∙ c.if-is_taken.true)) c.reject-then-is_taken.ensures)

pub returns : goal.returns
returns c = left (goal.at.returns c).Else-not-label_lawful (holds _ 11 _ (ap not (sym c.is_taken.ensures ∙ c.if-is_taken.false)) (sym (no_rule _)))
