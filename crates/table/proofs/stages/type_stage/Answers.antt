-- Three tests in order.
use native.Mathlib.Omega.{arith}
use mathlib.Core.Path.{◌≡◌, sym, ap, ◌∙◌}
use mathlib.Core.Bool.{not}
use mathlib.Core.List.{[], ◌∷◌}
use borrow.Author.Tests.{le-ltb, lt-ltb}
use Rattle.model.specs.Rules.{Check, check, ◌unless◌}
use Rattle.model.specs.Records.{rank_lawful}
use Rattle.model.proofs.Staging.{holds, fails, no_rule}
use Rattle.records.specs.Table.{all_records}
use Rattle.table.specs.Groups.{type_rules}
use Rattle.table.proofs.stages.type_stage.Goals as goal
use Rattle.table.proofs.stages.type_stage.Goals.{After-rank_lawful, Else-data_type-eq0}

pub returns-then-is_link : goal.returns-then-is_link
returns-then-is_link c = fails _ 12 _ (ap not (sym c.is_link.ensures ∙ c.if-is_link.true)) c.reject.ensures

pub returns-then-data_type-eq0 : goal.returns-then-data_type-eq0
returns-then-data_type-eq0 c =
    let k = c.data_type_of-data_type in
    holds _ 12 _ (ap not (sym c.is_link.ensures ∙ c.if-is_link.false))
    (fails _ 13 _ (rw (← k.ensures.0) (le-ltb 0 k.result (omega (arith, c.if-data_type-eq0.true)))) c.reject-then-data_type-eq0.ensures)

-- rule 14 is left
left : {x : Check} (g : Else-data_type-eq0) → let a = g.args in let t = all_records a.table.now in
    x ≡ check a.i (14 unless rank_lawful t a.i ∷ []) → x ≡ check a.i (type_rules t a.i)
left g e =
    let k = g.data_type_of-data_type in
    holds _ 12 _ (ap not (sym g.is_link.ensures ∙ g.if-is_link.false))
    (holds _ 13 _ (rw (← k.ensures.0) (lt-ltb 0 k.result (omega (arith, g.if-data_type-eq0.false)))) e)

-- the test of rule 14
ranked : (g : After-rank_lawful) → let a = g.args in
    g.rank_lawful.result ≡ rank_lawful (all_records a.table.now) a.i
unfolding rank_lawful
ranked g = rw (← g.data_type_of-data_type.ensures.0, ← g.requires.1) g.rank_lawful.ensures

pub returns-then-not-rank_lawful : goal.returns-then-not-rank_lawful
returns-then-not-rank_lawful c =
    let g = (goal.at.returns-then-not-rank_lawful c).After-rank_lawful in
    left (goal.at.returns-then-not-rank_lawful c).Else-data_type-eq0 (fails _ 14 _ (sym (ranked g) ∙ c.if-not-rank_lawful.true) c.reject-then-not-rank_lawful.ensures)

pub returns : goal.returns
returns c = left (goal.at.returns c).Else-data_type-eq0 (holds _ 14 _ (sym (ranked (goal.at.returns c).After-rank_lawful) ∙ c.if-not-rank_lawful.false) (sym (no_rule _)))
