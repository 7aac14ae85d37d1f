-- Three tests in order, with the sums of the nodes before.
use native.Mathlib.Omega.{arith}
use mathlib.Core.Path.{◌≡◌, sym, ap, ◌∙◌}
use mathlib.Core.Bool.{true}
use mathlib.Core.List.{[], ◌∷◌}
use Rattle.records.specs.declared.RecordNumbers.{RecordNumbers}
use Rattle.records.specs.Table.{table_tree, records_of}
use Rattle.model.specs.Image.{node}
use Rattle.model.specs.Rules.{Check, check, ◌unless◌}
use Rattle.model.specs.Records.{words_lawful, data_size_lawful, data_at_lawful}
use Rattle.model.proofs.Staging.{holds, fails, no_rule}
use Rattle.table.specs.Groups.{size_rules}
use Rattle.table.proofs.Laws.{run_fits}
use Rattle.table.proofs.Progress.{words_by, size_by, bytes_by, numbers_by}
use Rattle.table.proofs.stages.size_stage.Goals as goal
use Rattle.table.proofs.stages.size_stage.Goals.{After-data_size_lawful, After-run_lawful-2, Else-not-data_size_lawful, Else-not-run_lawful}

pub returns-then-not-run_lawful : goal.returns-then-not-run_lawful
returns-then-not-run_lawful c =
    fails _ 15 _ (sym (words_by c.requires.sums c.requires.table_laid.1) ∙ sym c.run_lawful.ensures ∙ c.if-not-run_lawful.true) c.reject.ensures

pub data_size_lawful-requires : goal.data_size_lawful-requires
data_size_lawful-requires c =
    let a = c.args in
    let x = node (records_of a.table.now a.size.nodes) a.i in
    let q = c.requires.table_laid.1 ∙ numbers_by a.table.now a.size a.i in
    let m : a.r.first_word ≡ x.first_word = ap (λ (y : RecordNumbers). y.first_word) q in
    let n : a.r.rank ≡ x.rank = ap (λ (y : RecordNumbers). y.rank) q in
    let f = run_fits a.r.first_word a.words a.r.rank a.size.words (sym c.run_lawful.ensures ∙ c.if-not-run_lawful.false) in
    record { has_record = (((omega arith, omega arith), (c.requires.table_laid.0.1, c.requires.table_laid.0.0.few)), q); i_in_bounds = omega (arith, c.requires.table_laid.0.0.room) }

-- rule 15 holds
fits : (g : Else-not-run_lawful) → let a = g.args in words_lawful (table_tree a.table.now a.size) a.i ≡ true
fits g = sym (words_by g.requires.sums g.requires.table_laid.1) ∙ sym g.run_lawful.ensures ∙ g.if-not-run_lawful.false

-- the test of rule 16
sized : (f : After-data_size_lawful) → let a = f.args in
    data_size_lawful (table_tree a.table.now a.size) a.i ≡ f.data_size_lawful.result
sized f = sym (f.data_size_lawful.ensures ∙ size_by _ _ _)

pub returns-then-not-data_size_lawful : goal.returns-then-not-data_size_lawful
returns-then-not-data_size_lawful c =
    let f = (goal.at.returns-then-not-data_size_lawful c).After-data_size_lawful in
    holds _ 15 _ (fits (goal.at.returns-then-not-data_size_lawful c).Else-not-run_lawful) (fails _ 16 _ (sized f ∙ c.if-not-data_size_lawful.true) c.reject-then-not-data_size_lawful.ensures)

-- rule 17 is left
left : {x : Check} (g : Else-not-data_size_lawful) → let a = g.args in let t = table_tree a.table.now a.size in
    x ≡ check a.i (17 unless data_at_lawful t a.i ∷ []) → x ≡ check a.i (size_rules t a.i)
left g e = holds _ 15 _ (sym (words_by g.requires.sums g.requires.table_laid.1) ∙ sym g.run_lawful.ensures ∙ g.if-not-run_lawful.false) (holds _ 16 _ (sym (g.data_size_lawful.ensures ∙ size_by _ _ _) ∙ g.if-not-data_size_lawful.false) e)

pub returns-then-not-run_lawful-2 : goal.returns-then-not-run_lawful-2
returns-then-not-run_lawful-2 c =
    let u = (goal.at.returns-then-not-run_lawful-2 c).After-run_lawful-2 in
    left (goal.at.returns-then-not-run_lawful-2 c).Else-not-data_size_lawful (fails _ 17 _ (sym (bytes_by u.requires.sums u.requires.table_laid.1) ∙ sym u.run_lawful-2.ensures ∙ c.if-not-run_lawful-2.true) c.reject-then-not-run_lawful-2.ensures)

pub returns : goal.returns
returns c =
    let u = (goal.at.returns c).After-run_lawful-2 in
    left (goal.at.returns c).Else-not-data_size_lawful (holds _ 17 _ (sym (bytes_by u.requires.sums u.requires.table_laid.1) ∙ sym u.run_lawful-2.ensures ∙ c.if-not-run_lawful-2.false) (sym (no_rule _)))
