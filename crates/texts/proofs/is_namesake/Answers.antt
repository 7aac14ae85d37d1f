-- A sibling in whose name no byte differs.
use mathlib.Core.Path.{sym, ◌∙◌}
use borrow.Author.Tests.{eq-eqb, ne_eqb}
use Rattle.model.specs.Image.{parent}
use Rattle.model.specs.Records.{sibling, namesake}
use Rattle.records.specs.Table.{all_records}
use Rattle.texts.proofs.Laws.{same_names}
use Rattle.texts.proofs.is_namesake.Goals as goal

pub returns-then-parent_of-up : goal.returns-then-parent_of-up
unfolding namesake sibling
returns-then-parent_of-up c =
    let t = all_records c.args.table.now in
    rw (ne_eqb (parent t c.args.j) (parent t c.args.i) (λ e. c.if-parent_of-up.true (c.parent_of.ensures.0 ∙ e ∙ sym c.requires.up_value)))

pub returns : goal.returns
unfolding namesake sibling
returns c =
    let s = c.args.table.now in
    let e = sym c.parent_of.ensures.0 ∙ c.if-parent_of-up.false ∙ c.requires.up_value in
    rw (eq-eqb (parent (all_records s) c.args.j) (parent (all_records s) c.args.i) e, c.name_difference.ensures.0)
    (sym (same_names s c.args.i c.args.j c.requires.has_record.0 c.requires.has_record.1))
