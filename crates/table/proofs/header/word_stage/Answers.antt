-- Two tests in order.
use mathlib.Core.Path.{sym}
use borrow.Author.Tests.{eq-eqb, ne_eqb}
use Rattle.model.proofs.Staging.{holds, fails, no_rule}
use Rattle.table.proofs.header.word_stage.Goals as goal

pub returns-then-h-ne1 : goal.returns-then-h-ne1
returns-then-h-ne1 c = fails 0 2 _ (ne_eqb _ _ c.if-h-ne1.true) c.reject.ensures

pub returns-then-h-length : goal.returns-then-h-length
returns-then-h-length c = holds 0 2 _ (eq-eqb _ _ c.if-h-ne1.false) (fails 0 3 _ (ne_eqb _ _ c.if-h-length.true) c.reject-then-h-length.ensures)

pub returns : goal.returns
returns c = holds 0 2 _ (eq-eqb _ _ c.if-h-ne1.false) (holds 0 3 _ (eq-eqb _ _ c.if-h-length.false) (sym (no_rule 0)))
