-- The first byte is no blank, and all of them are bytes of a text.
use native.Mathlib.Omega.{arith}
use mathlib.Core.Path.{sym, ◌∙◌}
use Rattle.texts.specs.Texts.{text_at}
use Rattle.texts.proofs.Laws.{text-first, blank-first, not-blank}
use Rattle.texts.proofs.is_text.Goals as goal

pub returns-then-table-at-eq-BLANK : goal.returns-then-table-at-eq-BLANK
returns-then-table-at-eq-BLANK c =
    let a = c.args in
    let f = text-first a.table.now a.at (omega arith) 32 in
    sym (blank-first _ (text_at a.table.now a.at) (f ∙ c.if-table-at-eq-BLANK.true))

pub returns : goal.returns
returns c =
    let a = c.args in
    let f = text-first a.table.now a.at (omega arith) 32 in
    c.all_text_bytes.ensures ∙ sym (not-blank _ (text_at a.table.now a.at) (λ e. c.if-table-at-eq-BLANK.false (sym f ∙ e)))
