-- Three tests in order.
use native.Mathlib.Omega.{arith}
use mathlib.Core.Path.{◌≡◌, sym, ◌∙◌}
use mathlib.Core.Bool.{true}
use lib.Dec.{leb}
use borrow.Author.Tests.{le-leb, lt-leb, leb-true}
use Rattle.model.proofs.Logic.{and_second}
use Rattle.model.proofs.Staging.{holds, fails, no_rule}
use Rattle.table.specs.Groups.{is_within}
use Rattle.table.proofs.header.layout_stage.Goals as goal
use Rattle.table.proofs.header.layout_stage.Goals.{After-laid_out, Else-not-is_within}

pub returns-then-not-is_within : goal.returns-then-not-is_within
returns-then-not-is_within c = fails 0 4 _ (sym c.is_within.ensures ∙ c.if-not-is_within.true) c.reject.ensures

-- rule 4 holds
some : (g : Else-not-is_within) → is_within g.args.h.node_count 1 4096 ≡ true
some g = sym g.is_within.ensures ∙ g.if-not-is_within.false

pub returns-then-h-gt-MAX_WORDS : goal.returns-then-h-gt-MAX_WORDS
returns-then-h-gt-MAX_WORDS c = holds 0 4 _ (some (goal.at.returns-then-h-gt-MAX_WORDS c).Else-not-is_within) (fails 0 5 _ (lt-leb _ _ c.if-h-gt-MAX_WORDS.true) c.reject-then-h-gt-MAX_WORDS.ensures)

pub laid_out-requires : goal.laid_out-requires
laid_out-requires c =
    let g = (goal.at.laid_out-requires c).Else-not-is_within in
    (leb-true _ 4096 (and_second (leb 1 g.args.h.node_count) _ (some g)), omega arith)

pub returns-then-not-laid_out : goal.returns-then-not-laid_out
returns-then-not-laid_out c =
    let g = (goal.at.returns-then-not-laid_out c).After-laid_out in
    let words = le-leb _ _ g.if-h-gt-MAX_WORDS.false in
    holds 0 4 _ (some (goal.at.returns-then-not-laid_out c).Else-not-is_within)
    (holds 0 5 _ words (fails 0 6 _ (sym g.laid_out.ensures ∙ c.if-not-laid_out.true) c.reject-then-not-laid_out.ensures))

pub returns : goal.returns
returns c =
    let g = (goal.at.returns c).After-laid_out in
    let words = le-leb _ _ g.if-h-gt-MAX_WORDS.false in
    holds 0 4 _ (some (goal.at.returns c).Else-not-is_within) (holds 0 5 _ words (holds 0 6 _ (sym g.laid_out.ensures ∙ c.if-not-laid_out.false) (sym (no_rule 0))))
