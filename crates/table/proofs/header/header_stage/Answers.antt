-- Rule 1 gives the header's bytes; the others are two groups.
use mathlib.Core.Path.{◌≡◌, sym, ◌∙◌}
use mathlib.Core.Bool.{true}
use lib.Dec.{leb}
use lib.ListN.{length}
use borrow.Author.Tests.{leb-true}
use Rattle.model.specs.Header.{length_lawful, header_rules, header_check}
use Rattle.model.proofs.Logic.{and_first}
use Rattle.model.proofs.Staging.{fails, stop, go}
use Rattle.table.proofs.Progress.{header_groups}
use Rattle.table.proofs.header.header_stage.Goals as goal
use Rattle.table.proofs.header.header_stage.Goals.{After-read-h, Else-not-is_within, In_ok-word_stage}

pub returns-then-not-is_within : goal.returns-then-not-is_within
unfolding header_check header_rules length_lawful
returns-then-not-is_within c = fails 0 1 _ (sym c.is_within.ensures ∙ c.if-not-is_within.true) c.reject.ensures

-- rule 1 holds
long : (g : Else-not-is_within) → length_lawful g.args.image.now ≡ true
unfolding length_lawful
long g = sym g.is_within.ensures ∙ g.if-not-is_within.false

pub read-h-requires : goal.read-h-requires
unfolding length_lawful
read-h-requires c = leb-true 32 _ (and_first (leb 32 (length c.args.image.now)) _ (long c))

pub returns-in_err-word_stage : goal.returns-in_err-word_stage
returns-in_err-word_stage c =
    let r = (goal.at.returns-in_err-word_stage c).After-read-h in
    stop c.word_stage.ensures _ _ _ c.in_err-word_stage.was c.from_residual.ensures.1 ∙ header_groups _ r.read-h.ensures (long (goal.at.returns-in_err-word_stage c).Else-not-is_within)

pub returns : goal.returns
returns c =
    let e = (goal.at.returns c).In_ok-word_stage in
    let r = (goal.at.returns c).After-read-h in
    go e.word_stage.ensures e.in_ok-word_stage.was c.layout_stage.ensures ∙ header_groups _ r.read-h.ensures (long (goal.at.returns c).Else-not-is_within)
