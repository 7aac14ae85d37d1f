-- Two tests in order: where the line is lawful, so is the node itself.
use mathlib.Core.Path.{◌≡◌, sym, ap, ◌∙◌}
use mathlib.Core.Bool.{true, not}
use Rattle.model.proofs.Staging.{holds, fails, no_rule}
use Rattle.writer_model.specs.Writer.{Addition, tree_with, line_lawful}
use Rattle.writer_rules.proofs.LineLaws.{line_holds}
use Rattle.writer_rules.proofs.line.line_stage.Goals as goal
use Rattle.writer_rules.proofs.line.line_stage.Goals.{After-is_too_deep, Else-not-line_lawful}

pub returns-then-not-line_lawful : goal.returns-then-not-line_lawful
returns-then-not-line_lawful c = λ a e. fails _ 7 _ (sym (c.line_lawful.ensures a e) ∙ c.if-not-line_lawful.true) c.reject.ensures

lawful : (g : Else-not-line_lawful) → let p = g.args in
    (a : Addition) → a.parent ≡ p.parent → line_lawful (tree_with p.state a p.room.now) p.state.node p.state.node ≡ true
lawful g a e = sym (g.line_lawful.ensures a e) ∙ g.if-not-line_lawful.false

pub is_too_deep-requires : goal.is_too_deep-requires
is_too_deep-requires c = record { node_in_bounds = c.requires; node_value = lawful c }

pub returns-then-is_too_deep : goal.returns-then-is_too_deep
returns-then-is_too_deep c =
    let g = (goal.at.returns-then-is_too_deep c).After-is_too_deep in
    λ a e. line_holds _ _ (lawful (goal.at.returns-then-is_too_deep c).Else-not-line_lawful a e) (fails _ 8 _ (ap not (sym (g.is_too_deep.ensures a e) ∙ c.if-is_too_deep.true)) c.reject-then-is_too_deep.ensures)

pub returns : goal.returns
returns c =
    let g = (goal.at.returns c).After-is_too_deep in
    λ a e. line_holds _ _ (lawful (goal.at.returns c).Else-not-line_lawful a e) (holds _ 8 _ (ap not (sym (g.is_too_deep.ensures a e) ∙ c.if-is_too_deep.false)) (sym (no_rule _)))
