-- Three tests in order; a lawful name has a field.
use mathlib.Core.Path.{◌≡◌, sym, ap, ◌∙◌}
use mathlib.Core.Bool.{true, not}
use mathlib.Core.List.{[], ◌∷◌}
use Rattle.model.specs.Image.{name}
use Rattle.model.specs.Rules.{Check, check, ◌unless◌}
use Rattle.model.specs.Records.{name_lawful, name_taken}
use Rattle.model.proofs.Staging.{holds, fails, no_rule}
use Rattle.table.specs.Groups.{text_rules}
use Rattle.writer_model.specs.Writer.{Addition, tree_with, padded}
use Rattle.writer_rules.proofs.RuleLaws.{short-text, named, labelled}
use Rattle.writer_rules.proofs.names.text_stage.Goals as goal
use Rattle.writer_rules.proofs.names.text_stage.Goals.{After-is_lawful-2, After-is_taken, Else-not-is_lawful, Else-not-is_lawful-2}

pub returns-then-not-is_lawful : goal.returns-then-not-is_lawful
returns-then-not-is_lawful c = λ a e f g. fails _ 9 _ (named _ a _ e ∙ sym c.is_lawful.ensures ∙ c.if-not-is_lawful.true) c.reject.ensures

-- rule 9 holds
name-held : (o : Else-not-is_lawful) (a : Addition) → let p = o.args in a.name ≡ p.name.now
    → name_lawful (name (tree_with p.state a p.room.now) p.state.node) ≡ true
name-held o a e = named _ a _ e ∙ sym o.is_lawful.ensures ∙ o.if-not-is_lawful.false

pub returns-then-not-is_lawful-2 : goal.returns-then-not-is_lawful-2
returns-then-not-is_lawful-2 c = λ a e f g.
    let k = (goal.at.returns-then-not-is_lawful-2 c).After-is_lawful-2 in
    holds _ 9 _ (name-held (goal.at.returns-then-not-is_lawful-2 c).Else-not-is_lawful a e)
    (fails _ 10 _ (labelled _ a _ f ∙ sym k.is_lawful-2.ensures ∙ c.if-not-is_lawful-2.true) c.reject-then-not-is_lawful-2.ensures)

pub padded-field-requires : goal.padded-field-requires
padded-field-requires c = short-text _ _ (sym c.is_lawful.ensures ∙ c.if-not-is_lawful.false)

-- rule 11 is left, and its test
left : {x : Check} (o : Else-not-is_lawful-2) (a : Addition) → let p = o.args in
    let t = tree_with p.state a p.room.now in a.name ≡ p.name.now → a.label ≡ p.label.now
    → x ≡ check p.state.node (11 unless not (name_taken t p.state.node) ∷ []) → x ≡ check p.state.node (text_rules t p.state.node)
left o a e f q =
    holds _ 9 _ (named _ a _ e ∙ sym o.is_lawful.ensures ∙ o.if-not-is_lawful.false) (holds _ 10 _ (labelled _ a _ f ∙ sym o.is_lawful-2.ensures ∙ o.if-not-is_lawful-2.false) q)

taken : (k : After-is_taken) (a : Addition) → let p = k.args in
    a.name ≡ p.name.now → a.parent ≡ p.parent → name_taken (tree_with p.state a p.room.now) p.state.node ≡ k.is_taken.result
taken k a e g = sym (k.is_taken.ensures a (ap padded e ∙ sym k.padded-field.ensures) g)

pub returns-then-is_taken : goal.returns-then-is_taken
returns-then-is_taken c = λ a e f g.
    let k = (goal.at.returns-then-is_taken c).After-is_taken in
    left (goal.at.returns-then-is_taken c).Else-not-is_lawful-2 a e f (fails _ 11 _ (ap not (taken k a e g ∙ c.if-is_taken.true)) c.reject-then-is_taken.ensures)

pub returns : goal.returns
returns c = λ a e f g.
    let k = (goal.at.returns c).After-is_taken in
    left (goal.at.returns c).Else-not-is_lawful-2 a e f (holds _ 11 _ (ap not (taken k a e g ∙ c.if-is_taken.false)) (sym (no_rule _)))
