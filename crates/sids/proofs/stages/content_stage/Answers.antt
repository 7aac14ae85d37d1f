-- A required child meets them; else one rule after the other.
use mathlib.Core.Path.{sym, ◌∙◌}
use Rattle.model.proofs.Staging.{broken, kept, no_rule}
use Rattle.sids.proofs.RequiredChild.{required_kept}
use Rattle.sids.proofs.stages.content_stage.Goals as goal

pub returns-then-is_required : goal.returns-then-is_required
returns-then-is_required c =
    required_kept c.args.image.now c.args.i c.requires.nodes_to (sym c.is_required.ensures ∙ c.if-is_required.true)

pub returns-then-not-complete : goal.returns-then-not-complete
returns-then-not-complete c = c.reject.ensures ∙ sym (broken _ 23 _ (sym c.complete.ensures ∙ c.if-not-complete.true))

pub returns-then-not-type_lawful : goal.returns-then-not-type_lawful
returns-then-not-type_lawful c =
    let p = sym c.complete.ensures ∙ c.if-not-complete.false in
    c.reject-then-not-type_lawful.ensures ∙ sym (kept _ 23 _ p ∙ broken _ 24 _ (sym c.type_lawful.ensures ∙ c.if-not-type_lawful.true))

pub value_lawful-requires : goal.value_lawful-requires
value_lawful-requires c =
    (c.requires.index, sym c.type_lawful.ensures ∙ c.if-not-type_lawful.false)

pub returns-then-not-value_lawful : goal.returns-then-not-value_lawful
returns-then-not-value_lawful c =
    let p = sym c.complete.ensures ∙ c.if-not-complete.false in
    let q = sym c.type_lawful.ensures ∙ c.if-not-type_lawful.false in
    c.reject-then-not-value_lawful.ensures ∙ sym (kept _ 23 _ p ∙ kept _ 24 _ q ∙ broken _ 25 _ (sym c.value_lawful.ensures ∙ c.if-not-value_lawful.true))

pub returns : goal.returns
returns c =
    let p = sym c.complete.ensures ∙ c.if-not-complete.false in
    let q = sym c.type_lawful.ensures ∙ c.if-not-type_lawful.false in
    sym (kept _ 23 _ p ∙ kept _ 24 _ q ∙ kept _ 25 _ (sym c.value_lawful.ensures ∙ c.if-not-value_lawful.false) ∙ no_rule _)

pub is_required-requires : goal.is_required-requires
is_required-requires c = (c.requires.index.0, c.requires.index.1.inside)
