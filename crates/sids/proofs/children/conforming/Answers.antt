-- The tests of rules 24 and 25, one after the other; a missing child stays missing.
use mathlib.Core.Path.{sym, ◌∙◌}
use mathlib.Core.Bool.{◌&&◌}
use native.Mathlib.Omega.{arith}
use Rattle.model.specs.Image.{tree_of, node_count}
use Rattle.model.specs.Values.{type_lawful, value_lawful}
use Rattle.model.proofs.Found.{is_some, is_none}
use Rattle.model.proofs.Joins.{and_done, and_on}
use Rattle.types.proofs.Missing.{none_kept, kept}
use Rattle.sids.proofs.children.conforming.Goals as goal

pub returns-in_err-j : goal.returns-in_err-j
returns-in_err-j c =
    let b = c.args.image.now in
    c.from_residual.ensures ∙ rw c.in_err-j.was (none_kept b (λ j. type_lawful (tree_of b) j && value_lawful (tree_of b) j) (node_count b) (sym (is_none (omega arith))))

pub type_lawful-requires : goal.type_lawful-requires
type_lawful-requires c = (c.requires.index, c.requires.node_context _ c.in_ok-j.was)

pub value_lawful-requires : goal.value_lawful-requires
value_lawful-requires c = ((c.requires.index, c.requires.node_context _ c.in_ok-j.was), sym c.type_lawful.ensures ∙ c.if-not-type_lawful.false)

pub returns-then-not-type_lawful : goal.returns-then-not-type_lawful
returns-then-not-type_lawful c =
    let b = c.args.image.now in
    rw c.in_ok-j.was (kept b (λ j. type_lawful (tree_of b) j && value_lawful (tree_of b) j) _ (sym (is_some (c.requires.node_context _ c.in_ok-j.was).inside))
    (and_done _ c.type_lawful.ensures c.if-not-type_lawful.true))

pub returns-then-not-value_lawful : goal.returns-then-not-value_lawful
returns-then-not-value_lawful c =
    let b = c.args.image.now in
    rw c.in_ok-j.was (kept b (λ j. type_lawful (tree_of b) j && value_lawful (tree_of b) j) _ (sym (is_some (c.requires.node_context _ c.in_ok-j.was).inside))
    (and_on c.type_lawful.ensures c.if-not-type_lawful.false (sym c.if-not-value_lawful.true ∙ c.value_lawful.ensures)))

pub returns : goal.returns
returns c =
    let b = c.args.image.now in
    rw c.in_ok-j.was (kept b (λ j. type_lawful (tree_of b) j && value_lawful (tree_of b) j) _ (sym (is_some (c.requires.node_context _ c.in_ok-j.was).inside))
    (and_on c.type_lawful.ensures c.if-not-type_lawful.false (sym c.if-not-value_lawful.false ∙ c.value_lawful.ensures)))
