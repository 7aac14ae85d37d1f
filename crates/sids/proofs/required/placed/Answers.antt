-- The table decides, then for a section the zone's type: only a zone may hold one.
use mathlib.Core.Path.{sym, ap, ◌∙◌}
use borrow.Author.Tests.{eq-eqb, ne_eqb}
use Rattle.model.specs.Lists.{◌⊃◌}
use Rattle.index.proofs.Marking.{kind-role}
use Rattle.labels.specs.Roles.{role_number}
use Rattle.labels.specs.declared.roles.Role.TheVariants as v
use Rattle.labels.proofs.Numbers.{not_role}
use Rattle.labels.specs.contracts.roles.Role.{the_type}
use denote.Enum.Bare.{differs_true, differs_false}
use borrow.Author.Rules.{rules}
use Rattle.sids.proofs.Context.{section-zone}
use Rattle.sids.proofs.required.placed.Goals as goal

pub returns-then-not-may_hold : goal.returns-then-not-may_hold
returns-then-not-may_hold c = rw (sym c.may_hold.ensures ∙ c.if-not-may_hold.true)

pub returns-then-ne : goal.returns-then-ne
unfolding ◌⊃◌
returns-then-ne c = rw (sym c.may_hold.ensures ∙ c.if-not-may_hold.false, ne_eqb _ 7 (not_role _ v.Elements (differs_true the_type _ _ (sym c.if-ne.ensures))))

pub unstructured-requires : goal.unstructured-requires
unstructured-requires c =
    let z = section-zone _ _ (ap role_number (differs_false the_type (search rules) _ v.Elements (sym c.if-ne.ensures))) (sym c.may_hold.ensures ∙ c.if-not-may_hold.false) in
    record { index = c.requires.index; z_value = kind-role _ _ c.requires.up_value.0 (sym c.requires.up_value.1 ∙ z) }

pub returns : goal.returns
unfolding ◌⊃◌
returns c =
    rw (sym c.may_hold.ensures ∙ c.if-not-may_hold.false, eq-eqb _ 7 (ap role_number (differs_false the_type (search rules) _ v.Elements (sym c.if-ne.ensures))))
    c.unstructured.ensures
