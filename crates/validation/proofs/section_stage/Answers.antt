-- The role decides.
use mathlib.Core.Path.{sym, ap, ◌∙◌}
use borrow.Author.Tests.{eq-eqb, ne_eqb}
use Rattle.model.specs.Validation.{section_check}
use Rattle.labels.specs.Roles.{role_number}
use Rattle.labels.specs.declared.roles.Role.TheVariants as v
use Rattle.labels.specs.contracts.roles.Role.{the_type}
use Rattle.labels.proofs.Numbers.{not_role}
use denote.Enum.Bare.{same_true, same_false}
use borrow.Author.Rules.{rules}
use Rattle.validation.proofs.section_stage.Goals as goal

pub role_of-requires : goal.role_of-requires
role_of-requires c = record { index = (c.requires.nodes_to.1, c.requires.nodes_to.0.inside); i_value = c.requires.i_value }

pub element_stage-requires : goal.element_stage-requires
element_stage-requires c =
    record {
      nodes_to = c.requires.nodes_to;
      s_value = (c.requires.i_value, sym c.role_of.ensures ∙ ap role_number (same_true the_type (search rules) _ v.Elements (sym c.if-eq.ensures)));
      s_value_2 = c.requires.i_value_2;
      overlap_value = c.requires.overlap_value;
      faces = c.requires.faces;
    }

pub returns-then-eq : goal.returns-then-eq
unfolding section_check
returns-then-eq c =
    rw (eq-eqb _ _ (sym c.role_of.ensures ∙ ap role_number (same_true the_type (search rules) _ v.Elements (sym c.if-eq.ensures)))) c.element_stage.ensures

pub returns : goal.returns
unfolding section_check
returns c = rw (ne_eqb _ 7 (λ q. not_role _ v.Elements (same_false the_type _ _ (sym c.if-eq.ensures)) (c.role_of.ensures ∙ q)))
