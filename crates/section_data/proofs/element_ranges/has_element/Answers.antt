-- A node of another zone, or one that is no section, has none; a section of the zone decides.
use mathlib.Core.Path.{sym, ◌∙◌}
use native.Mathlib.Omega.{arith}
use Rattle.index.proofs.Marking.{the_kind}
use Rattle.section_data.proofs.RangeLaws.{other_zone, no_section, section_decides}
use Rattle.section_data.proofs.element_ranges.has_element.Goals as goal

pub returns-then-parent_of-z : goal.returns-then-parent_of-z
returns-then-parent_of-z c = other_zone _ _ _ _ (λ q. c.if-parent_of-z.true (c.parent_of.ensures.0 ∙ q))

pub returns-then-not-validated_as : goal.returns-then-not-validated_as
returns-then-not-validated_as c =
    no_section _ _ _ _ (sym c.parent_of.ensures.0 ∙ c.if-parent_of-z.false) (sym c.validated_as.ensures ∙ c.if-not-validated_as.true)

pub section_has-requires : goal.section_has-requires
section_has-requires c =
    let p = c.requires in
    (p, the_kind _ p.0.sound p.1 (omega arith) (sym c.validated_as.ensures ∙ c.if-not-validated_as.false))

pub returns : goal.returns
returns c =
    c.section_has.ensures
    ∙ section_decides _ _ _ _ (sym c.parent_of.ensures.0 ∙ c.if-parent_of-z.false) (sym c.validated_as.ensures ∙ c.if-not-validated_as.false)
