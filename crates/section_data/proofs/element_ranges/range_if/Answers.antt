-- What is no section, and what does not count, has no range; else the conforming one.
use mathlib.Core.Path.{sym, ◌∙◌}
use Rattle.index.proofs.Marking.{the_kind, kind_parts}
use Rattle.section_data.proofs.RangeLaws.{range_none, not-section, not_wanted, range_by}
use native.Mathlib.Omega.{arith}
use Rattle.section_data.proofs.element_ranges.range_if.Goals as goal

pub returns-then-not-validated_as : goal.returns-then-not-validated_as
returns-then-not-validated_as c =
    range_none _ _ _ (not-section _ _ _ (sym c.validated_as.ensures ∙ c.if-not-validated_as.true))

pub returns-then-not-is_wanted : goal.returns-then-not-is_wanted
returns-then-not-is_wanted c =
    range_none _ _ _ (not_wanted _ _ _ (sym c.is_wanted.ensures ∙ c.if-not-is_wanted.true))

pub returns : goal.returns
returns c =
    range_by _ _ _ (sym c.validated_as.ensures ∙ c.if-not-validated_as.false) (sym c.is_wanted.ensures ∙ c.if-not-is_wanted.false)
    c.range_of.ensures

pub is_wanted-requires : goal.is_wanted-requires
is_wanted-requires c =
    let p = c.requires in
    let k = the_kind _ p.0.sound p.1 (omega arith) (sym c.validated_as.ensures ∙ c.if-not-validated_as.false) in
    ((p.0.sound, p.1), (kind_parts _ _ k (omega arith)).1)

pub range_of-requires : goal.range_of-requires
range_of-requires c =
    let p = c.requires in
    record { index = p; s_value = the_kind _ p.0.sound p.1 (omega arith) (sym c.validated_as.ensures ∙ c.if-not-validated_as.false) }
