-- Rules 24 and 25, then the range, then its numbers.
use mathlib.Core.Path.{sym, ◌∙◌}
use native.Mathlib.Omega.{arith}
use Rattle.index.proofs.Marking.{kind_parts}
use Rattle.types.proofs.Missing.{there}
use Rattle.section_data.proofs.Stored.{range_ready}
use Rattle.section_data.proofs.RangeLaws.{found_by, missing_by}
use Rattle.section_data.proofs.element_ranges.section_has.Goals as goal

pub is_lawful-requires : goal.is_lawful-requires
is_lawful-requires c = let p = c.requires in ((p.0.0.sound, p.0.1), (kind_parts _ _ p.1 (omega arith)).1)

pub returns-then-not-is_lawful : goal.returns-then-not-is_lawful
returns-then-not-is_lawful c = rw (sym c.is_lawful.ensures ∙ c.if-not-is_lawful.true)

pub returns-in_default : goal.returns-in_default
returns-in_default c =
    rw (sym c.is_lawful.ensures ∙ c.if-not-is_lawful.false, missing_by _ _ c.range_of.ensures c.in_default.is)

pub in_range-requires : goal.in_range-requires
in_range-requires c =
    let p = c.requires in
    (p.0.0.sound, ((there c.in-Some.ensures).0, range_ready p.0.0.sound _ (kind_parts _ _ p.1 (omega arith)).1 (found_by _ _ c.range_of.ensures c.in-Some.is)))

pub returns : goal.returns
returns c =
    rw (sym c.is_lawful.ensures ∙ c.if-not-is_lawful.false, found_by _ _ c.range_of.ensures c.in-Some.is) c.in_range.ensures
