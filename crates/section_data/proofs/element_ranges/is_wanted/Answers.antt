-- Any section counts, or its first number is the type.
use mathlib.Core.Path.{sym, ◌∙◌}
use native.Mathlib.Omega.{arith}
use borrow.Author.Tests.{lt-ltb}
use Rattle.model.specs.Lists.{◌⊃◌}
use Rattle.model.specs.Elements.{element_type_of}
use Rattle.section_data.specs.Ranges.{is_wanted}
use Rattle.section_data.proofs.RangeLaws.{lawful_has}
use Rattle.section_data.proofs.element_ranges.is_wanted.Goals as goal

pub returns-then-element_type-eq0 : goal.returns-then-element_type-eq0
unfolding is_wanted ◌⊃◌
returns-then-element_type-eq0 c = rw c.if-element_type-eq0.true

pub returns-then-not-is_lawful : goal.returns-then-not-is_lawful
unfolding is_wanted ◌⊃◌
returns-then-not-is_lawful c =
    let e = c.args.element_type in
    rw (lt-ltb 0 e (omega (arith, c.if-element_type-eq0.false)), sym c.is_lawful.ensures ∙ c.if-not-is_lawful.true)

pub whole-requires : goal.whole-requires
whole-requires c =
    let p = c.requires in
    (p.0.0, lawful_has p.0.0 _ p.0.1 p.1 (sym c.is_lawful.ensures ∙ c.if-not-is_lawful.false))

pub returns : goal.returns
unfolding is_wanted ◌⊃◌ element_type_of
returns c =
    let e = c.args.element_type in
    rw (lt-ltb 0 e (omega (arith, c.if-element_type-eq0.false)), sym c.is_lawful.ensures ∙ c.if-not-is_lawful.false, c.whole.ensures)
