-- CellDimension is the first number of the base, which is two above the section.
use native.Mathlib.Omega.{arith}
use Rattle.elements.proofs.ShapeLaws.{least_elsewhere, least-face, least_cell, least_other}
use Rattle.elements.proofs.lengths.least_size.Goals as goal

pub whole-requires : goal.whole-requires
whole-requires c =
    (c.requires.sound.0, rw (c.parent_of-base.ensures.0, c.parent_of.ensures.0) c.requires.sound.1.base)

pub returns-then-whole-ne3 : goal.returns-then-whole-ne3
returns-then-whole-ne3 c = (
  least_elsewhere _ _ c.parent_of.ensures.0 c.parent_of-base.ensures.0 c.whole.ensures
      c.requires.element_type_value c.if-whole-ne3.true,
  omega arith,
)

pub returns-then-element_type-eq-NGON : goal.returns-then-element_type-eq-NGON
returns-then-element_type-eq-NGON c = (
  least-face _ _ c.parent_of.ensures.0 c.parent_of-base.ensures.0 c.whole.ensures
      c.requires.element_type_value c.if-whole-ne3.false c.if-element_type-eq-NGON.true,
  omega arith,
)

pub returns-then-element_type-eq-NFACE : goal.returns-then-element_type-eq-NFACE
returns-then-element_type-eq-NFACE c = (
  least_cell _ _ c.parent_of.ensures.0 c.parent_of-base.ensures.0 c.whole.ensures
      c.requires.element_type_value c.if-whole-ne3.false c.if-element_type-eq-NFACE.true,
  omega arith,
)

pub returns : goal.returns
returns c = (
  least_other _ _ c.parent_of.ensures.0 c.parent_of-base.ensures.0 c.whole.ensures
      c.requires.element_type_value c.if-whole-ne3.false c.if-element_type-eq-NGON.false c.if-element_type-eq-NFACE.false,
  omega arith,
)
