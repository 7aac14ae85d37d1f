-- The type decides.
use mathlib.Core.Path.{sym}
use native.Mathlib.Omega.{arith}
use borrow.Author.Tests.{eq-eqb, ne_eqb}
use Rattle.model.specs.Image.{tree_of}
use Rattle.model.specs.Containment.{or_missing}
use Rattle.model.specs.Elements.{parents_of}
use Rattle.model.proofs.Found.{is_none}
use Rattle.sids.proofs.children.parents_of.Goals as goal

pub returns-then-element_type-ne-NGON : goal.returns-then-element_type-ne-NGON
unfolding tree_of parents_of or_missing
returns-then-element_type-ne-NGON c =
    rw (← c.requires.element_type_value, ne_eqb _ 22 c.if-element_type-ne-NGON.true) (sym (is_none (omega arith)))

pub returns : goal.returns
unfolding parents_of or_missing
returns c = rw (← c.requires.element_type_value, eq-eqb _ 22 c.if-element_type-ne-NGON.false) c.parents.ensures
