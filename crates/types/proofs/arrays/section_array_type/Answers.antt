-- The name decides which types are lawful.
use mathlib.Core.Path.{◌∙◌, sym}
use Rattle.model.specs.Values.{section_array_type}
use Rattle.model.proofs.Joins.{and_done, and_on}
use Rattle.types.proofs.arrays.section_array_type.Goals as goal

pub returns-then-not-element_array : goal.returns-then-not-element_array
unfolding section_array_type
returns-then-not-element_array c = rw (sym c.element_array.ensures ∙ c.if-not-element_array.true, ← c.typed.ensures)

pub returns-then-typed_either : goal.returns-then-typed_either
unfolding section_array_type
returns-then-typed_either c =
    rw (sym c.element_array.ensures ∙ c.if-not-element_array.false)
    (and_on c.typed_either.ensures c.if-typed_either.true c.flat.ensures)

pub returns-else-typed_either : goal.returns-else-typed_either
unfolding section_array_type
returns-else-typed_either c =
    rw (sym c.element_array.ensures ∙ c.if-not-element_array.false)
    (c.if-typed_either.false ∙ and_done _ c.typed_either.ensures c.if-typed_either.false)
