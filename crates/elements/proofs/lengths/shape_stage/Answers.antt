-- The type decides whether start offsets tell the length.
use native.Mathlib.Omega.{arith}
use mathlib.Core.Path.{sym, ap, ◌∙◌}
use native.Mathlib.Nat.{mul-le-mul_left}
use Rattle.model.specs.Rules.{rejected}
use Rattle.model.specs.Elements.{has_offsets, nodes_per}
use Rattle.elements.proofs.ShapeLaws.{count_small, fixed_kept, fixed_broken}
use Rattle.elements.proofs.lengths.shape_stage.Goals as goal

pub offset_shape-requires : goal.offset_shape-requires
offset_shape-requires c =
    record { index = c.requires.index; n_value = c.requires.n_value; element_type_value = (c.requires.element_type_value, ap has_offsets (sym c.requires.element_type_value) ∙ (sym c.has_offsets.ensures ∙ c.if-has_offsets.true)) }

pub overflow_mul-n : goal.overflow_mul-n
overflow_mul-n c =
    omega (arith, count_small c.requires.index.1 c.requires.n_value.0, mul-le-mul_left c.args.n c.nodes_per.ensures.1)

pub returns-then-length-n : goal.returns-then-length-n
returns-then-length-n c =
    fixed_kept _ _ (ap has_offsets (sym c.requires.element_type_value) ∙ (sym c.has_offsets.ensures ∙ c.if-has_offsets.false)) c.requires.n_value.0 c.requires.n_value.1
    (c.nodes_per.ensures.0 ∙ ap nodes_per c.requires.element_type_value) c.if-length-n.true

pub returns : goal.returns
returns c =
    ap rejected c.at.ensures
    ∙ fixed_broken _ _ (ap has_offsets (sym c.requires.element_type_value) ∙ (sym c.has_offsets.ensures ∙ c.if-has_offsets.false)) c.requires.n_value.0 c.requires.n_value.1
    (c.nodes_per.ensures.0 ∙ ap nodes_per c.requires.element_type_value) c.if-length-n.false

pub returns-then-has_offsets : goal.returns-then-has_offsets
returns-then-has_offsets c = c.offset_shape.ensures
