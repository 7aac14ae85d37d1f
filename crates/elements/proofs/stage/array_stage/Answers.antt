-- The first stage that rejects is the answer.
use mathlib.Core.Path.{sym, ◌∙◌}
use borrow.Author.Tests.{lt-ltb}
use Rattle.types.proofs.Missing.{there, is_there}
use Rattle.model.proofs.Staging.{stop, go, passes}
use Rattle.elements.proofs.StageLaws.{length_read}
use Rattle.section_data.proofs.ArrayLaws.{row_is}
use Rattle.elements.proofs.stage.array_stage.Goals as goal

pub row_of-row-requires : goal.row_of-row-requires
row_of-row-requires c =
    (c.requires.index.0.sound, rw (there (sym c.unwrap.ensures ∙ c.connectivity_of.ensures)).0 c.requires.index.1.connectivity)

pub unwrap-requires : goal.unwrap-requires
unwrap-requires c = is_there _ _ c.connectivity_of.ensures ∙ lt-ltb _ _ c.requires.index.1.connectivity.numbers.inside

pub shape_stage-requires : goal.shape_stage-requires
shape_stage-requires c =
    record { index = c.requires.index; n_value = (c.requires.element_type_value.1, length_read _ _ c.row_of-row.ensures.long (there (sym c.unwrap.ensures ∙ c.connectivity_of.ensures)).0); element_type_value = c.requires.element_type_value.0 }

pub returns-in_err-shape_stage : goal.returns-in_err-shape_stage
returns-in_err-shape_stage c = stop c.shape_stage.ensures _ _ _ c.in_err-shape_stage.was c.from_residual.ensures.1

pub reference_stage-requires : goal.reference_stage-requires
reference_stage-requires c =
    record { index = c.requires.index; row_of = (row_is (there (sym c.unwrap.ensures ∙ c.connectivity_of.ensures)).0 c.row_of-row.ensures, c.requires.element_type_value.0); faces = c.requires.faces; s_value = passes c.shape_stage.ensures c.in_ok-shape_stage.was }

pub returns : goal.returns
returns c = go c.shape_stage.ensures c.in_ok-shape_stage.was
    c.reference_stage.ensures

pub connectivity_of-requires : goal.connectivity_of-requires
connectivity_of-requires c = record { index = (c.requires.index.0, c.requires.index.1.inside); s_value = c.requires.index.1.kind-is }
