-- The verdict's refusal, 40, or the sizes.
use mathlib.Core.Path.{refl, ap, sym, ◌∙◌}
use Rattle.model.specs.Answers.{stage_tells}
use Rattle.model.proofs.Staging.{passes, refuses, handed}
use Rattle.model.proofs.Bounds.{accepted-image}
use Rattle.validation.proofs.Laws.{size_refused, no_array, array_answered, sized_parts}
use Rattle.validation.proofs.sizes.data_size.Goals as goal

pub returns-in_err-image_stage : goal.returns-in_err-image_stage
returns-in_err-image_stage c =
    handed _ _ c.from_residual.ensures.1 (sym (size_refused _ _ (refuses c.image_stage.ensures.0 c.in_err-image_stage.was)))

pub is_sized_array-requires : goal.is_sized_array-requires
is_sized_array-requires c = c.image_stage.ensures.1 (ap stage_tells c.in_ok-image_stage.was)

pub returns-then-not-is_sized_array : goal.returns-then-not-is_sized_array
returns-then-not-is_sized_array c =
    rw c.at.ensures
    (no_array _ _ (passes c.image_stage.ensures.0 c.in_ok-image_stage.was) (sym c.is_sized_array.ensures ∙ c.if-not-is_sized_array.true))

pub array_sizes-requires : goal.array_sizes-requires
array_sizes-requires c =
    let d = c.image_stage.ensures in
    let t = c.in_ok-image_stage.was in
    let p = sized_parts _ _ (sym c.is_sized_array.ensures ∙ c.if-not-is_sized_array.false) in
    record { accepted = (accepted-image _ (passes d.0 t), p.0); i_value = p.1 }

pub returns : goal.returns
returns c =
    let f = sym c.is_sized_array.ensures ∙ c.if-not-is_sized_array.false in
    c.array_sizes.ensures ∙ array_answered _ _ (passes c.image_stage.ensures.0 c.in_ok-image_stage.was) f

pub slice_bounds-image_stage-end : goal.slice_bounds-image_stage-end
slice_bounds-image_stage-end c = refl
