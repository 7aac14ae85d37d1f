-- The tables are lent.
use mathlib.Core.Path.{refl}
use Rattle.validation.proofs.image_stage.Goals as goal

pub returns : goal.returns
returns c = c.image_stage_with.ensures

pub slice_bounds-image_stage_with-end : goal.slice_bounds-image_stage_with-end
slice_bounds-image_stage_with-end c = refl

pub slice_bounds-image_stage_with-end-2 : goal.slice_bounds-image_stage_with-end-2
slice_bounds-image_stage_with-end-2 c = refl

pub slice_bounds-image_stage_with-end-3 : goal.slice_bounds-image_stage_with-end-3
slice_bounds-image_stage_with-end-3 c = refl
