-- One of the two is missing.
use mathlib.Core.Path.{sym, ap, ◌∙◌}
use mathlib.Core.Bool.{not}
use Rattle.model.specs.Image.{tree_of}
use Rattle.model.specs.Containment.{found}
use Rattle.model.specs.Values.{not_both}
use Rattle.types.proofs.Missing.{is_there, is_gone}
use Rattle.points.proofs.not_both.Goals as goal

pub returns-then-is_none : goal.returns-then-is_none
unfolding not_both found tree_of
returns-then-is_none c = rw (sym (is_there _ _ c.point_range.ensures) ∙ c.is_none.ensures ∙ ap not c.if-is_none.true)

pub returns : goal.returns
unfolding not_both found tree_of
returns c =
    rw (sym (is_there _ _ c.point_range.ensures) ∙ c.is_none.ensures ∙ ap not c.if-is_none.false) (is_gone _ _ c.point_list.ensures c.is_none-2.ensures)
