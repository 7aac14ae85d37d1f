-- Rule 40, then 46, each by its test; else the sections are counted.
use mathlib.Core.Path.{sym, ap, ◌∙◌}
use Rattle.model.specs.Rules.{rejected, answer, ◌gives◌}
use Rattle.model.proofs.Passed.{then-on, then-off}
use Rattle.model.proofs.Sections.{zone-is}
use Rattle.sections.proofs.Room.{no_zone, no_room, room_enough}
use native.Mathlib.Omega.{arith}
use Rattle.sections.proofs.answers.zone_answer.Goals as goal

pub returns-then-not-is_zone : goal.returns-then-not-is_zone
unfolding ◌gives◌
returns-then-not-is_zone c =
    ap rejected c.at.ensures ∙ sym (then-off _ (no_zone _ _ _ (sym c.is_zone.ensures ∙ c.if-not-is_zone.true)))

pub section_count-n-requires : goal.section_count-n-requires
section_count-n-requires c =
    (c.requires, (zone-is _ _ (sym c.is_zone.ensures ∙ c.if-not-is_zone.false)).inside)

pub returns-then-room-n : goal.returns-then-room-n
unfolding ◌gives◌
returns-then-room-n c =
    ap rejected c.at-then-room-n.ensures ∙ sym (then-off _ (no_room _ _ _ (sym c.is_zone.ensures ∙ c.if-not-is_zone.false)
    (omega arith)))

pub returns : goal.returns
unfolding ◌gives◌
returns c =
    ap answer c.section_count-n.ensures.0 ∙ sym (then-on _
    (room_enough _ _ _ (sym c.is_zone.ensures ∙ c.if-not-is_zone.false) (omega arith)))
