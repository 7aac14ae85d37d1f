-- Each node after the zone counts as one section or as none.
use mathlib.Core.Path.{sym, ◌∙◌}
use Rattle.zone_sections.proofs.Walk.{count-one, count_none, count_all}
use Rattle.zone_sections.proofs.After.{none_counted}
use native.Mathlib.Omega.{arith}
use Rattle.zone_sections.proofs.zones.section_count.Goals as goal
use Rattle.zone_sections.proofs.zones.section_count.Goals.{then-section_of, else-section_of}

pub loop-j-init : goal.loop-j-init
loop-j-init c = none_counted _ c.requires.0.sound _ (omega arith)

pub loop-j-preserved : goal.loop-j-preserved
loop-j-preserved c =
    elim c.if-section_of.branch [
      | then-section_of w ↦ rw w.count-is (count-one c.loop-j.invariant (omega arith) (sym c.section_of.ensures ∙ w.if-section_of.true))
      | else-section_of w ↦ rw w.count-is (count_none c.loop-j.invariant (omega arith) (sym c.section_of.ensures ∙ w.if-section_of.false))
    ]

pub returns : goal.returns
returns c = (count_all c.loop-j.invariant (omega arith), omega arith)
