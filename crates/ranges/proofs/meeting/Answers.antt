-- Where some entry meets the range, the last one that begins no later does, for reach rises.
use Rattle.std.proofs.Common.{◌-◌, arith}
use Rattle.ranges.proofs.Halving.{meets_at_lem, none_found}
use Rattle.ranges.proofs.meeting.Goals as goal

pub returns-then-r-eq0 : goal.returns-then-r-eq0
returns-then-r-eq0 c = none_found _ _ _ _ _ c.requires.0 c.begun-r.ensures (λ z. absurd (omega arith))

pub returns-then-first-reach : goal.returns-then-first-reach
returns-then-first-reach c =
    let b = c.begun-r in
    (omega arith, meets_at_lem _ _ _ _ _ (b.ensures.begins (b.result - 1) (omega arith)) c.if-first-reach.true)

pub returns : goal.returns
returns c = none_found _ _ _ _ _ c.requires.0 c.begun-r.ensures (λ z. c.if-first-reach.false)
