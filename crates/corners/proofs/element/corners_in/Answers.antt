-- 46, or the numbers in front.
use native.Mathlib.Omega.{arith}
use mathlib.Core.Path.{ap, ◌∙◌}
use Rattle.model.specs.Rules.{rejected}
use Rattle.rows.proofs.Rows.{inside-numbers}
use Rattle.corners.proofs.Outcomes.{too_short, long_enough}
use Rattle.corners.proofs.element.corners_in.Goals as goal

pub returns-then-out-n : goal.returns-then-out-n
returns-then-out-n c = let r = too_short _ _ _ _ _ c.if-out-n.true in (ap rejected c.at.ensures ∙ r.0, r.1)

pub put_numbers-requires : goal.put_numbers-requires
put_numbers-requires c = rw c.connectivity_of-connectivity.ensures (inside-numbers _ _ _ _ c.requires.2, (omega (arith, c.requires), c.if-out-n.false))

pub returns : goal.returns
returns c =
    let r = long_enough _ _ _ _ _ c.if-out-n.false in
    (r.0, (rw c.connectivity_of-connectivity.ensures at c.put_numbers.ensures) ∙ r.1)
