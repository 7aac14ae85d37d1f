-- No greater number than 2,147,483,647 is looked up.
use native.Mathlib.Omega.{arith}
use Rattle.parents.proofs.columns.interval_of.Goals as goal

pub interval_around-requires : goal.interval_around-requires
interval_around-requires c = let p = c.requires in (p.0, (p.1, omega (arith, c.if-x-gt-MAX_NUMBER.false)))
