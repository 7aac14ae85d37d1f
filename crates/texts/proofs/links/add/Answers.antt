-- Two places are written.
use native.Mathlib.Omega.{arith}
use mathlib.Core.Path.{refl}
use lib.ListN.{length-set}
use Rattle.texts.proofs.links.add.Goals as goal

pub bounds-links-class-2 : goal.bounds-links-class-2
bounds-links-class-2 c = rw length-set (omega arith)

pub returns : goal.returns
returns c = refl
