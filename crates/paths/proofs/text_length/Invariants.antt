-- The blanks at the end are dropped one by one.
use mathlib.Core.Path.{◌≡◌}
use lib.ListN.{take, drop}
use Rattle.model.specs.Path.{trimmed}
use Rattle.paths.proofs.text_length.Given as goal

abbrev pub invariant-loop-k : goal.invariant-loop-k
invariant-loop-k l = trimmed (take l.k (drop l.at l.image)) ≡ trimmed (take 32 (drop l.at l.image))
