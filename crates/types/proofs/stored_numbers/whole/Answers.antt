-- The number at its place, in the node's width.
use mathlib.Core.Path.{refl}
use borrow.Author.Rules.{rules}
use Rattle.types.proofs.stored_numbers.whole.Goals as goal

pub number-requires : goal.number-requires
number-requires c = rw c.width_at.ensures.0 (record { sound = (search rules, search rules); t = (search rules, refl); wide_bound = search rules })
