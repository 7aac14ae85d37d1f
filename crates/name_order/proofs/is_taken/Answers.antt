-- Where the order holds, the node beside tells.
use mathlib.Core.Path.{sym, ◌∙◌}
use native.Mathlib.Omega.{arith}
use Rattle.name_order.proofs.Beside.{beside_taken}
use Rattle.name_order.proofs.is_taken.Goals as goal

pub returns-then-holds : goal.returns-then-holds
returns-then-holds c =
    c.is_taken_beside.ensures ∙ sym (beside_taken _ _ _ (sym c.requires.holds_value ∙ c.if-holds.true) c.args.i (omega arith))

pub returns : goal.returns
returns c = c.is_taken_before.ensures
