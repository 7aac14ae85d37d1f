-- The parents decide, or the first byte in which the names differ, or the numbers.
use mathlib.Core.Path.{sym, ◌∙◌}
use native.Mathlib.Omega.{arith}
use Rattle.name_order.specs.Order.{precedes}
use Rattle.name_order.proofs.Names.{same_names, names_differ}
use Rattle.name_order.proofs.Order.{lower_apart}
use Rattle.name_order.proofs.comes_before.Goals as goal

pub returns-then-a-b : goal.returns-then-a-b
unfolding precedes
returns-then-a-b c =
    let e = c.parent_of-a.ensures.0 in
    let f = c.parent_of-b.ensures.0 in
    rw (e, f) (sym (lower_apart _ _ _ _ _ (λ q. c.if-a-b.true (e ∙ q ∙ sym f))))

pub returns-then-d-gt32 : goal.returns-then-d-gt32
returns-then-d-gt32 c =
    same_names c.args.table.now c.args.j c.args.i c.requires.0 c.requires.1 c.name_difference-d.ensures.0
    (sym c.parent_of-a.ensures.0 ∙ c.if-a-b.false ∙ c.parent_of-b.ensures.0) c.if-d-gt32.true

pub returns : goal.returns
returns c =
    names_differ c.args.table.now c.args.j c.args.i c.requires.0 c.requires.1 c.name_difference-d.ensures.0
    (sym c.parent_of-a.ensures.0 ∙ c.if-a-b.false ∙ c.parent_of-b.ensures.0) (omega arith)
