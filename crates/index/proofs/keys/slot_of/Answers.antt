-- No slot before the first of its role is for the node, and those after it were asked.
use mathlib.Core.Path.{sym}
use native.Mathlib.Omega.{arith}
use Rattle.labels.specs.Roles.{role_number, kind_number}
use Rattle.labels.proofs.Numbers.{role_few, kind_few}
use Rattle.model.specs.Image.{tree_of}
use Rattle.model.proofs.Found.{the_some, the_none}
use Rattle.index.proofs.Keyed.{not-before, slot_found, no_slot, none_above, none_below}
use Rattle.index.proofs.keys.slot_of.Goals as goal

pub returns-in_err-above : goal.returns-in_err-above
returns-in_err-above c =
    let a = c.args in
    let f = kind_few a.below in
    rw (c.from_residual.ensures, c.in_err-above.was) (no_slot (tree_of a.image.now) 0 a.j (omega arith) c.requires.below_value f (none_above _ f), tt)

pub returns-in_err-below : goal.returns-in_err-below
returns-in_err-below c =
    let a = c.args in
    let f = kind_few a.above in
    let e = rw c.in_err-below.was at c.requires.below_value in
    rw c.from_residual-in_err-below.ensures (no_slot (tree_of a.image.now) (kind_number a.above) a.j f e (omega arith) (none_below _ f), tt)

pub returns-in_err-k : goal.returns-in_err-k
returns-in_err-k c =
    let b = rw c.in_ok-below.was at c.requires.below_value in
    rw (c.from_residual-in_err-k.ensures, c.in_ok-above.was) (
      no_slot (tree_of c.args.image.now) (role_number c.in_ok-above.above) c.args.j (role_few c.in_ok-above.above).1 b (role_few c.in_ok-below.below).1
          (the_none (sym c.in_err-k.ensures)),
      tt,
    )

pub loop-k-init : goal.loop-k-init
loop-k-init c =
    let b = rw c.in_ok-below.was at c.requires.below_value in
    let e = (the_some (sym c.in_ok-k.ensures)).0 in
    not-before (tree_of c.args.image.now) (role_number c.in_ok-above.above) c.args.j (role_few c.in_ok-above.above).1 b (role_few c.in_ok-below.below).1
    (omega arith)

pub returns-then-is_key : goal.returns-then-is_key
returns-then-is_key c =
    let b = rw c.in_ok-below.was at c.requires.below_value in
    rw c.in_ok-above.was (
      slot_found (tree_of c.args.image.now) (role_number c.in_ok-above.above) c.args.j (role_few c.in_ok-above.above).1 b (role_few c.in_ok-below.below).1 _
          (omega arith) (sym c.if-is_key.ensures),
      omega arith,
    )
