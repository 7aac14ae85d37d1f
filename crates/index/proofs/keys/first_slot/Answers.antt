-- A digit of the row, 4 where there is none.
use Prim.Native.Nat.{◌+◌}
use mathlib.Core.Path.{◌≡◌, sym, ◌∙◌}
use native.Mathlib.Omega.{arith}
use denote.Enum.Declared.{tag_of}
use Rattle.model.proofs.Found.{is_some, is_none}
use Rattle.labels.specs.Roles.{role_number}
use Rattle.labels.specs.contracts.roles.Role.{the_type}
use Rattle.labels.proofs.Numbers.{role_few, number_tag}
use Rattle.index.specs.Keys.{first_slot}
use Rattle.index.proofs.keys.first_slot.Goals as goal
use Rattle.index.proofs.keys.first_slot.Goals.{After-digit-slot}

slot-is : (c : After-digit-slot) → c.digit-slot.result ≡ first_slot (role_number c.args.above) (role_number c.args.below)
slot-is c =
    let t : tag_of the_type c.args.below + 1 ≡ role_number c.args.below = omega (arith, number_tag c.args.below) in
    rw t at c.digit-slot.ensures ∙ c.first_slots.ensures.at _ (role_few c.args.below).1

pub returns-then-slot-lt-WIDTH : goal.returns-then-slot-lt-WIDTH
returns-then-slot-lt-WIDTH c = rw (← slot-is (goal.at.returns-then-slot-lt-WIDTH c).After-digit-slot) (sym (is_some c.if-slot-lt-WIDTH.true))

pub returns-else-slot-lt-WIDTH : goal.returns-else-slot-lt-WIDTH
returns-else-slot-lt-WIDTH c = rw (← slot-is (goal.at.returns-else-slot-lt-WIDTH c).After-digit-slot) (sym (is_none c.if-slot-lt-WIDTH.false))
