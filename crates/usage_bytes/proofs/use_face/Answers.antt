-- A bit that is free is set by adding it, and the byte has room for it.
use mathlib.Core.Path.{refl, sym, ◌∙◌}
use native.Mathlib.Omega.{arith}
use Rattle.usage_bytes.proofs.Marks.{forward_room, reversed_room}
use Rattle.usage_bytes.proofs.use_face.Goals as goal

pub returns-then-not-is_unused : goal.returns-then-not-is_unused
returns-then-not-is_unused c = (sym (sym c.is_unused.ensures.0 ∙ c.if-not-is_unused.true), refl)

pub overflow_add-out : goal.overflow_add-out
overflow_add-out c =
    let u = c.is_unused.ensures in
    let free = rw c.if-reversed.true at (sym u.0 ∙ c.if-not-is_unused.false) in
    omega (arith, reversed_room _ u.1 free)

pub returns-then-reversed : goal.returns-then-reversed
returns-then-reversed c = (sym (sym c.is_unused.ensures.0 ∙ c.if-not-is_unused.false), rw c.if-reversed.true)

pub overflow_add-out-2 : goal.overflow_add-out-2
overflow_add-out-2 c =
    let u = c.is_unused.ensures in
    let free = rw c.if-reversed.false at (sym u.0 ∙ c.if-not-is_unused.false) in
    omega (arith, forward_room _ u.1 free)

pub returns : goal.returns
returns c = (sym (sym c.is_unused.ensures.0 ∙ c.if-not-is_unused.false), rw c.if-reversed.false)
