-- Word by word: what is left gives the place.
use Prim.Native.Nat.{◌+◌, ◌*◌}
use mathlib.Core.Path.{◌≡◌, sym, ◌∙◌}
use native.Mathlib.Omega.{arith}
use borrow.Author.Rules.{rules}
use Rattle.words.proofs.Difference.{agree_more, agree_stop, agree-done}
use Rattle.words.proofs.first_difference.Goals as goal

pub returns-then-x-y : goal.returns-then-x-y
returns-then-x-y c =
    let j = c.loop-j.j in
    let s =
    agree_stop c.loop-j.invariant (omega arith) (omega arith) 8 (omega arith) (λ i. omega (arith, c.type_inv.a i))
    (λ i. omega (arith, c.type_inv.b i))
    (λ e. c.if-x-y.true (c.u64_at-x.ensures ∙ e ∙ sym c.u64_at-y.ensures)) in
    let m = rw (c.u64_at-x.ensures, c.u64_at-y.ensures) at c.same_bytes.ensures.0 in
    (omega (arith, s, m), (omega arith, omega (arith, c.same_bytes.ensures.1)))

pub loop-j-preserved : goal.loop-j-preserved
loop-j-preserved c =
    let e : 8 * c.loop-j.j + 8 ≡ 8 * (c.loop-j.j + 1) = omega arith in
    rw e at (agree_more c.loop-j.invariant (omega arith) (omega arith) 8 (omega arith) (λ i. omega (arith, c.type_inv.a i))
    (λ i. omega (arith, c.type_inv.b i)) (sym c.u64_at-x.ensures ∙ c.if-x-y.false ∙ c.u64_at-y.ensures))

pub returns : goal.returns
returns c = (agree-done c.loop-j.invariant (omega arith), search rules)
