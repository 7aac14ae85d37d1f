-- Word by word: the words that are left decide.
use Prim.Native.Nat.{ℕ, ◌+◌, ◌*◌}
use native.Mathlib.Nat.{zero-add}
use native.Mathlib.Omega.{arith}
use mathlib.Core.Path.{◌≡◌, sym, ◌∙◌}
use mathlib.Core.List.{List}
use lib.ListN.{length, take, drop}
use lib.Seq.{take_all}
use Rattle.model.specs.Bytes.{same}
use Rattle.words.proofs.Same.{same_start, same_more_word, same_stop_word, same-done}
use Rattle.writer_rules.proofs.names.has_name.Goals as goal

-- a name is its own first 32 bytes
whole : (room : List ℕ) (at : ℕ) (name : List ℕ) → length name ≡ 32 → same (take 32 (drop at room)) (take 32 (drop 0 name)) ≡ same (take 32 (drop at room)) name
whole room at name e = rw (take_all 32 name (omega (arith, e)))

pub loop-j-init : goal.loop-j-init
loop-j-init c = same_start _ _ _ _ _

pub returns-then-x-y : goal.returns-then-x-y
returns-then-x-y c =
    same_stop_word c.loop-j.invariant (omega arith) (omega (arith, c.requires.1)) 8 (omega arith) (λ i. omega (arith, c.type_inv.room i))
    (λ i. omega (arith, c.type_inv.name i)) (rw zero-add (λ e. c.if-x-y.true (c.u64_at-x.ensures ∙ e ∙ sym c.u64_at-y.ensures)))
    ∙ whole c.args.room.now c.args.at c.args.name.now c.requires.1

pub loop-j-preserved : goal.loop-j-preserved
loop-j-preserved c =
    let e : 8 * c.loop-j.j + 8 ≡ 8 * (c.loop-j.j + 1) = omega arith in
    rw e at (same_more_word c.loop-j.invariant (omega arith) (omega (arith, c.requires.1)) 8 (omega arith) (λ i. omega (arith, c.type_inv.room i))
    (λ i. omega (arith, c.type_inv.name i)) (rw zero-add (sym c.u64_at-x.ensures ∙ c.if-x-y.false ∙ c.u64_at-y.ensures)))

pub returns : goal.returns
returns c =
    same-done c.loop-j.invariant (omega arith) (omega (arith, c.requires.1)) (omega arith) ∙ whole c.args.room.now c.args.at c.args.name.now c.requires.1
