-- The first word decides, then the rest.
use Prim.Native.Nat.{ℕ, ◌+◌}
use mathlib.Core.Path.{sym, ap, ◌∙◌}
use mathlib.Core.List.{List}
use Rattle.labels.specs.Padded.{field_word}
use Rattle.labels.proofs.Nodes.{name-field}
use Rattle.labels.proofs.KnownTexts.{name-text, first_off, rest-spells}
use Rattle.labels.specs.Names.{name_number}
use Rattle.labels.proofs.Numbers.{name_few, name_tag}
use native.Mathlib.Omega.{arith}
use Rattle.labels.proofs.names.name_is.Goals as goal

pub returns-then-u64_at-first_word : goal.returns-then-u64_at-first_word
returns-then-u64_at-first_word c =
    let a = c.args in
    let l = name_few a.known in
    let e = name-text (name_number a.known) l in
    rw (name-field a.image.now a.i (omega arith) c.at-at.ensures, e) at
    (first_off a.image.now (c.at-at.result + 0) (14 + name_number a.known) (omega arith) (λ i. omega (arith, c.type_inv.image i)) (omega arith)
    (λ z. c.if-u64_at-first_word.true (c.u64_at.ensures ∙ z ∙ rw e (sym c.first_word.ensures))))

pub returns : goal.returns
returns c =
    let a = c.args in
    let l = name_few a.known in
    let n = name-text (name_number a.known) l in
    let e = sym c.u64_at.ensures ∙ c.if-u64_at-first_word.false ∙ c.first_word.ensures ∙ ap (λ (x : List ℕ). field_word x 0) (sym n) in
    let r = rw (← name_tag a.known, c.u64_at-2.ensures, c.u64_at-3.ensures, c.u64_at-4.ensures) at c.rest_is.ensures in
    rw (name-field a.image.now a.i (omega arith) c.at-at.ensures, n) at
    (r ∙ rest-spells a.image.now (c.at-at.result + 0) (14 + name_number a.known) (omega arith) (λ i. omega (arith, c.type_inv.image i)) (omega arith) e)
