-- A reader's answer in one of three cases: 41 outside the range, one other rule inside it, or a value; and so when each comes.
use Prim.Native.Nat.{ℕ}
use mathlib.Core.Path.{◌≡◌, sym, ap, ◌∙◌}
use mathlib.Core.Logic.{◌↔◌}
use Rattle.model.specs.declared.Rejection.{Rejection}
use Rattle.model.specs.Rules.{Answer, rejected, answer, rejection}
use Rattle.model.proofs.Passed.{refused}

-- In: the element is in the range. Fits: there is a value to answer; Lacks: there is none, which the rule tells.
pub data ReaderCase {A : Type 0} (In Fits Lacks : Type 0) (rule : ℕ) (v : A) (a : Answer A) : Type 0 where
  outside : (In → ⊥) → a ≡ rejected (rejection 41 0) → ReaderCase In Fits Lacks rule v a
  lacking : In → Lacks → a ≡ rejected (rejection rule 0) → ReaderCase In Fits Lacks rule v a
  stored : In → Fits → a ≡ answer v → ReaderCase In Fits Lacks rule v a

one-rule : {A : Type 0} {a : Answer A} {n m : ℕ} → a ≡ rejected (rejection n 0) → a ≡ rejected (rejection m 0) → n ≡ m
one-rule {n = n} {m = m} p q = let w : rejection n 0 ≡ rejection m 0 = cc in ap (λ (r : Rejection). r.rule) w

module _ {A In Fits Lacks : Type 0} {rule : ℕ} {v : A} {a : Answer A} where
  pub case_41 : (41 ≡ rule → ⊥) → ReaderCase In Fits Lacks rule v a → (a ≡ rejected (rejection 41 0)) ↔ (In → ⊥)
  case_41 d (outside n e) = (λ x. n, λ x. e)
  case_41 d (lacking i n e) = (λ x. absurd (d (one-rule x e)), λ x. absurd (x i))
  case_41 d (stored i j e) = (λ x. refused (sym x ∙ e), λ x. absurd (x i))

  pub case_rule : (41 ≡ rule → ⊥) → (Fits → Lacks → ⊥) → ReaderCase In Fits Lacks rule v a → (a ≡ rejected (rejection rule 0)) ↔ (In × Lacks)
  case_rule d f (outside n e) = (λ x. absurd (d (one-rule e x)), λ x. absurd (n x.0))
  case_rule d f (lacking i n e) = (λ x. (i, n), λ x. e)
  case_rule d f (stored i j e) = (λ x. refused (sym x ∙ e), λ x. absurd (f j x.1))

  -- 41 and that rule are the only refusals
  pub case_no_other : (other : ℕ) → (41 ≡ other → ⊥) → (rule ≡ other → ⊥) → ReaderCase In Fits Lacks rule v a → (why : Rejection) → a ≡ rejected why
      → why.rule ≡ other → ⊥
  case_no_other other d f (outside n e) why x r = d (let q : ◌≡◌ {A = ℕ} 41 other = cc in q)
  case_no_other other d f (lacking i n e) why x r = f (let q : ◌≡◌ {A = ℕ} rule other = cc in q)
  case_no_other other d f (stored i j e) why x r = refused (sym x ∙ e)

  pub case_value : (Fits → Lacks → ⊥) → ReaderCase In Fits Lacks rule v a → In → Fits → a ≡ answer v
  case_value f (outside n e) i j = absurd (n i)
  case_value f (lacking _ n e) i j = absurd (f j n)
  case_value f (stored _ _ e) i j = e

  -- a value that is answered is that one
  pub case_stored : ReaderCase In Fits Lacks rule v a → (x : A) → a ≡ answer x → In × Fits × (x ≡ v)
  case_stored (outside _ e) x y = refused (sym e ∙ y)
  case_stored (lacking i _ e) x y = refused (sym e ∙ y)
  case_stored (stored i j e) x y = (i, j, cc)
