-- How code meets a check: a rule whose test was made, rules in groups, and a stage's answer taken apart.
use Prim.Native.Nat.{ℕ}
use mathlib.Core.Path.{◌≡◌, refl, sym, ap, ◌∙◌}
use mathlib.Core.Bool.{Bool, true, false}
use mathlib.Core.List.{List, [], ◌∷◌, ◌++◌}
use Rattle.std.proofs.lemmas.Result.{err_from_is_err_and}
use Rattle.std.specs.Prelude.{Result, Ok, Err, IsErrAnd}
use Rattle.model.specs.declared.Rejection.{Rejection}
use Rattle.model.specs.Rules.{Answer, rejected, rejection, Check, passed, Rule, ◌unless◌, check, ◌then◌}
use Rattle.model.specs.Answers.{tells, stage_tells}
use Rattle.model.proofs.Passed.{then-on, then-off}

-- the first rule is broken, or holds and the rest decides
module _ (node rule : ℕ) (rest : List Rule) {t : Bool} where
  pub broken : t ≡ false → check node (rule unless t ∷ rest) ≡ rejected (rejection rule node)
  unfolding check
  broken e = rw e

  pub kept : t ≡ true → check node (rule unless t ∷ rest) ≡ check node rest
  unfolding check
  kept e = rw e

-- no rule is left
pub no_rule : (node : ℕ) → check node [] ≡ passed
unfolding check
no_rule node = refl

-- an answer that follows tests made in order: one test holds and the rest tells it, or one fails and it is that rule's
module _ (node rule : ℕ) (rest : List Rule) {t : Bool} {x : Check} where
  pub holds : t ≡ true → x ≡ check node rest → x ≡ check node (rule unless t ∷ rest)
  holds e f = f ∙ sym (kept node rule rest e)

  pub fails : t ≡ false → x ≡ rejected (rejection rule node) → x ≡ check node (rule unless t ∷ rest)
  fails e f = f ∙ sym (broken node rule rest e)

-- one group of rules, then the next
pub check-append : (node : ℕ) (xs ys : List Rule) → check node (xs ++ ys) ≡ (check node xs then check node ys)
unfolding check ◌then◌
check-append node [] ys = refl
check-append node ((rule unless true) ∷ xs) ys = check-append node xs ys
check-append node ((rule unless false) ∷ xs) ys = refl

-- `?` hands a refusal on as it is
pub handed : {T A : Type 0} (f : T → A) (r : Result T Rejection) {why : Rejection} {a : Answer A} → IsErrAnd r (λ y. y ≡ why) → a ≡ rejected why → tells f r ≡ a
handed f r x e = let p = err_from_is_err_and r x in rw (p.1, p.2) (sym e)

-- a call's answer s, where it tells the check a
module _ {s : Result (Unit {0}) Rejection} {a : Check} (e : stage_tells s ≡ a) where
  pub passes : s ≡ Ok tt → a ≡ passed
  passes q = sym e ∙ ap stage_tells q

  pub refuses : {r : Rejection} → s ≡ Err r → a ≡ rejected r
  refuses q = sym e ∙ ap stage_tells q

  -- where `?` hands its refusal on, it is that of the whole
  pub stop : {T A : Type 0} (f : T → A) (rest : Answer A) (r : Result T Rejection) {why : Rejection} → s ≡ Err why → IsErrAnd r (λ y. y ≡ why)
      → tells f r ≡ (a then rest)
  stop f rest r q x = handed f r x (then-off rest (refuses q))

  -- the rest is
  pub go : {A : Type 0} {x rest : Answer A} → s ≡ Ok tt → x ≡ rest → x ≡ (a then rest)
  go {rest = rest} q f = f ∙ sym (then-on rest (passes q))
