-- Rules 27 to 39 at a section: what each test leaves.
use Prim.Native.Nat.{ℕ}
use mathlib.Core.Path.{◌≡◌, sym, ap, ◌∙◌}
use mathlib.Core.Bool.{Bool, true, false, not}
use mathlib.Core.List.{[]}
use lib.Dec.{eqb}
use borrow.Author.Tests.{eq-eqb, ne_eqb, not-true, not-false}
use Rattle.model.specs.Lists.{◌⊃◌}
use Rattle.model.specs.Rules.{check, Check, passed, rejected, rejection, ◌then◌}
use Rattle.model.specs.Image.{Tree, number}
use Rattle.model.specs.Containment.{found}
use Rattle.model.specs.Values.{size, connectivity_of}
use Rattle.model.specs.Elements.{taken, element_type_of, connectivity_length, overlaps, element_rules, reference_check, parents_of, parents_lawful, parent_rules}
use Rattle.model.proofs.Passed.{then-off, then-then}
use Rattle.model.proofs.Staging.{broken, kept, no_rule, check-append}
use Rattle.references.specs.Groups.{shape_rules, type_rules, connectivity_check}

module _ (t : Tree) (s : ℕ) where
  -- a section's type, and its number of references, as they were read
  pub type_read : {w : ℕ} → w ≡ number t s 0 → w ≡ element_type_of t s
  unfolding element_type_of
  type_read h = h

  pub length_read : {w j : ℕ} → w ≡ size t j → j ≡ connectivity_of t s → w ≡ connectivity_length t s
  unfolding connectivity_length
  length_read h e = rw (← e) h

  module _ {k : ℕ} {r : Bool} (e : k ≡ element_type_of t s) (q : r ≡ taken k) where
    pub type_broken : (rest : Check) → r ≡ false → rejected (rejection 27 s) ≡ (check s (element_rules t s) then rest)
    unfolding element_rules
    type_broken rest h = sym (then-off rest (broken s 27 _ (rw (← e) (sym q ∙ h))))

    module _ {o : Bool} (h : r ≡ true) (p : o ≡ overlaps t s) where
      pub overlap_broken : (rest : Check) → o ≡ true → rejected (rejection 28 s) ≡ (check s (element_rules t s) then rest)
      unfolding element_rules
      overlap_broken rest i = sym (then-off rest (kept s 27 _ (rw (← e) (sym q ∙ h)) ∙ broken s 28 _ (ap not (sym p ∙ i))))

      rules_left : o ≡ false → check s (element_rules t s) ≡ (check s (shape_rules t s) then check s (type_rules t s))
      unfolding element_rules shape_rules type_rules
      rules_left i = kept s 27 _ (rw (← e) (sym q ∙ h)) ∙ (kept s 28 _ (ap not (sym p ∙ i)) ∙ check-append s (shape_rules t s) (type_rules t s))

      pub arrays_left : {x : Check} (rest : Check) → o ≡ false → x ≡ ((check s (shape_rules t s) then connectivity_check t s) then rest)
          → x ≡ (check s (element_rules t s) then reference_check t s then rest)
      unfolding connectivity_check
      arrays_left rest i f =
          let shape = check s (shape_rules t s) in
          let type = check s (type_rules t s) in
          f ∙ then-then shape (type then reference_check t s) rest ∙ ap (λ (y : Check). shape then y) (then-then type (reference_check t s) rest)
          ∙ rw (rules_left i) (sym (then-then shape type (reference_check t s then rest)))

  -- 39, the last
  module _ {o : Bool} (p : o ≡ not (found t (parents_of t s) ⊃ parents_lawful t s)) where
    pub parents_broken_lem : o ≡ true → rejected (rejection 39 s) ≡ check s (parent_rules t s)
    unfolding parent_rules
    parents_broken_lem i = sym (broken s 39 [] (not-true _ (sym p ∙ i)))

    pub parents_kept : o ≡ false → passed ≡ check s (parent_rules t s)
    unfolding parent_rules
    parents_kept i = sym (kept s 39 [] (not-false _ (sym p ∙ i)) ∙ no_rule s)

-- r was read where x stands
module _ {r x y : ℕ} (e : r ≡ x) where
  pub same_read : r ≡ y → eqb x y ≡ true
  same_read h = eq-eqb x y (sym e ∙ h)

  pub other_read : (r ≡ y → ⊥) → eqb x y ≡ false
  other_read h = ne_eqb x y (λ q. h (e ∙ q))
