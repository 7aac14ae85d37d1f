-- Rule 39 at a section: what its tests say, and which node is the first that breaks it.
use Prim.Native.Nat.{ℕ, ◌+◌, ◌*◌, ◌≤◌, ◌<◌}
use mathlib.Core.Path.{◌≡◌, refl, sym, ap, ◌∙◌}
use mathlib.Core.Bool.{Bool, true, false, cond, not, ◌&&◌}
use mathlib.Core.List.{List, [], ◌∷◌}
use native.Mathlib.Omega.{arith}
use native.Mathlib.Decide.{dec_lt}
use lib.Dec.{eqb}
use Rattle.std.proofs.Common.{Option, None, Some, MatchOption, rules}
use Rattle.std.proofs.lemmas.Option.{cond_some}
use Rattle.std.specs.Option.{is_some, option_eq}
use Rattle.model.specs.Found.{if_below}
use Rattle.model.proofs.Found.{the_none, seek_found}
use borrow.Author.Tests.{eqb-true, ltb-true}
use Rattle.model.specs.Lists.{◌⊃◌, every_from, seek_from}
use Rattle.model.specs.Rules.{check, passed}
use Rattle.model.specs.Image.{Tree, tree_of, node_count, parent, I4, I8}
use Rattle.model.specs.Given.{Sound, NodesTo}
use Rattle.model.specs.Records.{product}
use Rattle.model.specs.Containment.{role, found, validated, validated_as, Elements}
use Rattle.model.specs.Values.{typed, shaped, type_lawful, value_lawful, range_of, sids_rules}
use Rattle.model.specs.Elements.{NGON, element_type_of, element_count, parents_of, first_parent, second_parent, are_parents, parents_lawful, parent_rules}
use Rattle.model.proofs.Logic.{and_first, and_second, and-false, when}
use Rattle.model.proofs.Walks.{seek_before}
use Rattle.model.proofs.LookedUp.{seek_within}
use Rattle.model.proofs.Passed.{check_pass, claim, then-second}
use Rattle.model.proofs.Conforming.{or_missing_lem}
use Rattle.index.specs.Index.{kind}
use Rattle.index.proofs.Marking.{kind-role}
use Rattle.types.proofs.StoredNumbers.{whole_wide, shaped-is}
use Rattle.section_data.specs.Given.{Stores, SectionContext}
use Rattle.section_data.specs.Ranges.{is_wanted, is_ranged}
use Rattle.section_data.proofs.Stored.{stores_by}
use Rattle.section_data.proofs.RangeLaws.{is-section, range-found, ready_ranged, section-passed, first-is}
use Rattle.parents.specs.Parents.{is_parent, pair_at, stores_parents, parents_if, parents_broken}

-- a section of faces whose own data and range count
module _ {b : List ℕ} (g : Sound b) (s : ℕ) (e : is_ranged (tree_of b) NGON s ≡ true) where
  pub faces_kind : kind (tree_of b) s ≡ Elements
  unfolding validated_as
  faces_kind =
      let t = tree_of b in
      let v = is-section g NGON s e in
      kind-role t s (and_second (eqb (role t s) Elements) _ v) (eqb-true _ _ (and_first (eqb (role t s) Elements) _ v))

  pub faces_type : NGON ≡ element_type_of (tree_of b) s
  unfolding is_ranged is_wanted ◌⊃◌
  faces_type =
      let t = tree_of b in
      let w = and_second (validated_as t Elements s) _ (and_first _ (found t (range_of t s)) e) in
      sym (eqb-true _ _ (and_second (type_lawful t s && value_lawful t s) _ w))

-- the parents of a section as two columns
module _ (t : Tree) (s : ℕ) {j n : ℕ} (p : j ≡ parents_of t s) (q : n ≡ element_count t s) where
  pub not-typed : typed t j (I4 ∷ I8 ∷ []) ≡ false → false ≡ parents_lawful t s
  unfolding parents_lawful
  not-typed h = rw (← p, h)

  pub not-shaped : typed t j (I4 ∷ I8 ∷ []) ≡ true → shaped t j (n ∷ 2 ∷ []) ≡ false → false ≡ parents_lawful t s
  unfolding parents_lawful
  not-shaped h i = rw (← p, ← q, h, i)

  pub columns_decide : {z : ℕ} → typed t j (I4 ∷ I8 ∷ []) ≡ true → shaped t j (n ∷ 2 ∷ []) ≡ true → z ≡ parent t s
      → every_from (pair_at t z j n) n 0 ≡ parents_lawful t s
  unfolding parents_lawful are_parents first_parent second_parent pair_at is_parent
  columns_decide h i e = rw (e, p, q, rw p at h, rw (p, q) at i)

pub stores_columns : {b : List ℕ} → Sound b → (j n : ℕ) → j < node_count b → typed (tree_of b) j (I4 ∷ I8 ∷ []) ≡ true
    → shaped (tree_of b) j (n ∷ 2 ∷ []) ≡ true → Stores b j (n * 2)
unfolding product
stores_columns {b} g j n h e f = stores_by g j h (whole_wide (tree_of b) j e) (n ∷ 2 ∷ []) (shaped-is (tree_of b) j (n ∷ 2 ∷ []) f)

-- the node of a section's parents
module _ (b : List ℕ) (s : ℕ) where
  pub parents_none : is_ranged (tree_of b) NGON s ≡ false → None ≡ parents_if (tree_of b) s
  unfolding parents_if stores_parents
  parents_none e = rw e refl

  pub parents_by : {r : Option ℕ} → is_ranged (tree_of b) NGON s ≡ true → r ≡ if_below (node_count b) (parents_of (tree_of b) s) → r ≡ parents_if (tree_of b) s
  unfolding parents_if stores_parents found tree_of if_below
  parents_by e q = rw e q

module _ (t : Tree) (s : ℕ) where
  pub has_parents_lem : {r : ℕ} → Some r ≡ parents_if t s → (stores_parents t s ≡ true) × (parents_of t s ≡ r)
  unfolding parents_if
  has_parents_lem {r} o = cond_some (stores_parents t s) (parents_of t s) r (sym o)

  pub no_parents : None ≡ parents_if t s → stores_parents t s ≡ false
  unfolding parents_if
  no_parents o = by_test (stores_parents t s) o
    where
      by_test : (c : Bool) → None ≡ cond c (Some (parents_of t s)) None → c ≡ false
      by_test true e = search rules
      by_test false e = refl

  pub some_stored : {r : Option ℕ} → r ≡ parents_if t s → is_some r ≡ stores_parents t s
  unfolding parents_if
  some_stored o = rw o (by_test (stores_parents t s))
    where
      by_test : (c : Bool) → is_some (cond c (Some (parents_of t s)) None) ≡ c
      by_test true = refl
      by_test false = refl

module _ (t : Tree) (s : ℕ) where
  pub stores-ranged : stores_parents t s ≡ true → is_ranged t NGON s ≡ true
  unfolding stores_parents
  stores-ranged e = and_first _ (found t (parents_of t s)) e

  stores-found : stores_parents t s ≡ true → found t (parents_of t s) ≡ true
  unfolding stores_parents
  stores-found e = and_second (is_ranged t NGON s) _ e

  pub none_broken : stores_parents t s ≡ false → parents_broken t s ≡ false
  unfolding parents_broken
  none_broken e = rw e

  pub broken_by : stores_parents t s ≡ true → not (parents_lawful t s) ≡ parents_broken t s
  unfolding parents_broken
  broken_by e = rw e

-- it stores them in a node
pub stored_inside : (b : List ℕ) (s : ℕ) → stores_parents (tree_of b) s ≡ true → parents_of (tree_of b) s < node_count b
unfolding found tree_of
stored_inside b s e = ltb-true (parents_of (tree_of b) s) (node_count b) (stores-found (tree_of b) s e)

-- no node before the first that stores parents breaks the rule
pub start_broken : (t : Tree) (n : ℕ) {start : ℕ} → start ≡ seek_from (stores_parents t) n 0 → (start ≤ n) × ((j : ℕ) → j < start → parents_broken t j ≡ false)
start_broken t n {start} e = (omega (arith, e, within), λ j h. none_broken t j (by_test j h (stores_parents t j) refl))
  where
    within : seek_from (stores_parents t) n 0 ≤ 0 + n
    within = seek_within (stores_parents t) n 0

    by_test : (j : ℕ) → j < start → (c : Bool) → stores_parents t j ≡ c → c ≡ false
    by_test j h true f = absurd (omega (arith, e, within, seek_before (stores_parents t) n 0 j f (omega arith) (omega (arith, e, within))))
    by_test j h false f = refl

pub none_stored : (t : Tree) (n : ℕ) → None ≡ if_below n (seek_from (stores_parents t) n 0) → None ≡ if_below n (seek_from (parents_broken t) n 0)
none_stored t n e = seek_found (parents_broken t) n None (λ k l h. (start_broken t n refl).1 k (omega (arith, the_none (sym e))))

-- so it is looked for from there on
pub found_broken : (t : Tree) (n : ℕ) {start : ℕ} → start ≡ seek_from (stores_parents t) n 0 → (r : Option ℕ)
    → MatchOption r ((k : ℕ) → start ≤ k → k < n → parents_broken t k ≡ false)
    (λ i. (start ≤ i) × (i < n) × (parents_broken t i ≡ true) × ((k : ℕ) → start ≤ k → k < i → parents_broken t k ≡ false))
    → r ≡ if_below n (seek_from (parents_broken t) n 0)
found_broken t n {start} e r = by_case r
  where
    below : (m : ℕ) → ((k : ℕ) → start ≤ k → k < m → parents_broken t k ≡ false) → (k : ℕ) → k < m → parents_broken t k ≡ false
    below m f k h = elim (dec_lt k start) [
      | yes l ↦ (start_broken t n e).1 k l
      | no l ↦ f k (omega arith) h
    ]

    by_case : (o : Option ℕ)
        → MatchOption o ((k : ℕ) → start ≤ k → k < n → parents_broken t k ≡ false)
        (λ i. (start ≤ i) × (i < n) × (parents_broken t i ≡ true) × ((k : ℕ) → start ≤ k → k < i → parents_broken t k ≡ false))
        → o ≡ if_below n (seek_from (parents_broken t) n 0)
    by_case None f = seek_found (parents_broken t) n None (λ k l h. below n f k h)
    by_case (Some i) (u, l, x, f) = seek_found (parents_broken t) n (Some i) (omega arith, l, x, λ k m h. below i f k h)

-- validation has come to section s, and rules 20 to 26 hold there
module _ {b : List ℕ} {s : ℕ} (g : NodesTo b s) (d : SectionContext b s) (v : validated (tree_of b) s ≡ true)
    (c : check s (sids_rules (tree_of b) s) ≡ passed) where
  -- no earlier node broke rule 39
  none_before : (r : ℕ) → r < s → parents_broken (tree_of b) r ≡ false
  unfolding parent_rules
  none_before r h = by_test (stores_parents (tree_of b) r) refl
    where
      by_test : (x : Bool) → stores_parents (tree_of b) r ≡ x → parents_broken (tree_of b) r ≡ false
      by_test true e =
          let t = tree_of b in
          let held = then-second _ _ (then-second _ _ (section-passed g r h (is-section g.sound NGON r (stores-ranged t r e)))) in
          let rule = claim 39 (parent_rules t r) (check_pass r (parent_rules t r) held) in
          sym (broken_by t r e) ∙ ap not (when (found t (parents_of t r)) (parents_lawful t r) rule (stores-found t r e))
      by_test false e = none_broken (tree_of b) r e

  -- its own data and range count
  ready_faces : found (tree_of b) (parents_of (tree_of b) s) ≡ true → is_ranged (tree_of b) NGON s ≡ true
  unfolding is_ranged is_wanted ◌⊃◌ parents_of sids_rules
  ready_faces f =
      let t = tree_of b in
      let e = ready_ranged d v in
      let held = check_pass s (sids_rules t s) c in
      rw (
        is-section g.sound 0 s e,
        range-found g.sound 0 s e,
        claim 24 (sids_rules t s) held,
        claim 25 (sids_rules t s) held,
        (or_missing_lem t (eqb (element_type_of t s) NGON) _ f).1,
      )

  broken_is : parents_broken (tree_of b) s ≡ not (found (tree_of b) (parents_of (tree_of b) s) ⊃ parents_lawful (tree_of b) s)
  unfolding parents_broken stores_parents ◌⊃◌
  broken_is = by_test (found (tree_of b) (parents_of (tree_of b) s)) refl
    where
      by_test : (x : Bool) → found (tree_of b) (parents_of (tree_of b) s) ≡ x
          → (is_ranged (tree_of b) NGON s && x && not (parents_lawful (tree_of b) s)) ≡ not (x ⊃ parents_lawful (tree_of b) s)
      by_test true f = rw (ready_faces f)
      by_test false f = rw (and-false (is_ranged (tree_of b) NGON s))

  -- s is the first node that breaks it, exactly where it does
  pub parents_is : {o : Option ℕ} → o ≡ if_below (node_count b) (seek_from (parents_broken (tree_of b)) (node_count b) 0)
      → option_eq eqb o (Some s) ≡ not (found (tree_of b) (parents_of (tree_of b) s) ⊃ parents_lawful (tree_of b) s)
  parents_is h = first-is (parents_broken (tree_of b)) (node_count b) s g.inside none_before h ∙ broken_is
