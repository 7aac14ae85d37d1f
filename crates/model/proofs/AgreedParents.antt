-- Where agreement says yes, the parents of every face are exactly the cells that use it.
use Prim.Native.Nat.{ℕ, zero, suc, ◌+◌, ◌≤◌, ◌<◌}
use mathlib.Core.Path.{◌≡◌, refl, sym, ap, ◌∙◌}
use mathlib.Core.Logic.{◌⊎◌, inl, inr, ⊎_elim}
use mathlib.Core.Bool.{Bool, true, false, cond, ◌&&◌, ◌||◌}
use mathlib.Core.List.{List, [], ◌∷◌, ◌++◌}
use native.Mathlib.Omega.{arith}
use native.Mathlib.Decide.{ℕ_discrete}
use lib.Dec.{eqb, leb}
use borrow.Author.Tests.{eqb-true, eq-eqb, leb-true}
use Rattle.model.specs.Lists.{among}
use Rattle.model.specs.Rules.{answer, ◌then◌}
use Rattle.model.specs.Image.{Tree, tree_of, node_count}
use Rattle.model.specs.Containment.{found}
use Rattle.model.specs.Elements.{first_element, last_element, element_count, in_range, face_section, has_face, face_of, section_with_face, face_number, parents_of}
use Rattle.model.specs.FaceUsage.{element_holding, uses_in, usage_answer}
use Rattle.model.specs.Validation.{image_check}
use Rattle.model.specs.ParentElements.{FaceParents, stored_parents, parents_check, parents_answer, users_in, users_from, users, agree, face_agrees, has_parents, section_agrees, all_agree, agreement_check, agreement_answer}
use Rattle.model.specs.ParentLaws.{UsedBy, Exact, AllExact}
use Rattle.model.proofs.Logic.{untrue, and_first, and_second, and_both, or_cases, or_left, or_right, when}
use Rattle.model.proofs.Walks.{every_at, some_at, seek_holds, seek_before}
use Rattle.model.proofs.Passed.{check_pass, then-second, gives-check, gives-value, into-value}

-- one number among those of two lists
among-left : (c : ℕ) (xs ys : List ℕ) → among c xs ≡ true → among c (xs ++ ys) ≡ true
unfolding among
among-left c [] ys e = untrue e
among-left c (x ∷ xs) ys e = or_cases (eqb c x) (among c xs) e (λ h. or_left (eqb c x) _ h) (λ h. or_right (eqb c x) _ (among-left c xs ys h))

among_right : (c : ℕ) (xs ys : List ℕ) → among c ys ≡ true → among c (xs ++ ys) ≡ true
unfolding among
among_right c [] ys e = e
among_right c (x ∷ xs) ys e = or_right (eqb c x) _ (among_right c xs ys e)

among_either : {A : Type 0} (c : ℕ) (xs ys : List ℕ) → among c (xs ++ ys) ≡ true → (among c xs ≡ true → A) → (among c ys ≡ true → A) → A
unfolding among
among_either c [] ys e f g = g e
among_either c (x ∷ xs) ys e f g =
    or_cases (eqb c x) (among c (xs ++ ys)) e (λ h. f (or_left (eqb c x) _ h)) (λ h. among_either c xs ys h (λ i. f (or_right (eqb c x) _ i)) g)

-- the users that are listed are the cells that use the face
module _ (t : Tree) (z f : ℕ) where
  listed_in : (s n k j : ℕ) → k ≤ j → j < k + n → face_number t s j ≡ f → among (element_holding t s j) (users_in t f s n k) ≡ true
  unfolding users_in among
  listed_in s zero k j l h e = absurd (omega arith)
  listed_in s (suc n) k j l h e =
      elim (ℕ_discrete k j) [
        | yes q ↦ rw (eq-eqb (face_number t s k) f (ap (face_number t s) q ∙ e)) (or_left _ _ (eq-eqb _ _ (ap (element_holding t s) (sym q))))
        | no d ↦ later (eqb (face_number t s k) f) _ (listed_in s n (suc k) j (omega arith) (omega arith) e)
      ]
    where
      later : (u : Bool) (xs : List ℕ) → among (element_holding t s j) xs ≡ true → among (element_holding t s j) (cond u (element_holding t s k ∷ xs) xs) ≡ true
      later true xs g = or_right (eqb (element_holding t s j) (element_holding t s k)) _ g
      later false xs g = g

  listed-from : (n i s k : ℕ) → i ≤ s → s < i + n → k < uses_in t z s → face_number t s k ≡ f → among (element_holding t s k) (users_from t z f n i) ≡ true
  unfolding users_from
  listed-from zero i s k l h m e = absurd (omega arith)
  listed-from (suc n) i s k l h m e =
      elim (ℕ_discrete i s) [
        | yes q ↦ among-left _ (users_in t f i (uses_in t z i) 0) _ (rw q (listed_in s (uses_in t z s) 0 k (omega arith) (omega arith) e))
        | no d ↦ among_right _ (users_in t f i (uses_in t z i) 0) _ (listed-from n (suc i) s k (omega arith) (omega arith) m e)
      ]

  pub is-listed : {c : ℕ} → UsedBy t z f c → among c (users t z f) ≡ true
  unfolding users
  is-listed u = rw (← u.held) (listed-from t.count 0 u.section u.place (omega arith) (omega (arith, u.listed)) u.inside u.refers)

  -- it is of this entry, or of a later one
  here : (s k c : ℕ) → s < t.count → k < uses_in t z s → (u : Bool) (rest : List ℕ) → eqb (face_number t s k) f ≡ u
      → among c (cond u (element_holding t s k ∷ rest) rest) ≡ true → (among c rest ≡ true → UsedBy t z f c) → UsedBy t z f c
  unfolding among
  here s k c l h true rest q g later =
      or_cases (eqb c (element_holding t s k)) (among c rest) g
      (λ m. record { section = s; place = k; listed = l; inside = h; refers = eqb-true _ _ q; held = sym (eqb-true c _ m) }) later
  here s k c l h false rest q g later = later g

  uses_in_lem : (s n k c : ℕ) → s < t.count → k + n ≤ uses_in t z s → among c (users_in t f s n k) ≡ true → UsedBy t z f c
  unfolding users_in among
  uses_in_lem s zero k c l h e = untrue e
  uses_in_lem s (suc n) k c l h e =
      here s k c l (omega arith) (eqb (face_number t s k) f) (users_in t f s n (suc k)) refl e (λ g. uses_in_lem s n (suc k) c l (omega arith) g)

  uses_from : (n i c : ℕ) → i + n ≤ t.count → among c (users_from t z f n i) ≡ true → UsedBy t z f c
  unfolding users_from among
  uses_from zero i c h e = untrue e
  uses_from (suc n) i c h e =
      among_either c (users_in t f i (uses_in t z i) 0) (users_from t z f n (suc i)) e
      (λ g. uses_in_lem i (uses_in t z i) 0 c (omega arith) (omega arith) g) (λ g. uses_from n (suc i) c (omega arith) g)

  pub has_use : {c : ℕ} → among c (users t z f) ≡ true → UsedBy t z f c
  unfolding users
  has_use {c} e = uses_from t.count 0 c (omega arith) e

-- a pair that agrees
agree-cells : (us : List ℕ) (p : FaceParents) → agree us p ≡ true
    → ((us ≡ (p.first ∷ [])) × (p.second ≡ 0)) ⊎ ((us ≡ (p.first ∷ p.second ∷ [])) ⊎ (us ≡ (p.second ∷ p.first ∷ [])))
unfolding agree
agree-cells [] p e = untrue e
agree-cells (c ∷ []) p e =
    inl (ap (λ (x : ℕ). x ∷ []) (sym (eqb-true _ c (and_first (eqb p.first c) _ e))), eqb-true _ 0 (and_second (eqb p.first c) _ e))
agree-cells (c ∷ d ∷ []) p e =
    or_cases (eqb p.first c && eqb p.second d) (eqb p.first d && eqb p.second c) e
    (λ h. inr (inl (rw (eqb-true _ c (and_first (eqb p.first c) _ h), eqb-true _ d (and_second (eqb p.first c) _ h)))))
    (λ h. inr (inr (rw (eqb-true _ d (and_first (eqb p.first d) _ h), eqb-true _ c (and_second (eqb p.first d) _ h)))))
agree-cells (c ∷ d ∷ e ∷ us) p q = untrue q

module _ (b : List ℕ) (z f : ℕ) (p : FaceParents) (e : agree (users (tree_of b) z f) p ≡ true) where
  abbrev t : Tree
  t = tree_of b

  one : (c x : ℕ) → among c (x ∷ []) ≡ true → c ≡ x
  unfolding among
  one c x h = or_cases (eqb c x) false h (λ g. eqb-true c x g) untrue

  two : (c x y : ℕ) → among c (x ∷ y ∷ []) ≡ true → (c ≡ x) ⊎ (c ≡ y)
  unfolding among
  two c x y h = or_cases (eqb c x) (eqb c y || false) h (λ g. inl (eqb-true c x g)) (λ g. inr (one c y g))

  front : (x : ℕ) (ys : List ℕ) → among x (x ∷ ys) ≡ true
  unfolding among
  front x ys = or_left _ _ (eq-eqb x x refl)

  next : (x y : ℕ) → among y (x ∷ y ∷ []) ≡ true
  unfolding among
  next x y = or_right (eqb y x) _ (front y [])

  cells : ((users t z f ≡ (p.first ∷ [])) × (p.second ≡ 0)) ⊎ ((users t z f ≡ (p.first ∷ p.second ∷ [])) ⊎ (users t z f ≡ (p.second ∷ p.first ∷ [])))
  cells = agree-cells (users t z f) p e

  no_other : (c : ℕ) → among c (users t z f) ≡ true → (c ≡ p.first) ⊎ (c ≡ p.second)
  no_other c h =
      ⊎_elim (λ q. inl (one c _ (rw q.0 at h)))
      (λ q. ⊎_elim (λ r. two c _ _ (rw r at h)) (λ r. ⊎_elim (λ x. inr x) (λ x. inl x) (two c _ _ (rw r at h))) q) cells

  first-listed : among p.first (users t z f) ≡ true
  first-listed =
      ⊎_elim (λ q. rw q.0 (front p.first [])) (λ q. ⊎_elim (λ r. rw r (front p.first (p.second ∷ []))) (λ r. rw r (next p.second p.first)) q) cells

  second-listed : 0 < p.second → among p.second (users t z f) ≡ true
  second-listed h =
      ⊎_elim (λ q. absurd (omega (arith, q.1)))
      (λ q. ⊎_elim (λ r. rw r (next p.first p.second)) (λ r. rw r (front p.second (p.first ∷ []))) q) cells

  exact : Exact b z f p
  exact =
      record {
        each_use = cells;
        no_other = λ c u. no_other c (is-listed t z f u);
        first_uses = has_use t z f first-listed;
        second_uses = λ h. has_use t z f (second-listed h);
      }

-- a face of a section that has the array, where all agree
module _ (b : List ℕ) (z f : ℕ) (yes : all_agree (tree_of b) z ≡ true) (face : face_of (tree_of b) z f ≡ true)
    (array : found (tree_of b) (parents_of (tree_of b) (section_with_face (tree_of b) z f)) ≡ true) where
  abbrev s : ℕ
  s = section_with_face (tree_of b) z f

  inside : s < node_count b
  unfolding section_with_face face_of tree_of
  inside =
      let u = some_at (has_face (tree_of b) z f) (node_count b) 0 face in
      let h = seek_before (has_face (tree_of b) z f) (node_count b) 0 u.at u.holds (omega arith) u.to in omega (arith, u.to)

  has : has_face (tree_of b) z f s ≡ true
  unfolding section_with_face tree_of
  has = seek_holds (has_face (tree_of b) z f) (node_count b) 0 (omega (arith, inside))

  face_agrees_lem : agree (users (tree_of b) z f) (stored_parents (tree_of b) s f) ≡ true
  unfolding all_agree section_agrees face_agrees has_parents has_face in_range element_count tree_of
  face_agrees_lem =
      let g = and_first (face_section (tree_of b) z s) _ has in
      let r = and_second (face_section (tree_of b) z s) _ has in
      let l = leb-true (first_element (tree_of b) s) f (and_first (leb (first_element (tree_of b) s) f) _ r) in
      let u = leb-true f (last_element (tree_of b) s) (and_second (leb (first_element (tree_of b) s) f) _ r) in
      every_at (face_agrees (tree_of b) z s) (element_count (tree_of b) s) (first_element (tree_of b) s) f
      (when _ _ (every_at (section_agrees (tree_of b) z) (node_count b) 0 s yes (omega arith) (omega (arith, inside))) (and_both _ _ g array)) l (omega arith)

-- the law
pub agreed_exact : (b : List ℕ) (z room : ℕ) → agreement_answer b z room ≡ answer true → AllExact b z
unfolding agreement_answer parents_answer parents_check
agreed_exact b z room e f p q =
    let v = into-value (agreement_check b z then usage_answer b z room) (λ faces. answer (all_agree (tree_of b) z)) e in
    let yes : all_agree (tree_of b) z ≡ true = let w = v.2 in cc in
    let c = gives-check (parents_check b z f) (stored_parents (tree_of b) (section_with_face (tree_of b) z f) f) q in
    let h = check_pass 0 _ (then-second (image_check b) _ c) in
    let d = gives-value (parents_check b z f) (stored_parents (tree_of b) (section_with_face (tree_of b) z f) f) q in
    exact b z f p (rw d at (face_agrees_lem b z f yes h.1.0 h.1.1.0))
