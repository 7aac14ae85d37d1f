-- The element ranges of sections by their keys: what is gathered, and rule 28.
use Prim.Native.Nat.{ℕ, ◌≤◌, ◌<◌}
use mathlib.Core.Path.{◌≡◌, refl, sym, ◌∙◌}
use mathlib.Core.Bool.{Bool, true, false, cond, ◌&&◌}
use mathlib.Core.List.{List, [], ◌∷◌}
use native.Mathlib.Omega.{arith}
use native.Mathlib.Decide.{dec_lt}
use lib.Dec.{eqb, leb}
use Rattle.std.proofs.Common.{Option, None, Some, rules}
use Rattle.std.proofs.lemmas.Option.{cond_some}
use Rattle.std.specs.Option.{option_eq}
use Rattle.model.specs.Found.{if_below}
use Rattle.model.proofs.Found.{is_some, is_none, the_none}
use Rattle.types.proofs.Missing.{there}
use borrow.Author.Tests.{eq-eqb, ne_eqb, eqb-true, lt-ltb, le-ltb, not-true}
use Rattle.model.specs.Lists.{◌⊃◌, row, some_from, count_from, seek_from}
use Rattle.model.specs.Image.{Tree, tree_of, node_count, parent, I4}
use Rattle.model.specs.Given.{Sound, NodesTo}
use Rattle.model.specs.Containment.{role, validated, validated_as, section_of, found, Elements, IndexRange}
use Rattle.model.specs.Values.{typed, shaped, not_negative, type_lawful, value_lawful, range_of, connectivity_of, sids_rules}
use Rattle.model.specs.Rules.{check, passed, ◌then◌}
use Rattle.model.specs.Validation.{section_check, node_check_at}
use Rattle.model.specs.Elements.{first_element, last_element, in_range, meets, overlap, overlaps, conforming_section, has_element, element_of}
use Rattle.model.specs.Elements.{element_rules, reference_check, parent_rules}
use Rattle.model.proofs.Logic.{untrue, and_first, and_second, and-false}
use Rattle.model.proofs.Loops.{seek_start, seek_stop}
use Rattle.model.proofs.Walks.{some_same, seek_holds}
use Rattle.model.proofs.Passed.{check_pass, then-first, then-second, claim}
use Rattle.model.proofs.Conforming.{conforming-inside, conforming-parent, conforming-role}
use Rattle.model.proofs.Above.{earlier-rule}
use Rattle.types.specs.Given.{HasNumber}
use Rattle.types.proofs.Roles.{held-inside}
use Rattle.types.proofs.StoredNumbers.{whole_four, has_pair, has_less}
use Rattle.ranges.specs.Tables.{key, meets_at, meets_section, Gathered}
use Rattle.ranges.proofs.Gathering.{gathered-room}
use Rattle.ranges.proofs.Half.{half}
use Rattle.ranges.proofs.Keys.{key_meets}
use Rattle.section_data.specs.Given.{Ranged, SectionContext}
use Rattle.section_data.specs.Ranges.{is_wanted, is_ranged, first_key, last_key, range_if, ranged_overlap, overlap_at}
use Rattle.section_data.proofs.Stored.{type-section, range_ready}
use Rattle.section_data.proofs.SectionContext.{complete-is}

-- rules 24 and 25 of a section, and its type
module _ (t : Tree) (i : ℕ) (e : role t i ≡ Elements) where
  value-section : value_lawful t i ≡ not_negative t i 1
  unfolding value_lawful row
  value-section = rw e

  pub lawful_is : (type_lawful t i && value_lawful t i) ≡ (typed t i (I4 ∷ []) && shaped t i (2 ∷ []) && not_negative t i 1)
  lawful_is = rw (type-section t i e, value-section)

-- a section that meets them stores its type
pub lawful_has : {b : List ℕ} → Sound b → (i : ℕ) → i < node_count b → role (tree_of b) i ≡ Elements
    → (type_lawful (tree_of b) i && value_lawful (tree_of b) i) ≡ true → HasNumber b i 0
lawful_has {b} s i h e l =
    let t = tree_of b in
    let own = sym (type-section t i e) ∙ and_first (type_lawful t i) _ l in
    has_less b i 1 0 (has_pair b s i h (whole_four t i (and_first (typed t i (I4 ∷ [])) _ own)) (and_second (typed t i (I4 ∷ [])) _ own)) (omega arith)

-- whether its range is there
module _ (b : List ℕ) (s : ℕ) {r : Option ℕ} (e : r ≡ if_below (node_count b) (range_of (tree_of b) s)) where
  pub found_by : {j : ℕ} → r ≡ Some j → found (tree_of b) (range_of (tree_of b) s) ≡ true
  unfolding found tree_of
  found_by q = let l = there (sym q ∙ e) in lt-ltb _ _ (rw (← l.0) l.1)

  pub missing_by : r ≡ None → found (tree_of b) (range_of (tree_of b) s) ≡ false
  unfolding found tree_of
  missing_by q = le-ltb _ _ (the_none (sym e ∙ q))

-- a node brings an element to its zone: it is a section there, its own data and range count, and the range holds the element
module _ (t : Tree) (z e s : ℕ) where
  pub other_zone : (parent t s ≡ z → ⊥) → false ≡ has_element t z e s
  unfolding has_element conforming_section section_of
  other_zone d = rw (ne_eqb (parent t s) z d)

  pub no_section : parent t s ≡ z → validated_as t Elements s ≡ false → false ≡ has_element t z e s
  unfolding has_element conforming_section section_of
  no_section p v = rw (p, v, eq-eqb z z refl)

  pub section_decides : parent t s ≡ z → validated_as t Elements s ≡ true
      → (type_lawful t s && value_lawful t s && found t (range_of t s) && in_range t s e) ≡ has_element t z e s
  unfolding has_element conforming_section section_of
  section_decides p v = rw (p, v, eq-eqb z z refl)

-- the walk over the nodes tells whether there is such a node
pub element_by : (b : List ℕ) (z e : ℕ) {n : ℕ} {v : Bool} → n ≡ node_count b → v ≡ some_from (has_element (tree_of b) z e) n 0 → v ≡ element_of (tree_of b) z e
unfolding element_of tree_of
element_by b z e q h = rw q at h

-- the node of a section's range
module _ (b : List ℕ) (s : ℕ) where
  pub range_none : (k : ℕ) → is_ranged (tree_of b) k s ≡ false → None ≡ range_if (tree_of b) k s
  unfolding range_if
  range_none k e = rw e refl

  -- it is no section; it is not asked for
  pub not-section : (k : ℕ) → validated_as (tree_of b) Elements s ≡ false → is_ranged (tree_of b) k s ≡ false
  unfolding is_ranged
  not-section k e = rw e

  pub not_wanted : (k : ℕ) → is_wanted (tree_of b) k s ≡ false → is_ranged (tree_of b) k s ≡ false
  unfolding is_ranged
  not_wanted k e = rw (e, and-false (validated_as (tree_of b) Elements s))

  pub range_by : (k : ℕ) {r : Option ℕ} → validated_as (tree_of b) Elements s ≡ true → is_wanted (tree_of b) k s ≡ true
      → r ≡ if_below (node_count b) (range_of (tree_of b) s) → r ≡ range_if (tree_of b) k s
  unfolding range_if is_ranged found tree_of if_below
  range_by k e g q = rw (e, g) q

module _ (t : Tree) (k s : ℕ) where
  pub has-range : {r : ℕ} → Some r ≡ range_if t k s → (is_ranged t k s ≡ true) × (range_of t s ≡ r)
  unfolding range_if
  has-range {r} o = cond_some (is_ranged t k s) (range_of t s) r (sym o)

  pub no_range : None ≡ range_if t k s → is_ranged t k s ≡ false
  unfolding range_if
  no_range o = by_test (is_ranged t k s) o
    where
      by_test : (c : Bool) → None ≡ cond c (Some (range_of t s)) None → c ≡ false
      by_test true e = search rules
      by_test false e = refl

-- what a section that counts has
module _ {b : List ℕ} (g : Sound b) (k s : ℕ) (e : is_ranged (tree_of b) k s ≡ true) where
  pub is-section : validated_as (tree_of b) Elements s ≡ true
  unfolding is_ranged
  is-section = and_first _ _ (and_first _ (found (tree_of b) (range_of (tree_of b) s)) e)

  pub range-found : found (tree_of b) (range_of (tree_of b) s) ≡ true
  unfolding is_ranged
  range-found = and_second (validated_as (tree_of b) Elements s && is_wanted (tree_of b) k s) _ e

  role-is : role (tree_of b) s ≡ Elements
  unfolding validated_as
  role-is = eqb-true _ _ (and_first (eqb (role (tree_of b) s) Elements) _ is-section)

  pub ranged : Ranged b s
  ranged = range_ready g s role-is range-found

  pub zone-inside : s < node_count b → parent (tree_of b) s < node_count b
  zone-inside h = held-inside b g s h Elements role-is refl

  -- its range is a child of its own, which is no section
  own-child : (range_of (tree_of b) s < node_count b) × (parent (tree_of b) (range_of (tree_of b) s) ≡ s) × (is_ranged (tree_of b) k (range_of (tree_of b) s) ≡ false)
  unfolding range_of tree_of validated_as
  own-child =
      let t = tree_of b in
      let r = conforming-role t s IndexRange _ range-found in
      (conforming-inside t s IndexRange _ range-found, conforming-parent t s IndexRange _ range-found, not-section b _ k (rw r))

-- a section that meets rules 20 to 26 counts
pub ready_ranged : {b : List ℕ} {s : ℕ} → SectionContext b s → validated (tree_of b) s ≡ true → is_ranged (tree_of b) 0 s ≡ true
unfolding is_ranged is_wanted ◌⊃◌ found tree_of validated_as
ready_ranged {b} {s} d v = rw (d.elements, v, lt-ltb (range_of (tree_of b) s) (node_count b) d.ranged.range.inside)

-- so the tables have room for all of them
pub ranged-few : {b : List ℕ} → Sound b → (k : ℕ) → count_from (is_ranged (tree_of b) k) (node_count b) 0 ≤ 2048
ranged-few {b} g k =
    let h = half (is_ranged (tree_of b) k) (range_of (tree_of b)) (parent (tree_of b)) (node_count b) (λ s l e. own-child g k s e) in
    let f = g.laid.few in
    omega arith

pub room : {b : List ℕ} (k : ℕ) {firsts reach : List ℕ} {n i : ℕ} → Sound b
    → Gathered (is_ranged (tree_of b) k) (first_key (tree_of b)) (last_key (tree_of b)) firsts reach n i
    → i < node_count b → is_ranged (tree_of b) k i ≡ true → n < 2048
room {b} k s g h e = let l = gathered-room g (node_count b) h e in let m = ranged-few s k in omega arith

-- keys as they are read
pub first_key_lem : (t : Tree) (s : ℕ) {z w r : ℕ} → z ≡ parent t s → w ≡ first_element t s → r ≡ key z w → r ≡ first_key t s
unfolding first_key
first_key_lem t s e f h = h ∙ rw (e, f)

pub last-key : (t : Tree) (s : ℕ) {z w r : ℕ} → z ≡ parent t s → w ≡ last_element t s → r ≡ key z w → r ≡ last_key t s
unfolding last_key
last-key t s e f h = h ∙ rw (e, f)

-- 28: two sections meet where their keys do
module _ {b : List ℕ} (g : Sound b) (s : ℕ) (e : is_ranged (tree_of b) 0 s ≡ true) where
  meets-key : (r : ℕ) → meets_section (is_ranged (tree_of b) 0) (first_key (tree_of b)) (last_key (tree_of b)) (first_key (tree_of b) s) (last_key (tree_of b) s) r
      ≡ ranged_overlap (tree_of b) s r
  unfolding meets_section ranged_overlap overlap meets section_of first_key last_key
  meets-key r = by_test (is_ranged (tree_of b) 0 r) refl
    where
      turn : (p x y : Bool) → (p && (x && y)) ≡ ((p && true) && (y && x))
      turn false x y = refl
      turn true true true = refl
      turn true true false = refl
      turn true false true = refl
      turn true false false = refl

      by_test : (c : Bool) → is_ranged (tree_of b) 0 r ≡ c
          → (c && (leb (key (parent (tree_of b) r) (first_element (tree_of b) r)) (key (parent (tree_of b) s) (last_element (tree_of b) s))
          && leb (key (parent (tree_of b) s) (first_element (tree_of b) s)) (key (parent (tree_of b) r) (last_element (tree_of b) r))))
          ≡ (c && ((eqb (parent (tree_of b) r) (parent (tree_of b) s) && validated_as (tree_of b) Elements r)
          && (leb (first_element (tree_of b) s) (last_element (tree_of b) r) && leb (first_element (tree_of b) r) (last_element (tree_of b) s))))
      by_test true q =
          let t = tree_of b in
          let x = (ranged g 0 s e).most in
          let y = (ranged g 0 r q).most in
          rw (
            is-section g 0 r q,
            key_meets (parent t r) (parent t s) (first_element t r) (last_element t r) (first_element t s) (last_element t s)
                (omega arith) (omega arith),
          )
          (turn (eqb (parent t r) (parent t s)) (leb (first_element t r) (last_element t s)) (leb (first_element t s) (last_element t r)))
      by_test false q = refl

  pub overlap_by : {firsts reach : List ℕ} {n first last : ℕ} {r : Bool}
      → Gathered (is_ranged (tree_of b) 0) (first_key (tree_of b)) (last_key (tree_of b)) firsts reach n s
      → first ≡ first_key (tree_of b) s → last ≡ last_key (tree_of b) s → r ≡ some_from (meets_at firsts reach first last) n 0 → r ≡ overlap_at (tree_of b) s
  unfolding overlap_at
  overlap_by {firsts} {reach} {n} {first} {last} f p q h =
      h ∙ f.meets first last ∙ rw (e, p, q)
      (some_same (meets_section (is_ranged (tree_of b) 0) (first_key (tree_of b)) (last_key (tree_of b)) (first_key (tree_of b) s) (last_key (tree_of b) s))
      (ranged_overlap (tree_of b) s) s 0 (λ r l m. meets-key r))

pub no_overlap : (b : List ℕ) (s : ℕ) → is_ranged (tree_of b) 0 s ≡ false → false ≡ overlap_at (tree_of b) s
unfolding overlap_at
no_overlap b s e = rw e

-- validation has come to node s: an earlier section broke no rule
pub section-passed : {b : List ℕ} {s : ℕ} → NodesTo b s → (r : ℕ) → r < s → validated_as (tree_of b) Elements r ≡ true
    → (check r (element_rules (tree_of b) r) then reference_check (tree_of b) r then check r (parent_rules (tree_of b) r)) ≡ passed
unfolding validated_as node_check_at section_check
section-passed {b} g r h v =
    let t = tree_of b in
    let x = and_first (eqb (role t r) Elements) _ v in
    let y = and_second (eqb (role t r) Elements) _ v in
    rw x at (then-second (check r (sids_rules t r)) (section_check t r) (rw y at (g.before r h)))

-- no number before s meets a test: s is the first of n that does, exactly where s does
pub first-is : (p : ℕ → Bool) (n s : ℕ) {o : Option ℕ} → s < n → ((r : ℕ) → r < s → p r ≡ false) → o ≡ if_below n (seek_from p n 0)
    → option_eq eqb o (Some s) ≡ p s
first-is p n s {o} i before h = rw h (by_test (p s) refl)
  where
    by_test : (c : Bool) → p s ≡ c → option_eq eqb (if_below n (seek_from p n 0)) (Some s) ≡ c
    by_test true f = rw (← seek_stop (seek_start p n s (omega arith) before) i f, is_some i) (eq-eqb s s refl)
    by_test false f =
        elim (dec_lt (seek_from p n 0) n) [
          | yes l ↦ rw (is_some l) (ne_eqb (seek_from p n 0) s (λ q. untrue (sym f ∙ rw q at (seek_holds p n 0 (omega arith)))))
          | no l ↦ let m : n ≤ seek_from p n 0 = omega arith in rw (is_none m) refl
        ]

-- validation has come to section s: earlier sections have ranges, and none of them broke rule 28
module _ {b : List ℕ} {s : ℕ} (g : NodesTo b s) (e : is_ranged (tree_of b) 0 s ≡ true) where
  earlier-ranged : (r : ℕ) → r < s → validated_as (tree_of b) Elements r ≡ true → is_ranged (tree_of b) 0 r ≡ true
  unfolding is_ranged is_wanted ◌⊃◌ sids_rules validated_as
  earlier-ranged r h v =
      let t = tree_of b in
      let full = sym (complete-is t r (eqb-true _ _ (and_first (eqb (role t r) Elements) _ v)))
      ∙ earlier-rule b s g 23 r h (and_second (eqb (role t r) Elements) _ v) in
      rw (v, and_first (found t (range_of t r)) (found t (connectivity_of t r)) full)

  -- so the ranges decide
  same-overlap : (r q : ℕ) → q < s → overlap (tree_of b) r q ≡ ranged_overlap (tree_of b) r q
  unfolding overlap ranged_overlap section_of
  same-overlap r q l = by_test (validated_as (tree_of b) Elements q) refl (is_ranged (tree_of b) 0 q) refl
    where
      shut : (x : Bool) → (x && false && meets (tree_of b) r q) ≡ false
      shut true = refl
      shut false = refl

      closed : (c : Bool) → (c && (eqb (parent (tree_of b) q) (parent (tree_of b) r) && false && meets (tree_of b) r q)) ≡ false
      closed true = shut (eqb (parent (tree_of b) q) (parent (tree_of b) r))
      closed false = refl

      by_test : (v : Bool) → validated_as (tree_of b) Elements q ≡ v → (c : Bool) → is_ranged (tree_of b) 0 q ≡ c
          → (eqb (parent (tree_of b) q) (parent (tree_of b) r) && v && meets (tree_of b) r q)
          ≡ (c && (eqb (parent (tree_of b) q) (parent (tree_of b) r) && v && meets (tree_of b) r q))
      by_test true e true f = refl
      by_test true e false f = untrue (sym f ∙ earlier-ranged q l e)
      by_test false e c f = shut (eqb (parent (tree_of b) q) (parent (tree_of b) r)) ∙ sym (closed c)

  overlaps-ranged : (r : ℕ) → r ≤ s → is_ranged (tree_of b) 0 r ≡ true → overlaps (tree_of b) r ≡ overlap_at (tree_of b) r
  unfolding overlaps overlap_at
  overlaps-ranged r h f = rw f (some_same (overlap (tree_of b) r) (ranged_overlap (tree_of b) r) r 0 (λ q l m. same-overlap r q (omega arith)))

  -- no earlier node broke rule 28
  none_before : (r : ℕ) → r < s → overlap_at (tree_of b) r ≡ false
  unfolding element_rules
  none_before r h = by_test (is_ranged (tree_of b) 0 r) refl
    where
      by_test : (c : Bool) → is_ranged (tree_of b) 0 r ≡ c → overlap_at (tree_of b) r ≡ false
      by_test true f =
          let t = tree_of b in
          let held = check_pass r (element_rules t r) (then-first _ _ (section-passed g r h (is-section g.sound 0 r f))) in
          sym (overlaps-ranged r (omega arith) f) ∙ not-true (overlaps t r) (claim 28 (element_rules t r) held)
      by_test false f = sym (no_overlap b r f)

  pub overlap-is : {o : Option ℕ} → o ≡ if_below (node_count b) (seek_from (overlap_at (tree_of b)) (node_count b) 0) → option_eq eqb o (Some s) ≡ overlaps (tree_of b) s
  overlap-is h = first-is (overlap_at (tree_of b)) (node_count b) s g.inside none_before h ∙ sym (overlaps-ranged s (omega arith) e)
