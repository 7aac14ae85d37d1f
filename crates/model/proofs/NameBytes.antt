-- Document 02 §3: where rules 1 to 18 hold, the names of two siblings have a first byte that differs. Rule 11's comparison by that place. Two fields that hold
-- one text.
use Prim.Native.Nat.{ℕ, zero, suc, ◌-◌, ◌≤◌, ◌<◌}
use mathlib.Core.Path.{◌≡◌, refl, sym, ◌∙◌}
use mathlib.Core.Bool.{Bool, true, false, cond, ◌&&◌}
use mathlib.Core.List.{List, [], ◌∷◌}
use native.Mathlib.Omega.{arith}
use lib.ListN.{length, get_or, drop, length-drop}
use lib.Seq.{length-take-le}
use lib.Dec.{eqb, ltb}
use borrow.Author.Tests.{eqb-true, eqb-false, eq-eqb, ltb-true, ltb-false, lt-ltb, le-ltb, not-true}
use Rattle.model.specs.Bytes.{same, blank, spells}
use Rattle.model.specs.Rules.{passed}
use Rattle.model.specs.Image.{tree_of, node_count, record_at, name}
use Rattle.model.specs.Records.{sibling, namesake, name_taken, table_check, record_rules}
use Rattle.model.specs.NameBytes.{first_difference, pair_bytes, DifferFirst, SiblingsDiffer}
use Rattle.model.proofs.Logic.{untrue, and_first, and_second, and_both}
use Rattle.model.proofs.Walks.{some_by}
use Rattle.model.proofs.Accepted.{record_rule}
use Rattle.model.proofs.Bounds.{table-laid}
use Rattle.model.proofs.Reading.{name-at}

-- the first byte that differs stands at index q, from 0
pub record First (s u : List ℕ) (q : ℕ) : Type 0 where
  pub place_is : first_difference s u ≡ suc q
  pub inside : q < length s
  pub differs : get_or s q 0 ≡ get_or u q 0 → ⊥
  pub before : (k : ℕ) → k < q → get_or s k 0 ≡ get_or u k 0

first_step : (x y : ℕ) (s u : List ℕ) (q : ℕ) → x ≡ y → First s u q → First (x ∷ s) (y ∷ u) (suc q)
unfolding first_difference
first_step x y s u q e f =
    record {
      place_is = rw (eq-eqb x y e, f.place_is);
      inside = omega (arith, f.inside);
      differs = f.differs;
      before = earlier;
    }
  where
    earlier : (k : ℕ) → k < suc q → get_or (x ∷ s) k 0 ≡ get_or (y ∷ u) k 0
    earlier zero h = e
    earlier (suc k) h = f.before k (omega arith)

-- two lists of one length that are not the same have one
pub first : (s u : List ℕ) → length s ≡ length u → same s u ≡ false → (q : ℕ) × First s u q
unfolding same first_difference
first [] [] l e = untrue (sym e)
first [] (y ∷ u) l e = absurd (omega arith)
first (x ∷ s) [] l e = absurd (omega arith)
first (x ∷ s) (y ∷ u) l e = by_test (eqb x y) refl e (first s u (omega arith))
  where
    by_test : (t : Bool) → eqb x y ≡ t → (t && same s u) ≡ false → (same s u ≡ false → (q : ℕ) × First s u q) → (q : ℕ) × First (x ∷ s) (y ∷ u) q
    by_test true g h later = let w = later h in (suc w.0, first_step x y s u w.0 (eqb-true x y g) w.1)
    by_test false g h later =
        (0, record { place_is = rw g; inside = omega arith; differs = eqb-false x y g; before = λ k m. absurd (omega arith) })

-- the place is at most one past the last
pub place-small : (s u : List ℕ) → first_difference s u ≤ suc (length s)
unfolding first_difference
place-small [] u = omega arith
place-small (x ∷ s) [] = omega arith
place-small (x ∷ s) (y ∷ u) = by_test (eqb x y) (place-small s u)
  where
    by_test : (t : Bool) → first_difference s u ≤ suc (length s) → cond t (suc (first_difference s u)) 1 ≤ suc (suc (length s))
    by_test true h = omega arith
    by_test false h = omega arith

-- rule 11's comparison: two lists of one length are the same where the place lies past the last
pub same_place : (s u : List ℕ) → length s ≡ length u → same s u ≡ ltb (length s) (first_difference s u)
unfolding same first_difference
same_place [] [] l = refl
same_place [] (y ∷ u) l = absurd (omega arith)
same_place (x ∷ s) [] l = absurd (omega arith)
same_place (x ∷ s) (y ∷ u) l = by_test (eqb x y) (same_place s u (omega arith))
  where
    up : (a b : ℕ) (t : Bool) → ltb a b ≡ t → ltb (suc a) (suc b) ≡ t
    up a b true e = lt-ltb (suc a) (suc b) (omega (arith, ltb-true a b e))
    up a b false e = le-ltb (suc a) (suc b) (omega (arith, ltb-false a b e))

    by_test : (t : Bool) → same s u ≡ ltb (length s) (first_difference s u) → (t && same s u) ≡ ltb (suc (length s)) (cond t (suc (first_difference s u)) 1)
    by_test true h = h ∙ sym (up (length s) (first_difference s u) (ltb (length s) (first_difference s u)) refl)
    by_test false h = sym (le-ltb (suc (length s)) 1 (omega arith))

-- two fields of one length that hold one text are the same
blanks_same : (s u : List ℕ) → length s ≡ length u → blank s ≡ true → blank u ≡ true → same s u ≡ true
unfolding blank same
blanks_same [] [] l e f = refl
blanks_same [] (y ∷ u) l e f = absurd (omega arith)
blanks_same (x ∷ s) [] l e f = absurd (omega arith)
blanks_same (x ∷ s) (y ∷ u) l e f =
    let q : x ≡ y = eqb-true x 32 (and_first (eqb x 32) _ e) ∙ sym (eqb-true y 32 (and_first (eqb y 32) _ f)) in
    rw (eq-eqb x y q) (blanks_same s u (omega arith) (and_second (eqb x 32) _ e) (and_second (eqb y 32) _ f))

pub spelled_same : (t s u : List ℕ) → length s ≡ length u → spells s t ≡ true → spells u t ≡ true → same s u ≡ true
unfolding spells same
spelled_same [] s u l e f = blanks_same s u l e f
spelled_same (z ∷ t) [] u l e f = untrue e
spelled_same (z ∷ t) (x ∷ s) [] l e f = untrue f
spelled_same (z ∷ t) (x ∷ s) (y ∷ u) l e f =
    let q : x ≡ y = eqb-true x z (and_first (eqb x z) _ e) ∙ sym (eqb-true y z (and_first (eqb y z) _ f)) in
    rw (eq-eqb x y q) (spelled_same t s u (omega arith) (and_second (eqb x z) _ e) (and_second (eqb y z) _ f))

-- every name has 32 bytes
pub name-size : (b : List ℕ) → table_check b ≡ passed → (j : ℕ) → j < node_count b → length (name (tree_of b) j) ≡ 32
name-size b ok j h =
    let l = table-laid b ok in
    rw (name-at b j h) (length-take-le 32 (drop (record_at j) b) (rw length-drop (omega (arith, l.data_at_lem, l.whole))))

module _ (b : List ℕ) (ok : table_check b ≡ passed) (i j : ℕ) (l : j < i) (h : i < node_count b) (e : sibling (tree_of b) i j ≡ true) where
  -- 11
  pub names_differ : same (name (tree_of b) j) (name (tree_of b) i) ≡ false
  unfolding record_rules name_taken namesake
  names_differ = by_test (same (name (tree_of b) j) (name (tree_of b) i)) refl
    where
      by_test : (t : Bool) → same (name (tree_of b) j) (name (tree_of b) i) ≡ t → t ≡ false
      by_test false g = refl
      by_test true g =
          untrue
          (sym (not-true (name_taken (tree_of b) i) (record_rule b ok 11 i h))
          ∙ some_by (namesake (tree_of b) i) i 0 j (and_both _ _ e g) (omega arith) (omega arith))

  pair : DifferFirst (name (tree_of b) j) (name (tree_of b) i) (pair_bytes (tree_of b) i j)
  unfolding pair_bytes
  pair =
      let n = name-size b ok j (omega arith) in
      let w = first (name (tree_of b) j) (name (tree_of b) i) (n ∙ sym (name-size b ok i h)) names_differ in
      let q : suc w.0 - 1 ≡ w.0 = omega arith in
      rw (e, w.1.place_is)
      (record {
        from_one = omega arith;
        in_name = omega (arith, w.1.inside, n);
        differs = rw q w.1.differs;
        same-before = rw q w.1.before;
      })

pub siblings_differ : SiblingsDiffer
siblings_differ b ok i j l h e = pair b ok i j l h e
