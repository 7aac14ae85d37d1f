-- The exports of one corner, of all and of an element's type: 46 where the section or the lent bytes are too short, else the reader's answer.
use Prim.Native.Nat.{ℕ, ◌≤◌, ◌<◌}
use mathlib.Core.Path.{◌≡◌, refl, ◌∙◌}
use mathlib.Core.List.{List}
use lib.ListN.{length}
use lib.IntN.{ℤ}
use borrow.Author.Tests.{le-leb, lt-leb}
use Rattle.model.specs.Lists.{over}
use Rattle.model.specs.Bytes.{le_bytes}
use Rattle.model.specs.Rules.{Answer, rejected, rejection, passed, check, ◌then◌, leaves}
use Rattle.model.specs.Corner.{corner_answer}
use Rattle.model.specs.Reads.{section_at}
use Rattle.model.specs.ReadList.{rule_of}
use Rattle.model.specs.ElementCorners.{element_corners_answer, element_corners_memory}
use Rattle.model.specs.OwnType.{own_type_answer}
use Rattle.model.specs.Exports.{section_in, read_fits, corner_exported, number_bytes, CornerExport, element_exported, count_word, ElementExport, type_exported, TypeExport}

module _ (n : ℕ) (section out : List ℕ) where
  pub few : length section < n → read_fits n section out ≡ rejected (rejection 46 0)
  unfolding read_fits check
  few h = rw (lt-leb n (length section) h)

  pub full : n ≤ length section → length out < 8 → read_fits n section out ≡ rejected (rejection 46 0)
  unfolding read_fits check
  full h l = rw (le-leb n (length section) h, lt-leb 8 (length out) l)

  pub fits : n ≤ length section → 8 ≤ length out → read_fits n section out ≡ passed
  unfolding read_fits check
  fits h l = rw (le-leb n (length section) h, le-leb 8 (length out) l)

module _ (b section : List ℕ) (element corner : ℕ) (number : List ℕ) where
  pub corner-short : read_fits 88 section number ≡ rejected (rejection 46 0) → CornerExport b section element corner number 46 b section number
  unfolding corner_exported number_bytes rule_of ◌then◌
  corner-short e = record { rule-is = rw e; number_is = rw e; image-kept = refl; section-kept = refl }

  pub corner-long : {r : ℕ} {number' : List ℕ} {a : Answer ℤ} → read_fits 88 section number ≡ passed → a ≡ corner_answer b (section_in section) element corner
      → r ≡ rule_of a → number' ≡ number_bytes a number → CornerExport b section element corner number r b section number'
  unfolding corner_exported ◌then◌
  corner-long e q p n = record { rule-is = p ∙ rw (e, q); number_is = n ∙ rw (e, q); image-kept = refl; section-kept = refl }

-- what the exports of all corners and of a type share: the rule, and one word in front of the lent bytes
module _ (section out : List ℕ) (told : Answer ℕ) where
  abbrev Counted : ℕ → List ℕ → Type 0
  Counted r out' =
      (r ≡ rule_of (read_fits 11 section out then told))
      × (out' ≡ leaves (read_fits 11 section out) out (over out (le_bytes 8 (count_word (read_fits 11 section out then told)))))

  count-short : read_fits 11 section out ≡ rejected (rejection 46 0) → Counted 46 out
  unfolding rule_of leaves ◌then◌
  count-short e = (rw e, rw e)

  count_long : {r : ℕ} {out' : List ℕ} → read_fits 11 section out ≡ passed → r ≡ rule_of told → out' ≡ over out (le_bytes 8 (count_word told)) → Counted r out'
  unfolding leaves ◌then◌
  count_long e p n = (p ∙ rw e, n ∙ rw e)

module _ (b section : List ℕ) (element : ℕ) (out : List ℤ) (size : List ℕ) where
  pub element-short : read_fits 11 section size ≡ rejected (rejection 46 0) → ElementExport b section element out size 46 b section out size
  unfolding element_exported leaves
  element-short e =
      let s = count-short section size (element_corners_answer b (section_at section 0) element (length out)) e in
      record { rule-is = s.0; out_is = rw e; size_is = s.1; image-kept = refl; section-kept = refl }

  pub element-long : {r : ℕ} {out' : List ℤ} {size' : List ℕ} {a : Answer ℕ} → read_fits 11 section size ≡ passed
      → a ≡ element_corners_answer b (section_at section 0) element (length out) → out' ≡ element_corners_memory b (section_at section 0) element out
      → r ≡ rule_of a → size' ≡ over size (le_bytes 8 (count_word a)) → ElementExport b section element out size r b section out' size'
  unfolding element_exported leaves
  element-long e q m p n =
      let s = count_long section size (element_corners_answer b (section_at section 0) element (length out)) e (p ∙ rw q) (n ∙ rw q) in
      record { rule-is = s.0; out_is = m ∙ rw e; size_is = s.1; image-kept = refl; section-kept = refl }

module _ (b section : List ℕ) (element : ℕ) (out : List ℕ) where
  pub type-short : read_fits 11 section out ≡ rejected (rejection 46 0) → TypeExport b section element out 46 b section out
  unfolding type_exported
  type-short e =
      let s = count-short section out (own_type_answer b (section_at section 0) element) e in
      record { rule-is = s.0; type-is = s.1; image-kept = refl; section-kept = refl }

  pub type-long : {r : ℕ} {out' : List ℕ} {a : Answer ℕ} → read_fits 11 section out ≡ passed → a ≡ own_type_answer b (section_at section 0) element
      → r ≡ rule_of a → out' ≡ over out (le_bytes 8 (count_word a)) → TypeExport b section element out r b section out'
  unfolding type_exported
  type-long e q p n =
      let s = count_long section out (own_type_answer b (section_at section 0) element) e (p ∙ rw q) (n ∙ rw q) in
      record { rule-is = s.0; type-is = s.1; image-kept = refl; section-kept = refl }
