-- Two bytes as one number, the lower first: data types known by their numbers.
use Prim.Native.Nat.{ℕ, suc, ◌+◌, ◌*◌, ◌%◌, ◌/◌, ◌≤◌, ◌<◌}
use mathlib.Core.Path.{◌≡◌, refl, sym, ap, ◌∙◌}
use mathlib.Core.Bool.{Bool, true, false, ◌&&◌}
use mathlib.Core.List.{List, [], ◌∷◌, map}
use native.Mathlib.Omega.{arith}
use native.Mathlib.Numerals.{add-one}
use lib.Dec.{eqb}
use lib.ListN.{length, get_or, take, drop}
use lib.Seq.{drop-cons}
use borrow.Author.Tests.{eqb-true, eqb-false, eq-eqb, ne_eqb}
use Rattle.model.specs.Bytes.{same, text, blank, spells, place_from}
use Rattle.model.specs.Image.{data_types}
use Rattle.model.proofs.Logic.{NoneOf, none_known}
use Rattle.records.specs.Table.{type_by_code}

-- two bytes, by their number
abbrev pair : ℕ → List ℕ
pair r = r % 256 ∷ r / 256 ∷ []

-- they are the same where their numbers are
code_is : (r c : ℕ) → (eqb (r % 256) (c % 256) && (eqb (r / 256) (c / 256) && true)) ≡ eqb r c
code_is r c = by_test (eqb r c) refl
  where
    by_test : (t : Bool) → eqb r c ≡ t → (eqb (r % 256) (c % 256) && (eqb (r / 256) (c / 256) && true)) ≡ t
    by_test true e = rw (eqb-true r c e, eq-eqb (c % 256) (c % 256) refl, eq-eqb (c / 256) (c / 256) refl)
    by_test false e = by_low (eqb (r % 256) (c % 256)) refl
      where
        by_low : (t : Bool) → eqb (r % 256) (c % 256) ≡ t → (t && (eqb (r / 256) (c / 256) && true)) ≡ false
        by_low false f = refl
        by_low true f =
            let n = eqb-false r c e in
            let g = eqb-true (r % 256) (c % 256) f in
            rw (ne_eqb (r / 256) (c / 256) (λ (z : r / 256 ≡ c / 256). n (omega arith)))

-- a number that none of the texts has
unlisted : (A : Type 0) (k r : ℕ) (cs : List ℕ) → NoneOf A cs r → place_from k (pair r) (map pair cs) ≡ 0
unfolding place_from spells blank
unlisted A k r [] h = refl
unlisted A k r (c ∷ cs) h =
    rw (code_is r c, ne_eqb r c (none_known (A × (r ≡ c → ⊥)) cs r h).1) (unlisted (A × (r ≡ c → ⊥)) (suc k) r cs h)

abbrev type_codes : List ℕ
type_codes = 21581 ∷ 12611 ∷ 12610 ∷ 13385 ∷ 13397 ∷ 13394 ∷ 14409 ∷ 14421 ∷ 14418 ∷ 13400 ∷ 14424 ∷ []

pub no_type : (r : ℕ) → NoneOf Unit type_codes r → type_by_code r ≡ 0
unfolding data_types text
no_type r h = unlisted Unit 1 r type_codes h

pub link_by_code : (r : ℕ) {s : List ℕ} → s ≡ pair r → eqb r 19276 ≡ same s (text "LK")
unfolding same text
link_by_code r e = rw e (sym (code_is r 19276))

-- two bytes of a list, and the same by their number
pub pair_from : (b : List ℕ) (p : ℕ) → p + 2 ≤ length b → take 2 (drop p b) ≡ get_or b p 0 ∷ get_or b (p + 1) 0 ∷ []
pair_from b p h = rw (add-one p, drop-cons b p 0 (omega arith), drop-cons b (suc p) 0 (omega arith))

pub two_bytes : (b : List ℕ) (p x y : ℕ) → p + 2 ≤ length b → x ≡ get_or b p 0 → x < 256 → y ≡ get_or b (p + 1) 0 → take 2 (drop p b) ≡ pair (x + 256 * y)
two_bytes b p x y h e l f =
    let q : (x + 256 * y) % 256 ≡ x = omega arith in
    let r : (x + 256 * y) / 256 ≡ y = omega arith in
    rw (q, r, e, f) (pair_from b p h)
