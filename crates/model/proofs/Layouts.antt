-- The elements of any layout. An element's corners fill the places from that of its first one to the next start; in a MIXED section that needs a type
-- that fits, and they stand behind the type number.
use Prim.Native.Nat.{ℕ, suc, ◌+◌, ◌-◌, ◌≤◌, ◌<◌}
use mathlib.Core.Path.{◌≡◌, refl}
use mathlib.Core.Bool.{Bool, true, false, cond}
use native.Mathlib.Omega.{arith}
use lib.Dec.{eqb, ltb}
use borrow.Author.Tests.{eqb-true, ltb-false, ltb-true}
use Rattle.model.specs.Lists.{◌⊃◌, some_from}
use Rattle.model.specs.Image.{Tree}
use Rattle.model.specs.Elements.{element_type_of, element_count, element_start, starts_at, is_type_number}
use Rattle.model.specs.Elements.{MIXED, nodes_per, Layout, start_of, own_type, size_of, corner_place, fits_length, type_fits}
use Rattle.model.proofs.Logic.{and_first, and_second, and-false, when}
use Rattle.model.proofs.Walks.{some_at}
use Rattle.model.proofs.TwosComplement.{rise-last}

module _ (l : Layout) (k : ℕ) where
  -- 1 + size is end − start
  pub mixed-to-end : eqb l.section_type MIXED ≡ true → type_fits l k ≡ true → start_of l k + (1 + size_of l k) ≡ start_of l (suc k)
  unfolding type_fits fits_length size_of
  mixed-to-end m f =
      let n = nodes_per (own_type l k) in
      let e : 1 + n ≡ start_of l (suc k) - start_of l k = eqb-true _ _ (and_second (ltb 0 n) _ f) in
      rw m (omega arith)

  -- its own type has nodes
  pub mixed-some : eqb l.section_type MIXED ≡ true → type_fits l k ≡ true → 1 ≤ size_of l k
  unfolding type_fits fits_length size_of
  mixed-some m f = rw m (ltb-true 0 _ (and_first (ltb 0 (nodes_per (own_type l k))) _ f))

  -- in any other section size is end − start
  pub plain_to-end : eqb l.section_type MIXED ≡ false → start_of l k < start_of l (suc k) → start_of l k + size_of l k ≡ start_of l (suc k)
  unfolding size_of
  plain_to-end m h = rw m (omega arith)

  pub corners_fill : (eqb l.section_type MIXED ⊃ type_fits l k) ≡ true → start_of l k < start_of l (suc k)
      → corner_place l k 1 + size_of l k ≡ start_of l (suc k)
  unfolding corner_place
  corners_fill f h = by_type (eqb l.section_type MIXED) refl
    where
      by_type : (t : Bool) → eqb l.section_type MIXED ≡ t → start_of l k + cond t 1 (1 - 1) + size_of l k ≡ start_of l (suc k)
      by_type true m = omega (arith, mixed-to-end m (when _ _ f m))
      by_type false m = omega (arith, plain_to-end m h)

  -- corners stand one after the other
  pub corner-next : (c : ℕ) → 1 ≤ c → corner_place l k c ≡ corner_place l k 1 + (c - 1)
  unfolding corner_place
  corner-next c h = by_type (eqb l.section_type MIXED)
    where
      by_type : (t : Bool) → start_of l k + cond t c (c - 1) ≡ start_of l k + cond t 1 (1 - 1) + (c - 1)
      by_type true = omega arith
      by_type false = omega arith

  -- the first one at the start or, in a MIXED section, behind it
  pub corner-after : start_of l k ≤ corner_place l k 1
  unfolding corner_place
  corner-after = omega arith

  pub corner_behind_type : eqb l.section_type MIXED ≡ true → start_of l k < corner_place l k 1
  unfolding corner_place
  corner_behind_type m = rw m (omega arith)

-- where starts rise, a place behind one of them and before the next is none of them
pub no_start : (f : ℕ → ℕ) (n : ℕ) → ((i : ℕ) → i < n → f i < f (suc i)) → (k j : ℕ) → k < n → j < n → (p : ℕ) → f k < p → p < f (suc k) → f j ≡ p → ⊥
no_start f n rise k j h l p from to e = by_side (ltb k j) refl
  where
    by_side : (t : Bool) → ltb k j ≡ t → ⊥
    by_side true q =
        let m = ltb-true k j q in
        let r = rise-last j f (λ i u. rise i (omega arith)) (suc k) (j - suc k) (omega arith) in
        omega arith
    by_side false q =
        let m = ltb-false k j q in
        let r = rise-last k f (λ i u. rise i (omega arith)) j (k - j) (omega arith) in
        omega arith

-- so no entry there is a type number
pub no_type_between : (t : Tree) (s : ℕ) → ((i : ℕ) → i < element_count t s → element_start t s i < element_start t s (suc i))
    → (k p : ℕ) → k < element_count t s → element_start t s k < p → p < element_start t s (suc k) → is_type_number t s p ≡ false
unfolding is_type_number starts_at
no_type_between t s rise k p h from to = rw (none (some_from (starts_at t s p) (element_count t s) 0) refl) (and-false (eqb (element_type_of t s) MIXED))
  where
    none : (x : Bool) → some_from (starts_at t s p) (element_count t s) 0 ≡ x → x ≡ false
    none false e = refl
    none true e =
        let w = some_at (starts_at t s p) (element_count t s) 0 e in
        absurd (no_start (element_start t s) (element_count t s) rise k w.at h (omega (arith, w.to)) p from to (eqb-true _ _ w.holds))
