-- Rules 29 to 33 of a section against rows of the image's bytes.
use Prim.Native.Nat.{ℕ, suc, ◌+◌, ◌*◌, ◌-◌, ◌≤◌, ◌<◌}
use mathlib.Core.Path.{◌≡◌, refl, sym, ◌∙◌}
use mathlib.Core.Bool.{Bool, true, false, cond, ◌||◌}
use mathlib.Core.List.{List}
use native.Mathlib.Omega.{arith}
use lib.Dec.{eqb}
use borrow.Author.Tests.{eqb-true, ne_eqb, eq-eqb, le-leb}
use Rattle.model.specs.Lists.{◌⊃◌, row, every_from}
use Rattle.model.specs.Rules.{check, passed, rejected, rejection}
use Rattle.model.specs.Image.{Tree, tree_of, parent, number}
use Rattle.model.specs.Given.{Sound}
use Rattle.model.specs.Values.{size, cell_dimension, offsets_of}
use Rattle.model.specs.Elements.{nodes_per, has_offsets, element_type_of, element_count, connectivity_length, lengths_fit, start_offset, starts_at_zero, rises, all_rise}
use Rattle.model.specs.Elements.{MIXED, NGON, NFACE, size_of, start_of, layout_of, ends_at_length, element_size, least_size, large_enough, all_large_enough}
use Rattle.model.proofs.Logic.{untrue}
use Rattle.model.specs.Corner.{number_at}
use Rattle.rows.specs.declared.Row.{Row}
use Rattle.elements.specs.Arrays.{rises_at, large_at, offset_rules}
use Rattle.references.specs.Groups.{shape_rules}
use Rattle.section_data.specs.Given.{RowOf, SectionContext}
use Rattle.section_data.proofs.ArrayLaws.{row_number}
use Rattle.model.proofs.Walks.{every_same, every_holds}

-- n is small
pub count_small : {b : List ℕ} {s : ℕ} → SectionContext b s → {n : ℕ} → n ≡ element_count (tree_of b) s → n ≤ 2147483647
unfolding element_count
count_small {b} {s} d e = let r = d.ranged in omega (arith, r.one, r.up, r.most)

-- the least size by the CellDimension d of the base i and the type k that were read
module _ (t : Tree) (s : ℕ) {z i d k : ℕ} (e : z ≡ parent t s) (f : i ≡ parent t z) (g : d ≡ number t i 0) (q : k ≡ element_type_of t s) where
  pub least_elsewhere : (d ≡ 3 → ⊥) → 0 ≡ least_size t s
  unfolding least_size cell_dimension
  least_elsewhere h = rw (← e, ← f, ← g, ne_eqb d 3 h)

  module _ (h : d ≡ 3) where
    pub least-face : k ≡ NGON → 3 ≡ least_size t s
    unfolding least_size cell_dimension row
    least-face u = rw (← e, ← f, ← g, h, ← q, u)

    pub least_cell : k ≡ NFACE → 4 ≡ least_size t s
    unfolding least_size cell_dimension row
    least_cell u = rw (← e, ← f, ← g, h, ← q, u)

    pub least_other : (k ≡ NGON → ⊥) → (k ≡ NFACE → ⊥) → 0 ≡ least_size t s
    unfolding least_size cell_dimension row
    least_other u v = rw (← e, ← f, ← g, h, ← q, ne_eqb k NGON u, ne_eqb k NFACE v)

-- rule 33 asks nothing of a section of a fixed type, or of a MIXED one
none-asked : (t : Tree) (s : ℕ) → eqb (element_type_of t s) NGON ≡ false → eqb (element_type_of t s) NFACE ≡ false → least_size t s ≡ 0
unfolding least_size row
none-asked t s p q = rw (p, q) (by_test (eqb (cell_dimension t (parent t (parent t s))) 3))
  where
    by_test : (c : Bool) → ◌≡◌ {A = ℕ} (cond c 0 0) 0
    by_test true = refl
    by_test false = refl

mixed-least : (t : Tree) (s : ℕ) → eqb (element_type_of t s) MIXED ≡ true → least_size t s ≡ 0
mixed-least t s m = let e = eqb-true (element_type_of t s) MIXED m in none-asked t s (rw e) (rw e)

fixed_least : (t : Tree) (s : ℕ) → has_offsets (element_type_of t s) ≡ false → least_size t s ≡ 0
unfolding has_offsets
fixed_least t s h =
    let e = element_type_of t s in
    none-asked t s (or_second (eqb e MIXED) _ (or_first (eqb e MIXED || eqb e NGON) _ h)) (or_second (eqb e MIXED || eqb e NGON) _ h)
  where
    or_first : (a d : Bool) → (a || d) ≡ false → a ≡ false
    or_first true d e = untrue (sym e)
    or_first false d e = refl

    or_second : (a d : Bool) → (a || d) ≡ false → d ≡ false
    or_second true d e = untrue (sym e)
    or_second false d e = e

fixed_large : (t : Tree) (s : ℕ) → has_offsets (element_type_of t s) ≡ false → all_large_enough t s ≡ true
unfolding all_large_enough large_enough
fixed_large t s h = every_holds (large_enough t s) (λ k. rw (fixed_least t s h) (le-leb 0 (element_size t s k) (omega arith))) (element_count t s) 0

-- a section of a fixed type
module _ (t : Tree) (s : ℕ) (h : has_offsets (element_type_of t s) ≡ false) {n m k : ℕ} (e : n ≡ element_count t s) (l : m ≡ connectivity_length t s)
    (p : k ≡ nodes_per (element_type_of t s)) where
  pub fixed_kept : m ≡ n * k → passed ≡ check s (shape_rules t s)
  unfolding shape_rules check ◌⊃◌ lengths_fit
  fixed_kept q = rw (fixed_large t s h, h, ← e, ← l, ← p, eq-eqb m (n * k) q)

  pub fixed_broken : (m ≡ n * k → ⊥) → rejected (rejection 29 s) ≡ check s (shape_rules t s)
  unfolding shape_rules check ◌⊃◌ lengths_fit
  fixed_broken q = rw (h, ← e, ← l, ← p, ne_eqb m (n * k) q)

-- a section with start offsets
module _ (b : List ℕ) (s : ℕ) (h : has_offsets (element_type_of (tree_of b) s) ≡ true) {n m j : ℕ} (e : n ≡ element_count (tree_of b) s)
    (l : m ≡ connectivity_length (tree_of b) s) (o : j ≡ offsets_of (tree_of b) s) where
  pub offsets-short : {r : ℕ} → r ≡ size (tree_of b) j → (r ≡ n + 1 → ⊥) → rejected (rejection 29 s) ≡ check s (shape_rules (tree_of b) s)
  unfolding shape_rules check lengths_fit
  offsets-short {r} p q = rw (h, ← e, ← o, ← p, ne_eqb r (n + 1) q)

  module _ (g : Sound b) {r : Row} (a : RowOf b j r) (q : r.n ≡ n + 1) where
    offset-is : (k : ℕ) → k < n + 1 → start_offset (tree_of b) s k ≡ number_at b r.at r.width k
    unfolding start_offset
    offset-is k i = rw (← o) (row_number g a k (rw q i))

    rise-same : (k : ℕ) → k < n → rises_at b r.at r.width k ≡ rises (tree_of b) s k
    unfolding rises_at rises
    rise-same k i = rw (offset-is k (omega arith), offset-is (suc k) (omega arith), ← o, ← a.wide)

    all_same : every_from (rises_at b r.at r.width) n 0 ≡ all_rise (tree_of b) s
    unfolding all_rise
    all_same = rw (← e) (every_same (rises_at b r.at r.width) (rises (tree_of b) s) n 0 (λ k x i. rise-same k (omega arith)))

    large_same : (k : ℕ) → k < n → large_at b r.at r.width (least_size (tree_of b) s) k ≡ large_enough (tree_of b) s k
    unfolding large_at large_enough element_size size_of start_of layout_of
    large_same k i = by_type (eqb (element_type_of (tree_of b) s) MIXED) refl
      where
        by_type : (t : Bool) → eqb (element_type_of (tree_of b) s) MIXED ≡ t → large_at b r.at r.width (least_size (tree_of b) s) k ≡ large_enough (tree_of b) s k
        by_type true m = rw (mixed-least (tree_of b) s m)
            (le-leb 0 (number_at b r.at r.width (suc k) - number_at b r.at r.width k) (omega arith)
            ∙ sym (le-leb 0 (element_size (tree_of b) s k) (omega arith)))
        by_type false m = rw (m, h, offset-is k (omega arith), offset-is (suc k) (omega arith))

    all_large : every_from (large_at b r.at r.width (least_size (tree_of b) s)) n 0 ≡ all_large_enough (tree_of b) s
    unfolding all_large_enough
    all_large =
        rw (← e) (every_same (large_at b r.at r.width (least_size (tree_of b) s)) (large_enough (tree_of b) s) n 0 (λ k x i. large_same k (omega arith)))

    pub offsets_fit : {least : ℕ} → least ≡ least_size (tree_of b) s
        → check s (offset_rules b r.at r.width (r.n - 1) m least) ≡ check s (shape_rules (tree_of b) s)
    unfolding offset_rules shape_rules lengths_fit ◌⊃◌ starts_at_zero ends_at_length check
    offsets_fit f =
        let x : r.n - 1 ≡ n = omega arith in
        let y : size (tree_of b) j ≡ n + 1 = sym a.long ∙ q in
        rw (f, x, h, ← e, ← o, y, eq-eqb (n + 1) (n + 1) refl, offset-is 0 (omega arith), offset-is n (omega arith), ← l, all_same, all_large)
