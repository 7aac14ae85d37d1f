-- What a zone that meets 24 stores.
use Prim.Native.Nat.{ℕ, zero, suc, ◌+◌, ◌*◌, ◌≤◌, ◌<◌}
use mathlib.Core.Path.{◌≡◌, refl, sym, ◌∙◌}
use mathlib.Core.Bool.{Bool, true, false, cond, ◌&&◌}
use mathlib.Core.List.{List, [], ◌∷◌}
use native.Mathlib.Omega.{arith}
use lib.ListN.{get_or, take}
use lib.Dec.{leb, eqb}
use borrow.Author.Tests.{lt-ltb, leb-true, eqb-true}
use Rattle.model.specs.Lists.{row, every_from}
use Rattle.model.specs.Image.{Tree, tree_of, parent, number, I4, I8}
use Rattle.model.specs.Given.{Sound}
use Rattle.model.specs.Records.{product}
use Rattle.model.specs.Containment.{role, Zone}
use Rattle.model.specs.Values.{typed, shaped, type_lawful, value_lawful, index_dimension, structured, vertex_size, cell_size, boundary_size, cell_centred}
use Rattle.model.specs.Values.{data_size, data_sizes_from, sizes_by_zone, structured_sizes, unstructured_sizes, zone_value}
use Rattle.model.proofs.Walks.{every_at}
use Rattle.model.proofs.Logic.{and_first, and_second}
use Rattle.types.specs.Given.{HasNumber}
use Rattle.types.proofs.StoredNumbers.{whole_wide, shaped-is, has_by}
use Rattle.sids.specs.Given.{TypedZone}
use Rattle.sids.specs.Sizes.{directions, zone_sizes, size_in, structured_in, unstructured_in, permitted_in, inner_size}

zone-type : (t : Tree) (z : ℕ) → role t z ≡ Zone → type_lawful t z ≡ true → (typed t z (I4 ∷ I8 ∷ []) && shaped t z (index_dimension t z ∷ 3 ∷ [])) ≡ true
unfolding type_lawful row
zone-type t z e h = rw e at h

-- three numbers a direction
pub zone-has : (b : List ℕ) → Sound b → (z : ℕ) → TypedZone b z → (k : ℕ) → k < 3 * index_dimension (tree_of b) z → HasNumber b z k
unfolding product
zone-has b s z g k l =
    let t = tree_of b in
    let h = zone-type t z g.zone g.type in
    has_by b s z g.based.inside (whole_wide t z (and_first (typed t z (I4 ∷ I8 ∷ [])) _ h)) (index_dimension t z ∷ 3 ∷ [])
    (shaped-is t z (index_dimension t z ∷ 3 ∷ []) (and_second (typed t z (I4 ∷ I8 ∷ [])) _ h)) k (omega arith)

-- a size in a direction that the zone has
pub size_in_lem : (f : ℕ → ℕ) (n d : ℕ) → d < n → n ≤ 3 → get_or (directions f n) d 0 ≡ f d
size_in_lem f n zero h l = rw (lt-ltb 0 n h)
size_in_lem f n (suc zero) h l = rw (lt-ltb 1 n h)
size_in_lem f n (suc (suc zero)) h l = rw (lt-ltb 2 n h)
size_in_lem f n (suc (suc (suc d))) h l = absurd (omega arith)

-- the zone's value is that of each direction
pub zone-value-is : (t : Tree) (z : ℕ) → zone_value t z ≡ every_from (permitted_in t z) (index_dimension t z) 0
unfolding zone_value
zone-value-is t z = by_test (structured t z)
  where
    by_test : (a : Bool) → cond a (every_from (structured_sizes t z) (index_dimension t z) 0) (every_from (unstructured_sizes t z) (index_dimension t z) 0)
        ≡ every_from (λ (d : ℕ). cond a (structured_sizes t z d) (unstructured_sizes t z d)) (index_dimension t z) 0
    by_test true = refl
    by_test false = refl

pub permitted_is : (t : Tree) (z d : ℕ) → d < index_dimension t z → index_dimension t z ≤ 3
    → cond (structured t z) (structured_in (size_in (zone_sizes t z) 0 d) (size_in (zone_sizes t z) 1 d) (size_in (zone_sizes t z) 2 d))
    (unstructured_in (size_in (zone_sizes t z) 0 d) (size_in (zone_sizes t z) 1 d) (size_in (zone_sizes t z) 2 d))
    ≡ permitted_in t z d
unfolding structured_sizes unstructured_sizes
permitted_is t z d h l =
    let n = index_dimension t z in
    rw (size_in_lem (vertex_size t z) n d h l, size_in_lem (cell_size t z) n d h l, size_in_lem (boundary_size t z) n d h l)

-- sizes of a zone that meets 25 are at most 2,147,483,647
zone_permitted : (t : Tree) (z : ℕ) → role t z ≡ Zone → value_lawful t z ≡ true → zone_value t z ≡ true
unfolding value_lawful row
zone_permitted t z e h = rw e at h

module _ (t : Tree) (z : ℕ) (e : role t z ≡ Zone) (v : value_lawful t z ≡ true) (d : ℕ) (h : d < index_dimension t z) where
  permitted : permitted_in t z d ≡ true
  permitted = every_at (permitted_in t z) (index_dimension t z) 0 d (sym (zone-value-is t z) ∙ zone_permitted t z e v) (omega arith) (omega arith)

  in_range_lem : (a : Bool) (n c w : ℕ) → cond a (structured_in n c w) (unstructured_in n c w) ≡ true → (n ≤ 2147483647) × (c ≤ 2147483647)
  in_range_lem true n c w p =
      let q = and_first (leb 2 n && leb n 2147483647 && eqb (c + 1) n) _ p in
      let l = leb-true n 2147483647 (and_second (leb 2 n) _ (and_first (leb 2 n && leb n 2147483647) _ q)) in
      let f = eqb-true (c + 1) n (and_second (leb 2 n && leb n 2147483647) _ q) in
      (l, omega arith)
  in_range_lem false n c w p =
      let q = and_first (leb 1 n && leb n 2147483647 && leb c 2147483647) _ p in (
        leb-true n 2147483647 (and_second (leb 1 n) _ (and_first (leb 1 n && leb n 2147483647) _ q)),
        leb-true c 2147483647
            (and_second (leb 1 n && leb n 2147483647) _ q),
      )

  pub size_bounds : (vertex_size t z d ≤ 2147483647) × (cell_size t z d ≤ 2147483647)
  unfolding structured_sizes unstructured_sizes
  size_bounds = in_range_lem (structured t z) (vertex_size t z d) (cell_size t z d) (boundary_size t z d) permitted

-- VertexSize, or CellSize for CellCenter, as they are read
module _ (t : Tree) (p : ℕ) {z n : ℕ} {r : List ℕ} (f : z ≡ parent t p) (g : n ≡ index_dimension t (parent t p)) where
  pub inner_vertex : cell_centred t p ≡ false → r ≡ directions (λ k. number t z (0 + k)) n → r ≡ directions (inner_size t p) (index_dimension t (parent t p))
  unfolding vertex_size
  inner_vertex e h = h ∙ rw (f, g, e)

  pub inner_cell : cell_centred t p ≡ true → r ≡ directions (λ k. number t z (n + k)) n → r ≡ directions (inner_size t p) (index_dimension t (parent t p))
  unfolding cell_size
  inner_cell e h = h ∙ rw (f, g, e)

pub inner_small : (t : Tree) (p : ℕ) → role t (parent t p) ≡ Zone → value_lawful t (parent t p) ≡ true → (d : ℕ) → d < index_dimension t (parent t p)
    → inner_size t p d ≤ 2147483647
inner_small t p e v d h = by_test (cell_centred t p) (size_bounds t (parent t p) e v d h)
  where
    by_test : (a : Bool) → (vertex_size t (parent t p) d ≤ 2147483647) × (cell_size t (parent t p) d ≤ 2147483647)
        → cond a (cell_size t (parent t p) d) (vertex_size t (parent t p) d) ≤ 2147483647
    by_test true l = l.1
    by_test false l = l.0

-- the sizes in the directions that the zone has are the zone's
pub data_sizes_are : (t : Tree) (p : ℕ) → index_dimension t (parent t p) ≤ 3
    → take (index_dimension t (parent t p)) (directions (data_size t p) (index_dimension t (parent t p))) ≡ sizes_by_zone t p
unfolding sizes_by_zone data_sizes_from
data_sizes_are t p l = of (index_dimension t (parent t p)) l
  where
    of : (n : ℕ) → n ≤ 3 → take n (directions (data_size t p) n) ≡ data_sizes_from t p n 0
    of zero h = refl
    of (suc zero) h = refl
    of (suc (suc zero)) h = refl
    of (suc (suc (suc zero))) h = refl
    of (suc (suc (suc (suc n)))) h = absurd (omega arith)
