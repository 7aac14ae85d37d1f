-- DataSize under a node: by a conforming PointRange, by a conforming PointList, by the zone.
use Prim.Native.Nat.{ℕ, ◌≤◌, ◌<◌}
use mathlib.Core.Path.{◌≡◌, refl, sym, ap, ◌∙◌}
use mathlib.Core.Bool.{Bool, true, false, and-true, and-false}
use mathlib.Core.List.{List, [], ◌∷◌}
use lib.Dec.{eqb}
use lib.ListN.{length, get_or}
use borrow.Author.Tests.{lt-ltb, le-ltb, eqb-false}
use Rattle.model.specs.Lists.{row}
use Rattle.model.specs.Bytes.{text, same}
use Rattle.model.specs.Image.{Tree, tree_of, node_count, node, parent, dimensions, I4, I8}
use Rattle.model.specs.Containment.{role, found, GridCoordinates, FlowSolution, IndexRange, IndexArray}
use Rattle.model.specs.Values.{typed, shaped, flat, size, type_lawful, value_lawful, conforming, zone_above, range_shape, list_shape, list_count}
use Rattle.model.specs.Values.{point_range_of, point_list_of, points, sizes_by_zone, data_sizes}
use Rattle.model.proofs.Logic.{untrue, and_second}
use Rattle.model.proofs.Reading.{rank_is}
use Rattle.model.proofs.Conforming.{conforming-type, conforming-value, conforming-parent, conforming-role}
use Rattle.labels.proofs.Fields.{same_not}
use Rattle.types.proofs.StoredNumbers.{flat-is, shaped-is}
use Rattle.sids.specs.Given.{UnderZone}
use Rattle.points.specs.Given.{TypedRange}

-- one size
module _ (t : Tree) (i x : ℕ) where
  pub one_size : flat t i ≡ true → eqb (get_or (dimensions t i) 0 0) x ≡ shaped t i (x ∷ [])
  unfolding shaped same size
  one_size e = rw (flat-is t i e) (sym (and-true (eqb (get_or (dimensions t i) 0 0) x)))

  pub other_size : flat t i ≡ false → false ≡ shaped t i (x ∷ [])
  unfolding shaped flat
  other_size e = sym (same_not (dimensions t i) (x ∷ []) (eqb-false (length (dimensions t i)) 1 e))

is_found : (b : List ℕ) (j : ℕ) → j < node_count b → found (tree_of b) j ≡ true
unfolding found tree_of
is_found b j h = lt-ltb j (node_count b) h

is_missing : (b : List ℕ) (j : ℕ) → node_count b ≤ j → found (tree_of b) j ≡ false
unfolding found tree_of
is_missing b j h = le-ltb j (node_count b) h

module _ (b : List ℕ) (p : ℕ) where
  -- which of the three
  pub by_range : point_range_of (tree_of b) p < node_count b → data_sizes (tree_of b) p ≡ points (tree_of b) (point_range_of (tree_of b) p) ∷ []
  unfolding data_sizes
  by_range h = rw (is_found b (point_range_of (tree_of b) p) h)

  pub by_list : node_count b ≤ point_range_of (tree_of b) p → point_list_of (tree_of b) p < node_count b
      → data_sizes (tree_of b) p ≡ list_count (tree_of b) (point_list_of (tree_of b) p) ∷ []
  unfolding data_sizes
  by_list h l = rw (is_missing b (point_range_of (tree_of b) p) h, is_found b (point_list_of (tree_of b) p) l)

  pub by_zone : node_count b ≤ point_range_of (tree_of b) p → node_count b ≤ point_list_of (tree_of b) p → data_sizes (tree_of b) p ≡ sizes_by_zone (tree_of b) p
  unfolding data_sizes
  by_zone h l = rw (is_missing b (point_range_of (tree_of b) p) h, is_missing b (point_list_of (tree_of b) p) l)

  -- a conforming PointRange of a flow solution
  module _ (z : UnderZone b p) (f : role (tree_of b) p ≡ FlowSolution) (h : point_range_of (tree_of b) p < node_count b) where
    pub range-typed : TypedRange b (point_range_of (tree_of b) p) × (value_lawful (tree_of b) (point_range_of (tree_of b) p) ≡ true)
    unfolding point_range_of zone_above
    range-typed =
        let t = tree_of b in
        let r = is_found b (conforming t p IndexRange (text "PointRange")) h in
        let e : parent t (conforming t p IndexRange (text "PointRange")) ≡ p = conforming-parent t p IndexRange (text "PointRange") r in (
          record {
            inside = h;
            above = rw e z.inside;
            based = rw e z.zone.based;
            flow = rw e f;
            range = conforming-role t p IndexRange (text "PointRange") r;
            type = conforming-type t p IndexRange (text "PointRange") r;
          },
          conforming-value t p IndexRange (text "PointRange") r,
        )

  -- a conforming PointList has two dimensions
  pub list_rank : point_list_of (tree_of b) p < node_count b → (node (tree_of b) (point_list_of (tree_of b) p)).rank ≡ 2
  unfolding point_list_of type_lawful list_shape row
  list_rank h =
      let t = tree_of b in
      let j = conforming t p IndexArray (text "PointList") in
      let r = is_found b j h in
      let g = rw (conforming-role t p IndexArray (text "PointList") r) at (conforming-type t p IndexArray (text "PointList") r) in
      sym (rank_is t j) ∙ ap length (shaped-is t j _ (and_second (eqb (role t (parent t j)) FlowSolution) _ (and_second (typed t j (I4 ∷ I8 ∷ [])) _ g)))

-- under coordinates neither conforms
module _ (t : Tree) (j : ℕ) (p : role t (parent t j) ≡ GridCoordinates) where
  no_range : role t j ≡ IndexRange → type_lawful t j ≡ false
  unfolding type_lawful range_shape row
  no_range r = rw (r, p) (and-false (typed t j (I4 ∷ I8 ∷ [])))

  no_list : role t j ≡ IndexArray → type_lawful t j ≡ false
  unfolding type_lawful list_shape row
  no_list r = rw (r, p) (and-false (typed t j (I4 ∷ I8 ∷ [])))

module _ (t : Tree) (p : ℕ) (e : role t p ≡ GridCoordinates) where
  none_conforms : (r : ℕ) (n : List ℕ) → ((j : ℕ) → role t (parent t j) ≡ GridCoordinates → role t j ≡ r → type_lawful t j ≡ false)
      → found t (conforming t p r n) ≡ false
  none_conforms r n f = by_test (found t (conforming t p r n)) refl
    where
      by_test : (c : Bool) → found t (conforming t p r n) ≡ c → c ≡ false
      by_test true q =
          untrue (sym (f _ (ap (role t) (conforming-parent t p r n q) ∙ e) (conforming-role t p r n q)) ∙ conforming-type t p r n q)
      by_test false q = refl

  pub coordinate_sizes : data_sizes t p ≡ sizes_by_zone t p
  unfolding data_sizes point_range_of point_list_of
  coordinate_sizes = rw (none_conforms IndexRange (text "PointRange") (no_range t), none_conforms IndexArray (text "PointList") (no_list t))
