-- Past the last node is a node of nothing: no number, no width.
use Prim.Native.Nat.{ℕ, zero, suc, ◌≤◌}
use mathlib.Core.Path.{◌≡◌, refl, ap}
use mathlib.Core.List.{List, []}
use lib.ListN.{length, drop, get_or-eq_default}
use Rattle.model.specs.Bytes.{le, numbers, text, spells, place_from}
use Rattle.model.specs.Image.{tree_of, node_count, node_of, nodes_of, node, dimensions, data_type_of, data_types, width, widths}
use Rattle.model.specs.Values.{size}

nodes-length : (n : ℕ) (s : List ℕ) → length (nodes_of n s) ≡ n
unfolding nodes_of
nodes-length zero s = refl
nodes-length (suc n) s = ap suc (nodes-length n (drop 84 s))

module _ (b : List ℕ) (j : ℕ) (h : node_count b ≤ j) where
  pub node_past : node (tree_of b) j ≡ node_of []
  unfolding node tree_of
  node_past = get_or-eq_default (nodes_of (node_count b) (drop 32 b)) (node_of []) (rw (nodes-length (node_count b) (drop 32 b)) h)

  pub absent_size : size (tree_of b) j ≡ 0
  unfolding size dimensions numbers node_of le
  absent_size = rw node_past

  pub absent_width : width (tree_of b) j ≡ 0
  unfolding width data_type_of node_of place_from data_types text spells widths
  absent_width = rw node_past
