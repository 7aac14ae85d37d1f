-- what readers of the room need: the nodes of the tree in which an addition is judged, by the room's bytes and by what is added.
use Prim.Native.Nat.{ℕ, zero, suc, ◌+◌, ◌*◌, ◌<◌}
use mathlib.Core.Path.{◌≡◌, refl, sym, ap, ◌∙◌}
use mathlib.Core.List.{List, [], ◌∷◌, append-nil}
use lib.ListN.{length, take, drop, replicate, length-replicate, get_or-append}
use lib.Seq.{drop_at, get_or_at, drop-drop}
use Rattle.writer_model.specs.declared.Writer.{Writer}
use Rattle.model.specs.Bytes.{numbers, le}
use Rattle.model.specs.Image.{Node, node_of, nodes_of, node, name, parent, dimensions, record_at}
use Rattle.model.specs.Bytes.{all_bytes}
use Rattle.writer_model.specs.Writer.{Addition, added_node, tree_with}
use Rattle.writer_model.specs.Claims.{IsWords}
use Rattle.model.proofs.Reading.{nodes_of-at}
use Rattle.writer_model.proofs.WrittenNumbers.{numbers-written}

nodes_of-length : (n : ℕ) (s : List ℕ) → length (nodes_of n s) ≡ n
unfolding nodes_of
nodes_of-length zero s = refl
nodes_of-length (suc n) s = rw (nodes_of-length n (drop 84 s))

module _ (s : Writer) (a : Addition) (room : List ℕ) where
  pub earlier-node : (j : ℕ) → j < s.node → node (tree_with s a room) j ≡ node_of (drop (record_at j) room)
  unfolding node tree_with
  earlier-node j h =
      get_or-append (nodes_of s.node (drop 32 room)) (added_node s a ∷ []) (node_of []) j (rw (nodes_of-length s.node (drop 32 room)) h)
      ∙ nodes_of-at s.node (drop 32 room) j h
      ∙ ap node_of (drop-drop (84 * j) 32 room)

  pub earlier-name : (j : ℕ) → j < s.node → name (tree_with s a room) j ≡ take 32 (drop (record_at j) room)
  unfolding name node_of
  earlier-name j h = ap (λ (n : Node). n.name) (earlier-node j h)

  pub earlier-parent : (j : ℕ) → j < s.node → parent (tree_with s a room) j ≡ le 4 (drop (record_at j + 72) room)
  unfolding parent node_of
  earlier-parent j h = ap (λ (n : Node). n.parent) (earlier-node j h) ∙ ap (le 4) (drop-drop 72 (record_at j) room)

  pub added_node_lem : node (tree_with s a room) s.node ≡ added_node s a
  unfolding node tree_with
  added_node_lem = get_or_at (nodes_of s.node (drop 32 room)) (added_node s a) [] (node_of []) s.node (nodes_of-length s.node (drop 32 room))

  pub added_parent : parent (tree_with s a room) s.node ≡ a.parent
  unfolding parent added_node
  added_parent = ap (λ (n : Node). n.parent) added_node_lem

  pub added_dimensions : IsWords a.dimensions → dimensions (tree_with s a room) s.node ≡ a.dimensions
  unfolding dimensions tree_with added_node
  added_dimensions h =
      rw (added_node_lem, drop_at (replicate (8 * s.word) 0) (all_bytes 8 a.dimensions) (8 * s.word) (length-replicate {A = ℕ} (8 * s.word) 0))
      (ap (numbers 8 (length a.dimensions)) (sym (append-nil (all_bytes 8 a.dimensions))) ∙ numbers-written 8 a.dimensions [] h)
