-- The nodes of a table and of an image by their records, and an image's tree as that of its table.
use Prim.Native.Nat.{ℕ, ◌+◌, ◌*◌, ◌≤◌, ◌<◌}
use mathlib.Core.Path.{◌≡◌, refl, sym, ap, ◌∙◌}
use mathlib.Core.List.{List}
use native.Mathlib.Omega.{arith}
use lib.ListN.{get_or, drop, length-drop}
use lib.Seq.{drop-drop}
use Rattle.model.specs.Bytes.{le}
use Rattle.model.specs.Image.{Node, node_of, tree_of, node_count, word_count, node, parent, dimensions}
use Rattle.model.specs.Bounds.{Laid}
use Rattle.model.proofs.Reading.{nodes_of-at, numbers-at}
use Rattle.model.proofs.SameNodes.{same-parent}
use Rattle.records.specs.declared.TableSize.{TableSize}
use Rattle.records.specs.Table.{table_tree, records_of, all_records, size_of, TableLaid}

node_of_lem : (s : List ℕ) (size : TableSize) (i : ℕ) → i < size.nodes → node (table_tree s size) i ≡ node_of (drop (84 * i) s)
unfolding node table_tree
node_of_lem s size i h = nodes_of-at size.nodes s i h

-- a field of node i, where k bytes stand before it in the record
pub field : (s : List ℕ) (n i : ℕ) → i < n → {A : Type 0} (f : Node → A) (g : List ℕ → A) (k : ℕ) → ((r : List ℕ) → f (node_of r) ≡ g (drop k r))
    → f (node (records_of s n) i) ≡ g (drop (84 * i + k) s)
field s n i h f g k e = ap f (node_of_lem s _ i h) ∙ e (drop (84 * i) s) ∙ ap g (drop-drop k (84 * i) s)

-- a table has a node as its records have it
pub table-node : (s : List ℕ) (size : TableSize) (i : ℕ) → i < size.nodes → size.nodes ≤ 4096 → node (all_records s) i ≡ node (table_tree s size) i
table-node s size i h l = node_of_lem s _ i (omega arith) ∙ sym (node_of_lem s size i h)

-- dimension k of node i of n records
pub dimension_in : (s : List ℕ) (n i k : ℕ) → k < (node (records_of s n) i).rank
    → get_or (dimensions (records_of s n) i) k 0 ≡ le 8 (drop (84 * n + 8 * (node (records_of s n) i).first_word + 8 * k) s)
unfolding dimensions table_tree
dimension_in s n i k h =
    let q = 8 * (node (records_of s n) i).first_word in
    numbers-at 8 (node (records_of s n) i).rank k (drop q (drop (84 * n) s)) h
    ∙ ap (le 8) (ap (drop (8 * k)) (drop-drop q (84 * n) s) ∙ drop-drop (8 * k) (84 * n + q) s)

module _ (b : List ℕ) (l : Laid b) where
  -- an image's tree is that of its table
  pub table-tree : tree_of b ≡ table_tree (drop 32 b) (size_of b)
  unfolding tree_of table_tree
  table-tree =
      let e : 32 + (84 * node_count b + 8 * word_count b) ≡ 32 + 84 * node_count b + 8 * word_count b = omega arith in
      rw (l.words-at, l.data_at_lem, drop-drop (84 * node_count b) 32 b, drop-drop (84 * node_count b + 8 * word_count b) 32 b, e)

  pub table-laid : TableLaid (drop 32 b) (size_of b)
  table-laid = record { few = l.few; few_words = l.few_words; room = rw length-drop (omega (arith, l.data_at_lem, l.whole)) }

-- an image's nodes and dimensions, where s is its table, with n records
pub image-node : {b : List ℕ} (i : ℕ) → Laid b × (i < node_count b) → {s : List ℕ} → s ≡ drop 32 b → node (all_records s) i ≡ node (tree_of b) i
image-node {b} i h e = rw (e, table-tree b h.0) (table-node (drop 32 b) (size_of b) i h.1 h.0.few)

pub image_records : (b : List ℕ) → Laid b → (i : ℕ) → {s : List ℕ} {n : ℕ} → s ≡ drop 32 b → n ≡ node_count b
    → (node (records_of s n) i ≡ node (tree_of b) i) × (dimensions (records_of s n) i ≡ dimensions (tree_of b) i)
unfolding node dimensions table_tree
image_records b l i e f = rw (e, f, table-tree b l) (refl, refl)
