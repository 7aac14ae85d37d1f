-- The numbers that a node stores in one dimension, as a row of the image's bytes; the numbers of a range, and how many elements it has.
use Prim.Native.Nat.{ℕ, zero, suc, ◌+◌, ◌-◌, ◌≤◌, ◌<◌}
use mathlib.Core.Path.{◌≡◌, refl, sym, ap, ◌∙◌}
use mathlib.Core.Bool.{Bool, true, false}
use mathlib.Core.List.{List, []}
use native.Mathlib.Omega.{arith}
use lib.Dec.{ltb}
use Rattle.std.proofs.Common.{Option, Some, None}
use Rattle.std.specs.Option.{unwrap_or}
use Rattle.model.specs.Found.{if_below}
use Rattle.model.proofs.Found.{the_none}
use Rattle.types.proofs.Missing.{there}
use lib.ListN.{length, get_or, drop}
use borrow.Author.Tests.{lt-ltb, ltb-true, ltb-false}
use Rattle.model.specs.Bytes.{le, numbers}
use Rattle.model.specs.Image.{Tree, node_of, nodes_of, tree_of, node_count, word_count, node, number, dimensions}
use Rattle.model.specs.Given.{Sound}
use Rattle.model.specs.Containment.{found}
use Rattle.model.specs.Values.{size, range_of, offsets_of}
use Rattle.model.specs.Elements.{first_element, last_element, element_count}
use Rattle.model.specs.Corner.{number_at}
use Rattle.model.proofs.Bounds.{node-placed}
use Rattle.model.proofs.Reading.{rank_is}
use Rattle.types.proofs.StoredNumbers.{flat-is}
use Rattle.rows.specs.declared.Row.{Row}
use Rattle.rows.specs.Rows.{Numbers}
use Rattle.section_data.specs.Given.{Indexed, RowOf, SectionContext}
use Rattle.section_data.proofs.Stored.{stores_row, stores-number}

-- past the last node there are no dimensions
nodes_past : (n : ℕ) (s : List ℕ) (i : ℕ) → n ≤ i → get_or (nodes_of n s) i (node_of []) ≡ node_of []
unfolding nodes_of
nodes_past zero s i h = refl
nodes_past (suc n) s zero h = absurd (omega arith)
nodes_past (suc n) s (suc i) h = nodes_past n (drop 84 s) i (omega arith)

pub no_size : (b : List ℕ) (j : ℕ) → node_count b ≤ j → size (tree_of b) j ≡ 0
unfolding size dimensions node tree_of node_of le numbers
no_size b j h = rw (nodes_past (node_count b) (drop 32 b) j h)

-- the size of a node, or of a missing one
pub size_by : (b : List ℕ) (x : ℕ) (o : Option ℕ) {r : ℕ} → o ≡ if_below (node_count b) x
    → r ≡ size (tree_of b) (unwrap_or o (node_count b)) → r ≡ size (tree_of b) x
size_by b x None e f = f ∙ no_size b (node_count b) (omega arith) ∙ sym (no_size b x (the_none (sym e)))
size_by b x (Some j) e f = rw (there e).0 at f

-- a node with one dimension has its word
module _ {b : List ℕ} (s : Sound b) {j : ℕ} (a : Indexed b j) where
  pub one_word : (node (tree_of b) j).rank ≡ 1
  one_word = sym (rank_is (tree_of b) j) ∙ ap length (flat-is (tree_of b) j a.one_dimension)

  pub words_inside : (node (tree_of b) j).first_word + (node (tree_of b) j).rank ≤ word_count b
  words_inside = (node-placed b s.table j a.numbers.inside).words_in

-- conforming start offsets; there are some where their count is not 0
pub offsets_there : {b : List ℕ} {s : ℕ} → SectionContext b s → {j : ℕ} → j ≡ offsets_of (tree_of b) s → j < node_count b → Indexed b j
unfolding found tree_of
offsets_there {b} d e h = rw e (d.offsets (lt-ltb _ _ (rw e at h)))

pub offsets-found : (b : List ℕ) (j r n : ℕ) → r ≡ size (tree_of b) j → r ≡ n + 1 → j < node_count b
offsets-found b j r n e q = by_test (ltb j (node_count b)) refl
  where
    by_test : (t : Bool) → ltb j (node_count b) ≡ t → j < node_count b
    by_test true h = ltb-true j (node_count b) h
    by_test false h = absurd (omega (arith, no_size b j (ltb-false j (node_count b) h)))

-- the row of a node's numbers
module _ {b : List ℕ} (s : Sound b) {j : ℕ} {r : Row} (o : RowOf b j r) where
  pub row-numbers : Numbers b r.at r.width r.n
  row-numbers = rw (o.starts, o.wide, o.long) (stores_row s o.indexed.numbers)

  pub row_number : (k : ℕ) → k < r.n → number (tree_of b) j k ≡ number_at b r.at r.width k
  row_number k h = rw (o.starts, o.wide) (stores-number s o.indexed.numbers k (rw (← o.long) h))

-- the row of a node that was looked up
pub row_is : {b : List ℕ} {j : ℕ} → {k : ℕ} → j ≡ k → {r : Row} → RowOf b j r → RowOf b k r
row_is e o = rw e at o

-- the numbers of a range, read at its node
module _ (t : Tree) (s j w : ℕ) (e : j ≡ range_of t s) where
  pub first_by : w ≡ number t j 0 → w ≡ first_element t s
  unfolding first_element
  first_by h = rw (← e) h

  pub last_by : w ≡ number t j 1 → w ≡ last_element t s
  unfolding last_element
  last_by h = rw (← e) h

pub count_by : (t : Tree) (s : ℕ) {first last : ℕ} → first ≡ first_element t s → last ≡ last_element t s → last - first + 1 ≡ element_count t s
unfolding element_count
count_by t s p q = rw (p, q)
