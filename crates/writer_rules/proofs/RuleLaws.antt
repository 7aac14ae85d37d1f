-- What rules 9 to 17 say of a node that is added, by what is given of it and by the room's bytes.
use Prim.Native.Nat.{ℕ, suc, ◌+◌, ◌*◌, ◌-◌, ◌/◌, ◌%◌, ◌≤◌, ◌<◌}
use mathlib.Core.Path.{◌≡◌, refl, sym, ap, ◌∙◌}
use mathlib.Core.Bool.{Bool, true, false, cond, not, ◌&&◌}
use mathlib.Core.List.{List, [], ◌∷◌}
use native.Mathlib.Omega.{arith}
use lib.Dec.{eqb, leb}
use lib.ListN.{length, get_or, take, drop, length-append, length-replicate}
use lib.Seq.{take_all}
use borrow.Author.Tests.{eq-eqb, ne_eqb, le-leb, lt-leb, leb-true, leb-false}
use Rattle.writer_model.specs.declared.Writer.{Writer}
use Rattle.model.specs.Lists.{some_from, among}
use Rattle.model.specs.Bytes.{le, same, text, blank, spells, place_from}
use Rattle.model.specs.Image.{Node, record_at, name, label, data_type_of, data_types, width, widths, MT}
use Rattle.model.specs.Records.{printable, label_lawful, name_lawful, sibling, namesake, name_taken, link, rank_lawful, product, data_size_lawful}
use Rattle.writer_model.specs.After.{words_after, bytes_after}
use Rattle.table.specs.Groups.{is_within}
use Rattle.writer_model.specs.Writer.{Addition, padded, type_field, added_node, tree_with}
use Rattle.writer_model.specs.Claims.{Below, IsWords}
use Rattle.writer_model.proofs.TreeWith.{earlier-name, earlier-parent, added_node_lem, added_parent, added_dimensions}
use Rattle.model.proofs.Logic.{untrue}
use Rattle.model.proofs.Walks.{some_same}
use Rattle.texts.proofs.Laws.{no_zero_barred}
use Rattle.records.proofs.Codes.{two_bytes}

-- a data type's field: its two bytes, or none
module _ (s : List ℕ) where
  pub no_field : (length s ≡ 2 → ⊥)
      → (place_from 1 (type_field s) data_types ≡ place_from 1 (0 % 256 ∷ 0 / 256 ∷ []) data_types) × (same (type_field s) (text "LK") ≡ same (0 % 256 ∷ 0 / 256 ∷ []) (text "LK"))
  unfolding type_field place_from spells blank same data_types text
  no_field n = rw (ne_eqb (length s) 2 n) (refl, refl)

  pub field_of : (x y : ℕ) → length s ≡ 2 → x ≡ get_or s 0 0 → x < 256 → y ≡ get_or s 1 0 → type_field s ≡ (x + 256 * y) % 256 ∷ (x + 256 * y) / 256 ∷ []
  unfolding type_field
  field_of x y e f l g = rw (eq-eqb (length s) 2 e) (sym (take_all 2 s (omega arith)) ∙ two_bytes s 0 x y (omega arith) f l g)

-- a list of numbers of 64 bits
pub words_known : (s : List ℕ) → ((i : ℕ) → get_or s i 0 < 18446744073709551616) → IsWords s
unfolding Below
words_known [] h = tt
words_known (x ∷ s) h = (h 0, words_known s (λ i. h (suc i)))

-- a text in its field: a longer one has none, and is unlawful
module _ (s : List ℕ) (z : ℕ) where
  pub long-text : 32 < length s → (label_lawful (padded s) && not (among z (padded s))) ≡ false
  unfolding padded label_lawful printable
  long-text h = rw (lt-leb (length s) 32 h)

  pub short-text : (label_lawful (padded s) && not (among z (padded s))) ≡ true → length s ≤ 32
  short-text e = by_test (leb (length s) 32) refl
    where
      by_test : (t : Bool) → leb (length s) 32 ≡ t → length s ≤ 32
      by_test true f = leb-true (length s) 32 f
      by_test false f = untrue (sym (long-text (leb-false (length s) 32 f)) ∙ e)

pub field-length : (s : List ℕ) → length s ≤ 32 → length (padded s) ≡ 32
unfolding padded
field-length s h = rw (le-leb (length s) 32 h, length-append, length-replicate {A = ℕ} (32 - length s) 32) (omega arith)

-- record j in the room has this parent and this name
abbrev pub namesake_in : List ℕ → ℕ → List ℕ → ℕ → Bool
namesake_in u up room j = eqb (le 4 (drop (record_at j + 72) room)) up && same (take 32 (drop (record_at j) room)) u

-- the node that is added, in the tree of it and of the records before it
module _ (s : Writer) (a : Addition) (room : List ℕ) where
  module _ {u : List ℕ} (e : a.data_type ≡ u) where
    pub added_link : link (tree_with s a room) s.node ≡ same (type_field u) (text "LK")
    unfolding link added_node
    added_link = rw (added_node_lem s a room, e)

    pub added_type : data_type_of (tree_with s a room) s.node ≡ place_from 1 (type_field u) data_types
    unfolding data_type_of added_node
    added_type = rw (added_node_lem s a room, e)

  pub added_rank : {k n : ℕ} → data_type_of (tree_with s a room) s.node ≡ k → length a.dimensions ≡ n
      → rank_lawful (tree_with s a room) s.node ≡ cond (eqb k MT) (eqb n 0) (is_within n 1 12)
  unfolding rank_lawful added_node
  added_rank e f = rw (e, added_node_lem s a room, f)

  pub added_words : {n : ℕ} → length a.dimensions ≡ n → words_after (tree_with s a room) s.word s.node ≡ leb (s.word + n) s.words
  unfolding tree_with added_node
  added_words e = rw (added_node_lem s a room, eq-eqb s.word s.word refl, e)

  pub added_bytes : {n : ℕ} → length a.bytes ≡ n → bytes_after (tree_with s a room) s.byte s.node ≡ leb (s.byte + n) s.bytes
  unfolding tree_with added_node
  added_bytes e = rw (added_node_lem s a room, eq-eqb s.byte s.byte refl, e)

  pub added_size : {k n : ℕ} {u : List ℕ} → data_type_of (tree_with s a room) s.node ≡ k → a.dimensions ≡ u → length a.bytes ≡ n → IsWords u
      → data_size_lawful (tree_with s a room) s.node ≡ (not (among 0 u) && eqb (product u * get_or widths k 0) n)
  unfolding data_size_lawful width added_node
  added_size e f g h = rw (added_dimensions s a room (rw f h), e, added_node_lem s a room, f, g)

  added_name : name (tree_with s a room) s.node ≡ padded a.name
  unfolding name added_node
  added_name = ap (λ (x : Node). x.name) (added_node_lem s a room)

  added_label : label (tree_with s a room) s.node ≡ padded a.label
  unfolding label added_node
  added_label = ap (λ (x : Node). x.label) (added_node_lem s a room)

  pub named : {u : List ℕ} → a.name ≡ u → name_lawful (name (tree_with s a room) s.node) ≡ (label_lawful (padded u) && not (among 47 (padded u)))
  unfolding name_lawful
  named e = rw (added_name, e)

  pub labelled : {u : List ℕ} → a.label ≡ u → label_lawful (label (tree_with s a room) s.node) ≡ (label_lawful (padded u) && not (among 0 (padded u)))
  labelled {u} e = rw (added_label, e) (sym (no_zero_barred (padded u)))

  pub taken_is : {u : List ℕ} {up : ℕ} → padded a.name ≡ u → a.parent ≡ up → some_from (namesake_in u up room) s.node 0 ≡ name_taken (tree_with s a room) s.node
  unfolding name_taken namesake sibling
  taken_is {u} {up} e f = some_same (namesake_in u up room) (namesake (tree_with s a room) s.node) s.node 0 λ j l h.
      rw (earlier-parent s a room j (omega arith), earlier-name s a room j (omega arith), added_parent s a room, added_name, e, f)
