-- What the rules say of a node that is added: its fields have their sizes, and its record, its words and its data have room.
use Prim.Native.Nat.{ℕ, ◌+◌, ◌-◌, ◌≤◌, ◌<◌}
use mathlib.Core.Path.{◌≡◌, refl, subst}
use mathlib.Core.Bool.{Bool, true, false, cond, not, ◌&&◌}
use mathlib.Core.List.{List, [], ◌++◌}
use native.Mathlib.Omega.{arith}
use lib.ListN.{length, replicate, length-append, length-replicate}
use lib.Dec.{eqb, leb, ltb}
use borrow.Author.Tests.{leb-true, ltb-true, eqb-true}
use Rattle.model.specs.Lists.{among}
use Rattle.model.specs.Bytes.{place_from, spells, text}
use Rattle.model.specs.Image.{Node, Tree, node, name, label, parent, data_type_of, data_types, MT}
use Rattle.model.specs.Records.{no_parent, parent_lawful, printable, label_lawful, name_lawful, rank_lawful}
use Rattle.model.proofs.Logic.{untrue, and_first, and_second}
use Rattle.model.proofs.Passed.{Hold}
use Rattle.writer_model.specs.declared.Writer.{Writer}
use Rattle.writer_model.specs.Writer.{Addition, padded, type_field, added_node, addition_rules}
use Rattle.writer_model.proofs.RecordBytes.{Fits}

-- a text that is lawful has its 32 bytes, a type that is known its two
pub padded-length : (s : List ℕ) → label_lawful (padded s) ≡ true → length (padded s) ≡ 32
unfolding padded label_lawful printable
padded-length s = by_test (leb (length s) 32) refl
  where
    by_test : (t : Bool) → leb (length s) 32 ≡ t → label_lawful (cond t (s ++ replicate (32 - length s) 32) []) ≡ true → length (cond t (s ++ replicate (32 - length s) 32) []) ≡ 32
    by_test true e h = let l = leb-true (length s) 32 e in rw (length-append s (replicate (32 - length s) 32), length-replicate {A = ℕ} (32 - length s) 32) (omega arith)
    by_test false e h = untrue h

pub type-length : (s : List ℕ) → ltb 0 (place_from 1 (type_field s) data_types) ≡ true → length (type_field s) ≡ 2
unfolding type_field place_from data_types spells text
type-length s = by_test (eqb (length s) 2) refl
  where
    by_test : (t : Bool) → eqb (length s) 2 ≡ t → ltb 0 (place_from 1 (cond t s []) data_types) ≡ true → length (cond t s []) ≡ 2
    by_test true e h = eqb-true (length s) 2 e
    by_test false e h = untrue h

rank-small : (t : Tree) (i : ℕ) → rank_lawful t i ≡ true → (node t i).rank ≤ 12
unfolding rank_lawful
rank-small t i = by_test (eqb (data_type_of t i) MT)
  where
    by_test : (u : Bool) → cond u (eqb (node t i).rank 0) (leb 1 (node t i).rank && leb (node t i).rank 12) ≡ true → (node t i).rank ≤ 12
    by_test true h = let e = eqb-true (node t i).rank 0 h in omega arith
    by_test false h = leb-true _ _ (and_second (leb 1 (node t i).rank) _ h)

parent-small : (t : Tree) (i : ℕ) → i < 4294967296 → parent_lawful t i ≡ true → parent t i < 4294967296
unfolding parent_lawful
parent-small t i l = by_test (eqb i 0)
  where
    by_test : (u : Bool) → cond u (eqb (parent t i) no_parent) (ltb (parent t i) i) ≡ true → parent t i < 4294967296
    by_test true h = let e = eqb-true (parent t i) no_parent h in omega arith
    by_test false h = let e = ltb-true (parent t i) i h in omega arith

pub record Parts (s : Writer) (a : Addition) : Type 0 where
  pub name-size : length (padded a.name) ≡ 32
  pub label-size : length (padded a.label) ≡ 32
  pub type-size : length (type_field a.data_type) ≡ 2
  pub rank-small : length a.dimensions ≤ 12
  pub words-room : s.word + length a.dimensions ≤ s.words
  pub bytes-room : s.byte + length a.bytes ≤ s.bytes

pub fits : {s : Writer} {a : Addition} → Parts s a → a.parent < 4294967296 → s.word < 4294967296 → s.byte + length a.bytes < 4294967296 → Fits (added_node s a)
unfolding added_node
fits {s} {a} q p w b =
    let r = q.rank-small in
    record {
      name_fits = q.name-size;
      label_fits = q.label-size;
      type_fits_lem = q.type-size;
      rank_fits = omega (arith, r);
      word_fits = w;
      parent_fits = p;
      data_at_fits = omega (arith, b);
      data_size_fits = omega (arith, b);
    }

module _ (t : Tree) (s : Writer) (a : Addition) (e : node t s.node ≡ added_node s a) (w : t.word_total ≡ s.words) (x : t.byte_total ≡ s.bytes)
    (h : Hold (addition_rules t s)) where
  pub parts : Parts s a
  unfolding addition_rules added_node name label parent data_type_of name_lawful
  parts =
      let k = s.node in
      let n9 : label_lawful (padded a.name) ≡ true = subst (λ (z : Node). label_lawful z.name ≡ true) e (and_first (label_lawful (node t k).name) (not (among 47 (node t k).name)) h.1.1.1.0) in
      let n10 : label_lawful (padded a.label) ≡ true = subst (λ (z : Node). label_lawful z.label ≡ true) e h.1.1.1.1.0 in
      let n13 : ltb 0 (place_from 1 (type_field a.data_type) data_types) ≡ true = subst (λ (z : Node). ltb 0 (place_from 1 z.data_type data_types) ≡ true) e h.1.1.1.1.1.1.1.0 in
      let n15 : s.word + length a.dimensions ≤ t.word_total = subst (λ (z : Node). s.word + z.rank ≤ t.word_total) e (leb-true (s.word + (node t k).rank) t.word_total (and_second (eqb (node t k).first_word s.word) _ h.1.1.1.1.1.1.1.1.1.0)) in
      let n17 : s.byte + length a.bytes ≤ t.byte_total = subst (λ (z : Node). s.byte + z.data_size ≤ t.byte_total) e (leb-true (s.byte + (node t k).data_size) t.byte_total (and_second (eqb (node t k).data_at s.byte) _ h.1.1.1.1.1.1.1.1.1.1.1.0)) in
      record {
        name-size = padded-length a.name n9;
        label-size = padded-length a.label n10;
        type-size = type-length a.data_type n13;
        rank-small = subst (λ (z : Node). z.rank ≤ 12) e (rank-small t k h.1.1.1.1.1.1.1.1.0);
        words-room = omega (arith, n15, w);
        bytes-room = omega (arith, n17, x);
      }

  pub parent_fits : s.node < 4294967296 → a.parent < 4294967296
  unfolding addition_rules added_node parent
  parent_fits few = subst (λ (z : Node). z.parent < 4294967296) e (parent-small t s.node few h.1.0)
