-- A node record written and read again.
use Prim.Native.Nat.{ℕ, ◌+◌, ◌≤◌, ◌<◌}
use mathlib.Core.Path.{◌≡◌, sym, ap, ◌∙◌}
use mathlib.Core.List.{List, ◌++◌, append_assoc}
use native.Mathlib.Omega.{arith}
use lib.ListN.{length, take, drop, length-append, length-drop}
use lib.Seq.{drop-drop, take-add, take_at, drop_at}
use Rattle.model.specs.Bytes.{le}
use Rattle.model.specs.Image.{Node, node_of}
use Rattle.model.specs.Bytes.{le_bytes}
use Rattle.writer_model.specs.Writer.{record_bytes}
use Rattle.writer_model.specs.Claims.{IsBytes}
use Rattle.model.proofs.LittleEndian.{length-le_bytes, le-written}
use Rattle.writer_model.proofs.WrittenNumbers.{written-le, bytes_drop}

-- what a record can hold
pub record Fits (n : Node) : Type 0 where
  pub name_fits : length n.name ≡ 32
  pub label_fits : length n.label ≡ 32
  pub type_fits_lem : length n.data_type ≡ 2
  pub rank_fits : n.rank < 65536
  pub word_fits : n.first_word < 4294967296
  pub parent_fits : n.parent < 4294967296
  pub data_at_fits : n.data_at < 4294967296
  pub data_size_fits : n.data_size < 4294967296

pub same-node : {n l y n' l' y' : List ℕ} {r w p a z r' w' p' a' z' : ℕ}
    → n ≡ n' → l ≡ l' → y ≡ y' → r ≡ r' → w ≡ w' → p ≡ p' → a ≡ a' → z ≡ z'
    → ◌≡◌ {A = Node} (record { name = n; label = l; data_type = y; rank = r; first_word = w; parent = p; data_at = a; data_size = z })
    (record { name = n'; label = l'; data_type = y'; rank = r'; first_word = w'; parent = p'; data_at = a'; data_size = z' })
same-node a b c d e f g h = cc

module _ (n : Node) where
  pub record_length : Fits n → length (record_bytes n) ≡ 84
  unfolding record_bytes
  record_length f = simp (length-append, length-le_bytes) (omega (arith, f.name_fits, f.label_fits, f.type_fits_lem))

  -- the eight fields, one after the other
  record_parts : (s : List ℕ) → record_bytes n ++ s
      ≡ n.name ++ (n.label ++ (n.data_type ++ (le_bytes 2 n.rank ++ (le_bytes 4 n.first_word ++ (le_bytes 4 n.parent ++ (le_bytes 4 n.data_at ++ (le_bytes 4 n.data_size ++ s)))))))
  unfolding record_bytes
  record_parts s = simp append_assoc

  -- a record is read as the node that it was written from
  pub node-written : Fits n → (s : List ℕ) → node_of (record_bytes n ++ s) ≡ n
  unfolding node_of
  node-written f s =
      same-node (ap (take 32) e ∙ take_at n.name s1 32 f.name_fits) (ap (take 32) d1 ∙ take_at n.label s2 32 f.label_fits)
      (ap (take 2) d2 ∙ take_at n.data_type s3 2 f.type_fits_lem)
      (ap (le 2) d3 ∙ le-written 2 n.rank s4 f.rank_fits)
      (ap (le 4) d4 ∙ le-written 4 n.first_word s5 f.word_fits)
      (ap (le 4) d5 ∙ le-written 4 n.parent s6 f.parent_fits)
      (ap (le 4) d6 ∙ le-written 4 n.data_at s7 f.data_at_fits)
      (ap (le 4) d7 ∙ le-written 4 n.data_size s f.data_size_fits)
    where
      b : List ℕ
      b = record_bytes n ++ s

      s7 : List ℕ
      s7 = le_bytes 4 n.data_size ++ s

      s6 : List ℕ
      s6 = le_bytes 4 n.data_at ++ s7

      s5 : List ℕ
      s5 = le_bytes 4 n.parent ++ s6

      s4 : List ℕ
      s4 = le_bytes 4 n.first_word ++ s5

      s3 : List ℕ
      s3 = le_bytes 2 n.rank ++ s4

      s2 : List ℕ
      s2 = n.data_type ++ s3

      s1 : List ℕ
      s1 = n.label ++ s2

      e : b ≡ n.name ++ s1
      e = record_parts s

      next : (k m : ℕ) (p q : List ℕ) → drop k b ≡ p ++ q → length p ≡ m → drop (k + m) b ≡ q
      next k m p q d l = sym (drop-drop m k b) ∙ ap (drop m) d ∙ drop_at p q m l

      d1 : drop 32 b ≡ s1
      d1 = next 0 32 n.name s1 e f.name_fits

      d2 : drop 64 b ≡ s2
      d2 = next 32 32 n.label s2 d1 f.label_fits

      d3 : drop 66 b ≡ s3
      d3 = next 64 2 n.data_type s3 d2 f.type_fits_lem

      d4 : drop 68 b ≡ s4
      d4 = next 66 2 (le_bytes 2 n.rank) s4 d3 (length-le_bytes 2 n.rank)

      d5 : drop 72 b ≡ s5
      d5 = next 68 4 (le_bytes 4 n.first_word) s5 d4 (length-le_bytes 4 n.first_word)

      d6 : drop 76 b ≡ s6
      d6 = next 72 4 (le_bytes 4 n.parent) s6 d5 (length-le_bytes 4 n.parent)

      d7 : drop 80 b ≡ s7
      d7 = next 76 4 (le_bytes 4 n.data_at) s7 d6 (length-le_bytes 4 n.data_at)

-- a record's bytes are those that its node is written to
pub record_read : (s : List ℕ) → IsBytes s → 84 ≤ length s → record_bytes (node_of s) ≡ take 84 s
unfolding record_bytes node_of
record_read s h l =
    rw (word 2 66 (omega arith), word 4 68 (omega arith), word 4 72 (omega arith), word 4 76 (omega arith), word 4 80 (omega arith))
    (rw (← take-add 32 32 s, ← take-add 64 2 s, ← take-add 66 2 s, ← take-add 68 4 s, ← take-add 72 4 s, ← take-add 76 4 s) (sym (take-add 80 4 s)))
  where
    word : (w k : ℕ) → k + w ≤ length s → le_bytes w (le w (drop k s)) ≡ take w (drop k s)
    word w k g = written-le w (drop k s) (bytes_drop k s h) (rw length-drop (omega arith))
