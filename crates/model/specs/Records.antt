-- Rules 7 to 18: the node records, and what is left over after them. They read no data bytes.
use Rattle.std.specs.Prelude.{ℕ, zero, suc, ◌+◌, ◌*◌, Bool, true, cond, not, ◌&&◌, List, [], ◌∷◌, get_or, eqb, leb, ltb}
use Rattle.model.specs.Lists.{some_from, sum_before, among}
use Rattle.model.specs.Bytes.{same, text}
use Rattle.model.specs.Rules.{Rule, ◌unless◌, Check, check, check_from, Answer, ◌then◌, ◌gives◌}
use Rattle.model.specs.Image.{Tree, tree_of, node, name, label, parent, dimensions, data_type_of, width, MT}
use Rattle.model.specs.Header.{header_check}

abbrev pub no_parent : ℕ
no_parent = 4294967295

-- 7: the root's parent is 4294967295, every other parent is a lower number
unfoldable pub parent_lawful : Tree → ℕ → Bool
parent_lawful t i = cond (eqb i 0) (eqb (parent t i) no_parent) (ltb (parent t i) i)

-- 8: depth over d; the root's is 0
unfoldable pub deeper_than : Tree → ℕ → ℕ → Bool
deeper_than t zero i = not (eqb i 0)
deeper_than t (suc d) i = let above = deeper_than t d (parent t i) in not (eqb i 0) && above

abbrev pub max_depth : ℕ
max_depth = 32

-- 9, 10: bytes 32 to 126, the first byte not a blank; a name has no slash
unfoldable pub printable : List ℕ → Bool
printable [] = true
printable (x ∷ s) = let rest = printable s in leb 32 x && leb x 126 && rest

unfoldable pub label_lawful : List ℕ → Bool
label_lawful s = printable s && not (eqb (get_or s 0 32) 32)

unfoldable pub name_lawful : List ℕ → Bool
name_lawful s = label_lawful s && not (among 47 s)

-- 11: an earlier sibling has the name
unfoldable pub sibling : Tree → ℕ → ℕ → Bool
sibling t i j = eqb (parent t j) (parent t i)

unfoldable pub namesake : Tree → ℕ → ℕ → Bool
namesake t i j = sibling t i j && same (name t j) (name t i)

unfoldable pub name_taken : Tree → ℕ → Bool
name_taken t i = some_from (namesake t i) i 0

-- 12: a link
unfoldable pub link : Tree → ℕ → Bool
link t i = same (node t i).data_type (text "LK")

-- 14: MT has dimension count 0, any other type 1 to 12
unfoldable pub rank_lawful : Tree → ℕ → Bool
rank_lawful t i = cond (eqb (data_type_of t i) MT) (eqb (node t i).rank 0) (leb 1 (node t i).rank && leb (node t i).rank 12)

-- 15: the first word is the sum over the records before, and no word lies past D
unfoldable pub words_before : Tree → ℕ → ℕ
words_before t i = sum_before (λ j. (node t j).rank) i

unfoldable pub words_lawful : Tree → ℕ → Bool
words_lawful t i = eqb (node t i).first_word (words_before t i) && leb (words_before t i + (node t i).rank) t.word_total

-- 16: no dimension is 0, and product × width is the data length; MT has width 0, so length 0
unfoldable pub product : List ℕ → ℕ
product [] = 1
product (d ∷ ds) = d * product ds

unfoldable pub data_size_lawful : Tree → ℕ → Bool
data_size_lawful t i = not (among 0 (dimensions t i)) && eqb (product (dimensions t i) * width t i) (node t i).data_size

-- 17: the data offset is the sum over the records before, and no byte lies past the area
unfoldable pub bytes_before : Tree → ℕ → ℕ
bytes_before t i = sum_before (λ j. (node t j).data_size) i

unfoldable pub data_at_lawful : Tree → ℕ → Bool
data_at_lawful t i = eqb (node t i).data_at (bytes_before t i) && leb (bytes_before t i + (node t i).data_size) t.byte_total

unfoldable pub record_rules : Tree → ℕ → List Rule
record_rules t i =
    7 unless parent_lawful t i
    ∷ 8 unless not (deeper_than t max_depth i)
    ∷ 9 unless name_lawful (name t i)
    ∷ 10 unless label_lawful (label t i)
    ∷ 11 unless not (name_taken t i)
    ∷ 12 unless not (link t i)
    ∷ 13 unless ltb 0 (data_type_of t i)
    ∷ 14 unless rank_lawful t i
    ∷ 15 unless words_lawful t i
    ∷ 16 unless data_size_lawful t i
    ∷ 17 unless data_at_lawful t i
    ∷ []

unfoldable pub record_check_at : Tree → ℕ → Check
record_check_at t i = check i (record_rules t i)

unfoldable pub record_check : Tree → Check
record_check t = check_from (record_check_at t) t.count 0

-- 18: no trailing words and no trailing data bytes
unfoldable pub nothing_trails : Tree → Bool
nothing_trails t = eqb (words_before t t.count) t.word_total && eqb (bytes_before t t.count) t.byte_total

unfoldable pub trailing_check : Tree → Check
trailing_check t = check t.count (18 unless nothing_trails t ∷ [])

-- rules 1 to 18: header, records, leftovers
unfoldable pub table_check : List ℕ → Check
table_check b = header_check b then record_check (tree_of b) then trailing_check (tree_of b)

-- what the check of rules 1 to 18 tells: N, D and the data length
pub record TableCounts : Type 0 where
  pub nodes : ℕ
  pub dimensions : ℕ
  pub bytes : ℕ

unfoldable pub table_counts : Tree → TableCounts
table_counts t = record { nodes = t.count; dimensions = t.word_total; bytes = t.byte_total }

unfoldable pub table_answer : List ℕ → Answer TableCounts
table_answer b = table_check b gives table_counts (tree_of b)
