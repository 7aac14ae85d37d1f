-- An image from a description of its nodes, laid out as document 01 says. The worked cases are written with it.
use Rattle.std.specs.Prelude.{ℕ, ◌+◌, ◌*◌, ◌-◌, List, [], ◌∷◌, ◌++◌, length, take, replicate}
use Prim.Native.String.{String}
use Rattle.model.specs.Bytes.{le_bytes, all_bytes, text}
use Rattle.model.specs.Image.{header_size, record_size}

-- −x as the bits of an I4
abbrev pub minus : ℕ → ℕ
minus x = 4294967296 - x

-- a text in 32 bytes, padded right with blanks
abbrev pub field : String → List ℕ
field s = take 32 (text s ++ replicate 32 32)

-- a node: name, label, data type, dimensions, parent, data bytes
pub data Plan : Type 0 where
  plan : String → String → String → List ℕ → ℕ → List ℕ → Plan

-- the records, from a first word w and a data offset p on; the dimension words; the data
abbrev pub plan_records : ℕ → ℕ → List Plan → List ℕ
plan_records w p [] = []
plan_records w p (plan n l y ds up xs ∷ rest) =
    field n ++ field l ++ text y ++ le_bytes 2 (length ds) ++ le_bytes 4 w ++ le_bytes 4 up ++ le_bytes 4 p ++ le_bytes 4 (length xs)
    ++ plan_records (w + length ds) (p + length xs) rest

abbrev pub plan_words : List Plan → List ℕ
plan_words [] = []
plan_words (plan n l y ds up xs ∷ rest) = ds ++ plan_words rest

abbrev pub plan_data : List Plan → List ℕ
plan_data [] = []
plan_data (plan n l y ds up xs ∷ rest) = xs ++ plan_data rest

-- the eight header words of n nodes, d dimension words and x data bytes
abbrev pub header_words : ℕ → ℕ → ℕ → List ℕ
header_words n d x =
    let words = header_size + record_size * n in
    1 ∷ (words + 8 * d + x) ∷ n ∷ header_size ∷ words ∷ d ∷ (words + 8 * d) ∷ x ∷ []

abbrev pub image : List Plan → List ℕ
image ns =
    let d = plan_words ns in
    let x = plan_data ns in
    all_bytes 4 (header_words (length ns) (length d) (length x)) ++ plan_records 0 0 ns ++ all_bytes 8 d ++ x
