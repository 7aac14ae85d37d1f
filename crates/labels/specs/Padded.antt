-- Texts as fields of 32 bytes: the known ones.
use Rattle.std.specs.Prelude.{ℕ, zero, suc, ◌*◌, ◌-◌, ◌≤◌, ◌<◌, ◌≡◌, Bool, ◌&&◌, List, [], ◌∷◌, ◌++◌, eqb, drop, get_or}
use Rattle.model.specs.Bytes.{le, text}
use Rattle.model.specs.Containment.{known_labels}

-- a text padded right with blanks to n bytes
abbrev pub pad : ℕ → List ℕ → List ℕ
pad zero x = []
pad (suc n) [] = 32 ∷ pad n []
pad (suc n) (y ∷ x) = y ∷ pad n x

-- word j of a text's field
unfoldable pub field_word : List ℕ → ℕ → ℕ
field_word x j = le 8 (drop (8 * j) (pad 32 x))

-- the known names: those that a node must have, or is looked up by
unfoldable pub known_names : List (List ℕ)
known_names =
    text "CGNSLibraryVersion"
    ∷ text "ZoneType"
    ∷ text "Rind"
    ∷ text "GridLocation"
    ∷ text "ElementRange"
    ∷ text "ElementConnectivity"
    ∷ text "ElementStartOffset"
    ∷ text "PointRange"
    ∷ text "PointList"
    ∷ text "ParentElements"
    ∷ []

-- the known labels, and after them the known names
unfoldable pub known_texts : List (List ℕ)
known_texts = known_labels ++ known_names

-- the words after the first one of text k
abbrev pub rest_is : ℕ → ℕ → ℕ → ℕ → Bool
rest_is k second third fourth =
    eqb second (field_word (get_or known_texts k []) 1) && (eqb third (field_word (get_or known_texts k []) 2) && eqb fourth (field_word (get_or known_texts k []) 3))

-- the known label of this number, from 1, begins with this word, and no other does; 0 where none does
pub record Begins (word n : ℕ) : Type 0 where
  pub inside : n ≤ 14
  pub is : 0 < n → word ≡ field_word (get_or known_texts (n - 1) []) 0
  pub only : (k : ℕ) → k < 14 → word ≡ field_word (get_or known_texts k []) 0 → suc k ≡ n
