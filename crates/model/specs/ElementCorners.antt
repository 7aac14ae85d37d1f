-- Handing out: all corners of an element in one call, on any entry and any image, with no verdict first: 41, then 43, then 46.
use Rattle.std.specs.Prelude.{ℕ, ◌-◌, List, [], ◌∷◌, length, leb, ℤ}
use Rattle.model.specs.declared.Section.{Section}
use Rattle.model.specs.Lists.{over}
use Rattle.model.specs.Rules.{◌unless◌, Answer, Check, check, ◌gives◌, leaves}
use Rattle.model.specs.Corner.{in_entry, entry_size, readable, corner_number}
use Rattle.model.specs.ReadList.{values_from}

-- 41 and 43 are the corner reader's; 46: the lent memory has no room for all corners
unfoldable pub element_corners_check : List ℕ → Section → ℕ → ℕ → Check
element_corners_check b e el room =
    check 0
    (41 unless in_entry e el
    ∷ 43 unless readable b e (el - e.first)
    ∷ 46 unless leb (entry_size b e (el - e.first)) room
    ∷ [])

-- the element's size is answered
unfoldable pub element_corners_answer : List ℕ → Section → ℕ → ℕ → Answer ℕ
element_corners_answer b e el room = element_corners_check b e el room gives entry_size b e (el - e.first)

-- the lent memory: the corners from 1 on, the rest unchanged
unfoldable pub element_corners_memory : List ℕ → Section → ℕ → List ℤ → List ℤ
element_corners_memory b e el out =
    leaves (element_corners_check b e el (length out)) out
    (over out (values_from (corner_number b e (el - e.first)) (entry_size b e (el - e.first)) 1))
