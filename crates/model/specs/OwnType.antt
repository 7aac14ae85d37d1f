-- Handing out: an element's own type, on any entry and any image, with no verdict first: 41, then 43.
use Rattle.std.specs.Prelude.{ℕ, ◌-◌, List, [], ◌∷◌}
use Rattle.model.specs.declared.Section.{Section}
use Rattle.model.specs.Rules.{◌unless◌, Answer, Check, check, ◌gives◌}
use Rattle.model.specs.Elements.{own_type}
use Rattle.model.specs.Corner.{in_entry, layout_in, readable}

-- 41 and 43 are the corner reader's
unfoldable pub own_type_check : List ℕ → Section → ℕ → Check
own_type_check b e el = check 0 (41 unless in_entry e el ∷ 43 unless readable b e (el - e.first) ∷ [])

-- the number that an element of a MIXED section begins with, else the section's type
unfoldable pub own_type_answer : List ℕ → Section → ℕ → Answer ℕ
own_type_answer b e el = own_type_check b e el gives own_type (layout_in b e) (el - e.first)
