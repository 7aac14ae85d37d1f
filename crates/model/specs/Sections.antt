-- Handing out: the section entries of a zone.
use Rattle.std.specs.Prelude.{ℕ, ◌+◌, ◌/◌, cond, List, [], ◌∷◌, ◌++◌, length, leb}
use Rattle.model.specs.declared.Section.{Section}
use Rattle.model.specs.Lists.{list_from, over}
use Rattle.model.specs.Rules.{◌unless◌, Answer, Check, check, ◌then◌, ◌gives◌, leaves}
use Rattle.model.specs.Image.{Tree, tree_of, node, width}
use Rattle.model.specs.Containment.{is_zone, section_of, found}
use Rattle.model.specs.Values.{offsets_of, connectivity_of}
use Rattle.model.specs.Elements.{element_type_of, first_element, last_element, connectivity_length, parents_of}
use Rattle.model.specs.Validation.{image_check}

-- the zone's validated sections, in node order
unfoldable pub section_nodes : Tree → ℕ → List ℕ
section_nodes t z = list_from (section_of t z) t.count 0

-- where a node's data start, counted from the image's start; 0 where the node is absent
unfoldable pub data_start : Tree → ℕ → ℕ
data_start t j = cond (found t j) (t.area_at + (node t j).data_at) 0

-- node, type, first, last, offset place and width, connectivity place and width, connectivity length, parents place and width
unfoldable pub entry : Tree → ℕ → Section
entry t s =
    record {
      node = s;
      element_type = element_type_of t s;
      first = first_element t s;
      last = last_element t s;
      offsets_at = data_start t (offsets_of t s);
      offsets_width = width t (offsets_of t s);
      connectivity_at = data_start t (connectivity_of t s);
      connectivity_width = width t (connectivity_of t s);
      connectivity_length = connectivity_length t s;
      parents_at = data_start t (parents_of t s);
      parents_width = width t (parents_of t s);
    }

unfoldable pub entries : Tree → List ℕ → List Section
entries t [] = []
entries t (s ∷ rest) = entry t s ∷ entries t rest

unfoldable pub section_entries : Tree → ℕ → List Section
section_entries t z = entries t (section_nodes t z)

-- an entry as flat numbers, and a list of them
abbrev pub entry_length : ℕ
entry_length = 11

unfoldable pub entry_numbers : Section → List ℕ
entry_numbers e =
    e.node
    ∷ e.element_type
    ∷ e.first
    ∷ e.last
    ∷ e.offsets_at
    ∷ e.offsets_width
    ∷ e.connectivity_at
    ∷ e.connectivity_width
    ∷ e.connectivity_length
    ∷ e.parents_at
    ∷ e.parents_width
    ∷ []

unfoldable pub all_numbers : List Section → List ℕ
all_numbers [] = []
all_numbers (e ∷ rest) = entry_numbers e ++ all_numbers rest

-- the verdict's refusal, then 40, then 46; room counts entries
unfoldable pub sections_check : List ℕ → ℕ → ℕ → Check
sections_check b z room =
    image_check b then check 0 (40 unless is_zone (tree_of b) z ∷ 46 unless leb (length (section_nodes (tree_of b) z)) room ∷ [])

-- the count is answered
unfoldable pub sections_answer : List ℕ → ℕ → ℕ → Answer ℕ
sections_answer b z room = sections_check b z room gives length (section_nodes (tree_of b) z)

-- the lent list of entries, and the lent flat numbers: filled in node order, the rest unchanged
unfoldable pub sections_memory : List ℕ → ℕ → List Section → List Section
sections_memory b z out = leaves (sections_check b z (length out)) out (over out (section_entries (tree_of b) z))

unfoldable pub section_numbers_memory : List ℕ → ℕ → List ℕ → List ℕ
section_numbers_memory b z out =
    leaves (sections_check b z (length out / entry_length)) out (over out (all_numbers (section_entries (tree_of b) z)))
