-- What an answer tells of: the entries that are due, and how many.
use Rattle.std.specs.Prelude.{ℕ, ◌≤◌, ◌<◌, ◌≡◌, List, [], ◌∷◌, length, leb, Result, Ok, Err}
use Rattle.model.specs.declared.Rejection.{Rejection}
use Rattle.model.specs.Rules.{◌unless◌, Check, check}
use Rattle.model.specs.Image.{Tree, tree_of, node_count}
use Rattle.model.specs.Containment.{is_zone}
use Rattle.model.specs.Given.{Accepted}
use Rattle.model.specs.Sections.{section_nodes}
use Rattle.index.specs.Index.{Index}

-- n entries of the zone are to be written, in a list of room places
pub record EntriesDue (b index : List ℕ) (z room n : ℕ) : Type 0 where
  pub few : n ≤ room
  pub index_where : 0 < n → Index b index
  pub accepted_where : 0 < n → Accepted b
  pub zone_where : 0 < n → z < node_count b
  pub all_where : 0 < n → n ≡ length (section_nodes (tree_of b) z)

-- rule 40, then 46; room counts entries
unfoldable pub zone_check : Tree → ℕ → ℕ → Check
zone_check t z room = check 0 (40 unless is_zone t z ∷ 46 unless leb (length (section_nodes t z)) room ∷ [])

-- how many entries an answer says are written: none where it is a refusal
abbrev pub answered_count : Result ℕ Rejection → ℕ
answered_count (Ok n) = n
answered_count (Err r) = 0
