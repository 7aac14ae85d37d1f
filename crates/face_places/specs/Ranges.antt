-- A zone's faces by ranges, in ascending order: entry j begins with face firsts[j], whose place is places[j].
use Rattle.std.specs.Prelude.{ℕ, ◌<◌, ◌≡◌, true, List, length, get_or}
use Rattle.model.specs.Lists.{sum_before}
use Rattle.model.specs.Image.{Tree}
use Rattle.model.specs.Elements.{first_element, last_element, face_section}
use Rattle.model.specs.FaceUsage.{faces_in}
use Rattle.ranges.specs.Tables.{Gathered}

-- a face section before node i begins with this face, at this place: as many faces as earlier sections bring
pub record Begins (t : Tree) (z i first place : ℕ) : Type 0 where
  pub section : ℕ
  pub earlier : section < i
  pub brings : face_section t z section ≡ true
  pub first-is : first ≡ first_element t section
  pub place_is : place ≡ sum_before (faces_in t z) section

-- n entries are the face sections before node i; places[n] is how many faces they bring
pub record Ranges (t : Tree) (z i : ℕ) (firsts reach places : List ℕ) (n : ℕ) : Type 0 where
  pub gathered : Gathered (face_section t z) (first_element t) (last_element t) firsts reach n i
  pub begins : (j : ℕ) → j < n → Begins t z i (get_or firsts j 0) (get_or places j 0)
  pub distinct : (j k : ℕ) → j < n → k < n → get_or firsts j 0 ≡ get_or firsts k 0 → j ≡ k
  pub total : get_or places n 0 ≡ sum_before (faces_in t z) i
  pub room : n < length places
