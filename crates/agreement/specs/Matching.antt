-- Uses matched with parents, one after the other: in the bits above the signs a face's byte tells which of its parents are matched.
use Rattle.std.specs.Prelude.{ℕ, suc, ◌+◌, ◌-◌, ◌/◌, ◌%◌, ◌<◌, ◌≡◌, Bool, true, false, cond, List, [], ◌∷◌, ◌++◌, eqb, ltb, length, get_or, drop}
use Rattle.model.specs.Image.{Tree, tree_of, node_count}
use Rattle.model.specs.Elements.{in_range}
use Rattle.model.specs.FaceUsage.{face_count, face_place, uses_in}
use Rattle.model.specs.ParentElements.{FaceParents, stored_parents, users_in, users_from, face_agrees, has_parents, all_agree}
use Rattle.model.specs.Corner.{number_at}
use Rattle.rows.specs.declared.Row.{Row}
use Rattle.usage_bytes.specs.ParentMarks.{matched, complete}

-- from these marks on each use by a cell is matched with a parent, and in the end each parent is
unfoldable pub settles : FaceParents → ℕ → List ℕ → Bool
settles p marks [] = complete (eqb p.second 0) marks
settles p marks (c ∷ cells) =
    let more = matched (eqb p.first c) (eqb p.second c) marks in
    let rest = settles p (marks + more) cells in
    cond (ltb 0 more) rest false

-- the parents of face d of n, counted from 0, are matched: their bytes begin at `place`
unfoldable pub complete_at : List ℕ → Row → ℕ → ℕ → List ℕ → ℕ → Bool
complete_at b row n place bytes d = complete (eqb (number_at b row.at row.width (n + d)) 0) (get_or bytes (place + d) 0 / 4)

-- bytes whose marks, with the cells that are still to come for each face, settle whether it agrees
pub record Matching (b : List ℕ) (z : ℕ) (left : ℕ → List ℕ) (bytes : List ℕ) : Type 0 where
  pub each : (s f : ℕ) → s < node_count b → has_parents (tree_of b) z s ≡ true → in_range (tree_of b) s f ≡ true
      → face_agrees (tree_of b) z s f ≡ settles (stored_parents (tree_of b) s f) (get_or bytes (face_place (tree_of b) z f) 0 / 4) (left f)

-- the signs are as they were, and so is what stands after the zone's faces
pub record Signs (faces : ℕ) (bytes after : List ℕ) : Type 0 where
  pub long : length after ≡ length bytes
  pub signs : (p : ℕ) → get_or after p 0 % 4 ≡ get_or bytes p 0 % 4
  pub beyond : drop faces after ≡ drop faces bytes

-- what an answer tells after a part of the uses: true, and they are matched; false, and a face does not agree
pub record Matched (b : List ℕ) (z : ℕ) (all left : ℕ → List ℕ) (bytes : List ℕ) (r : Bool) (after : List ℕ) : Type 0 where
  pub kept : Signs (face_count (tree_of b) z) bytes after
  pub on : r ≡ true → Matching b z all bytes → Matching b z left after
  pub off : r ≡ false → Matching b z all bytes → all_agree (tree_of b) z ≡ false

-- the cells to come with one more, which uses face g
abbrev pub with_user : ℕ → ℕ → (ℕ → List ℕ) → ℕ → List ℕ
with_user g c left f = cond (eqb g f) (c ∷ left f) (left f)

-- those of the entries of section s from entry k on and of the nodes after it; those of the nodes from s on
unfoldable pub users_after : Tree → ℕ → ℕ → ℕ → ℕ → List ℕ
users_after t z s k f = users_in t f s (uses_in t z s - k) k ++ users_from t z f (t.count - suc s) (suc s)

unfoldable pub users_on : Tree → ℕ → ℕ → ℕ → List ℕ
users_on t z s f = users_from t z f (t.count - s) s
