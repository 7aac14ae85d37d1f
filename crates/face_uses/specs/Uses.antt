-- Uses of a zone's faces, as the functions here tell them: bytes that are lent, each with a bit for each sign.
use Rattle.std.specs.Prelude.{ℕ, ◌≤◌, ◌<◌, ◌≡◌, Bool, true, List, get_or, drop, Option, Result, Ok, Err}
use Rattle.model.specs.declared.Rejection.{Rejection}
use Rattle.model.specs.Bytes.{negative, magnitude}
use Rattle.model.specs.Rules.{Answer, rejected, answer}
use Rattle.model.specs.Image.{Tree, tree_of, node_count, parent, width, number}
use Rattle.model.specs.Given.{Accepted}
use Rattle.model.specs.Values.{connectivity_of}
use Rattle.model.specs.Elements.{reference, face_number, face_of}
use Rattle.model.specs.Corner.{number_at}
use Rattle.model.specs.FaceUsage.{face_count, face_place, unused, uses_in}
use Rattle.rows.specs.declared.Row.{Row}
use Rattle.rows.specs.Rows.{Numbers}
use Rattle.ranges.specs.Tables.{Found}
use Rattle.ranges.specs.SearchTree.{Built}
use Rattle.usage_bytes.specs.Marks.{sign_of, after_use}
use Rattle.face_uses.specs.declared.uses.Faces.{Faces}
use Rattle.face_places.specs.ZoneSections.{Cells}
use Rattle.face_places.specs.Ranges.{Ranges}

-- the tables hold the faces of a zone, and there is room for a byte a face
pub record Tables (b : List ℕ) (f : Faces) (firsts reach places : List ℕ) (out : ℕ) : Type 0 where
  pub accepted : Accepted b
  pub ranges : Ranges (tree_of b) f.zone (node_count b) firsts reach places f.count
  pub tree : Built f.tree
  pub room : face_count (tree_of b) f.zone ≤ out

-- what a search among n entries for the magnitude of number k of a row finds
abbrev pub FoundFor : List ℕ → Row → ℕ → List ℕ → List ℕ → ℕ → Option ℕ → Type 0
FoundFor b row k firsts reach n r =
    let f = magnitude row.width (number_at b row.at row.width k) in Found firsts reach n f f r

-- what the reference x of w bytes does to the bytes
pub record UsedAt (t : Tree) (z w x : ℕ) (bytes : List ℕ) (free : Bool) (after : List ℕ) : Type 0 where
  pub tells : free ≡ unused (sign_of (negative w x)) (get_or bytes (face_place t z (magnitude w x)) 0)
  pub leaves : after ≡ after_use free (sign_of (negative w x)) (face_place t z (magnitude w x)) bytes

-- what a stage tells of a run of uses: the bytes that it left, or its rejection
abbrev pub used : Result (Unit {0}) Rejection → List ℕ → Answer (List ℕ)
used (Ok u) bytes = answer bytes
used (Err r) bytes = rejected r

-- it tells the run, and bytes after the zone's faces are as they were
pub record Used (faces : ℕ) (run : Answer (List ℕ)) (bytes : List ℕ) (r : Result (Unit {0}) Rejection) (after : List ℕ) : Type 0 where
  pub tells : run ≡ used r after
  pub rest : drop faces after ≡ drop faces bytes

-- the row of the n numbers of node j
pub record RowOf (b : List ℕ) (j n : ℕ) (r : Row) : Type 0 where
  pub long : r.n ≡ n
  pub numbers : Numbers b r.at r.width r.n
  pub wide : width (tree_of b) j ≡ r.width
  pub stored : (k : ℕ) → k < n → number (tree_of b) j k ≡ number_at b r.at r.width k

-- number k of a row is reference k of cell section s, to a face of zone z
pub record Reference (b index : List ℕ) (z s : ℕ) (r : Row) (k : ℕ) : Type 0 where
  pub cells : Cells b index s
  pub zone : parent (tree_of b) s ≡ z
  pub wide : width (tree_of b) (connectivity_of (tree_of b) s) ≡ r.width
  pub stored : reference (tree_of b) s k ≡ number_at b r.at r.width k
  pub face : face_of (tree_of b) z (face_number (tree_of b) s k) ≡ true

-- the row of the references that node s brings to zone z
pub record References (b index : List ℕ) (z s : ℕ) (r : Row) : Type 0 where
  pub numbers : Numbers b r.at r.width r.n
  pub long : r.n ≡ uses_in (tree_of b) z s
  pub each : (k : ℕ) → k < r.n → Reference b index z s r k
