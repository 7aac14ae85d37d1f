-- Handing out: face usage (document 01: the face ledger), a byte for each face of a zone: 0 unused, 1 positive only, 2 negative only, 3 both.
use Rattle.std.specs.Prelude.{ℕ, zero, suc, ◌+◌, ◌-◌, ◌/◌, ◌%◌, Bool, cond, ◌&&◌, List, [], ◌∷◌, length, get_or, set, replicate, eqb, leb, ltb}
use Rattle.model.specs.Lists.{sum_before, seek_from, over}
use Rattle.model.specs.Bytes.{negative}
use Rattle.model.specs.Rules.{◌unless◌, Answer, rejected, answer, repetition, Check, check, ◌then◌, ◌into◌, leaves}
use Rattle.model.specs.Image.{Tree, tree_of, parent, width}
use Rattle.model.specs.Containment.{is_zone, section_of}
use Rattle.model.specs.Values.{connectivity_of}
use Rattle.model.specs.Elements.{NFACE, element_type_of, first_element, element_count, element_start, connectivity_length, reference, face_section, section_with_face, face_number}
use Rattle.model.specs.Validation.{image_check}

-- the faces that a node brings to the zone, and F
unfoldable pub faces_in : Tree → ℕ → ℕ → ℕ
faces_in t z s = cond (face_section t z s) (element_count t s) 0

unfoldable pub face_count : Tree → ℕ → ℕ
face_count t z = sum_before (faces_in t z) t.count

-- a face's place among them, counted from 0: by section node, then number
unfoldable pub face_place : Tree → ℕ → ℕ → ℕ
face_place t z f =
    let s = section_with_face t z f in
    sum_before (faces_in t z) s + (f - first_element t s)

-- entry k of a section uses a face, with a sign
unfoldable pub use_place : Tree → ℕ → ℕ → ℕ
use_place t s k = face_place t (parent t s) (face_number t s k)

unfoldable pub use_sign : Tree → ℕ → ℕ → ℕ
use_sign t s k = cond (negative (width t (connectivity_of t s)) (reference t s k)) 2 1

-- the element whose entries hold entry k
unfoldable pub ends_after : Tree → ℕ → ℕ → ℕ → Bool
ends_after t s k j = ltb k (element_start t s (suc j))

unfoldable pub element_holding : Tree → ℕ → ℕ → ℕ
element_holding t s k = first_element t s + seek_from (ends_after t s k) (element_count t s) 0

-- the face's byte with one more use; 45 where it was used with that sign before
unfoldable pub unused : ℕ → ℕ → Bool
unused sign byte = eqb (byte / sign % 2) 0

unfoldable pub use_entry : Tree → ℕ → ℕ → List ℕ → Answer (List ℕ)
use_entry t s k bytes =
    let p = use_place t s k in
    cond (unused (use_sign t s k) (get_or bytes p 0))
    (answer (set bytes p (get_or bytes p 0 + use_sign t s k)))
    (rejected (repetition s (element_holding t s k)))

-- n entries of section s from entry k on
unfoldable pub use_entries : Tree → ℕ → ℕ → ℕ → List ℕ → Answer (List ℕ)
use_entries t s zero k bytes = answer bytes
use_entries t s (suc n) k bytes = use_entry t s k bytes into λ later. use_entries t s n (suc k) later

-- the entries that a node brings: all of a type 23 section
unfoldable pub uses_in : Tree → ℕ → ℕ → ℕ
uses_in t z s = cond (section_of t z s && eqb (element_type_of t s) NFACE) (connectivity_length t s) 0

-- n nodes from node s on
unfoldable pub use_nodes : Tree → ℕ → ℕ → ℕ → List ℕ → Answer (List ℕ)
use_nodes t z zero s bytes = answer bytes
use_nodes t z (suc n) s bytes = use_entries t s (uses_in t z s) 0 bytes into λ later. use_nodes t z n (suc s) later

-- the first repeat in node and entry order is 45
unfoldable pub usage : Tree → ℕ → Answer (List ℕ)
usage t z = use_nodes t z t.count 0 (replicate (face_count t z) 0)

-- the verdict's refusal, then 40, 44, 45; F is answered
unfoldable pub usage_check : List ℕ → ℕ → ℕ → Check
usage_check b z room =
    image_check b then check 0 (40 unless is_zone (tree_of b) z ∷ 44 unless leb (face_count (tree_of b) z) room ∷ [])

unfoldable pub usage_answer : List ℕ → ℕ → ℕ → Answer ℕ
usage_answer b z room = usage_check b z room then usage (tree_of b) z into λ bytes. answer (face_count (tree_of b) z)

-- on 45 the first F bytes are 0; bytes beyond F never change
unfoldable pub usage_bytes : ℕ → Answer (List ℕ) → List ℕ
usage_bytes faces (rejected r) = replicate faces 0
usage_bytes faces (answer bytes) = bytes

unfoldable pub usage_memory : List ℕ → ℕ → List ℕ → List ℕ
usage_memory b z out =
    leaves (usage_check b z (length out)) out (over out (usage_bytes (face_count (tree_of b) z) (usage (tree_of b) z)))

-- the positive and the negative uses that the bytes tell of
unfoldable pub positive_uses : List ℕ → ℕ
positive_uses [] = 0
positive_uses (x ∷ rest) = x % 2 + positive_uses rest

unfoldable pub negative_uses : List ℕ → ℕ
negative_uses [] = 0
negative_uses (x ∷ rest) = x / 2 % 2 + negative_uses rest

-- the zone's type 23 connectivity lengths summed
unfoldable pub cell_entries : Tree → ℕ → ℕ
cell_entries t z = sum_before (uses_in t z) t.count
