-- Handing out: the parents of a face (document 02, §7), and whether the parents that a zone's face sections store agree with its cells.
use Rattle.std.specs.Prelude.{ℕ, zero, suc, ◌-◌, Bool, false, cond, ◌&&◌, ◌||◌, List, [], ◌∷◌, ◌++◌, eqb}
use Rattle.model.specs.Lists.{◌⊃◌, some_from, every_from}
use Rattle.model.specs.Rules.{◌unless◌, Answer, answer, Check, check, ◌then◌, ◌gives◌, ◌into◌, leaves}
use Rattle.model.specs.Image.{Tree, tree_of}
use Rattle.model.specs.Containment.{is_zone, found}
use Rattle.model.specs.Elements.{first_element, element_count, face_section, face_of, section_with_face, face_number, parents_of, first_parent, second_parent}
use Rattle.model.specs.Validation.{image_check}
use Rattle.model.specs.FaceUsage.{element_holding, uses_in, usage_answer, usage_memory}

pub record FaceParents : Type 0 where
  pub first : ℕ
  pub second : ℕ

-- the parents of face f, as section s stores them
unfoldable pub stored_parents : Tree → ℕ → ℕ → FaceParents
stored_parents t s f = record { first = first_parent t s (f - first_element t s); second = second_parent t s (f - first_element t s) }

-- the verdict's refusal, then 40, 41 for no face of the zone, 54 where its section has no such array
unfoldable pub parents_check : List ℕ → ℕ → ℕ → Check
parents_check b z f =
    let t = tree_of b in
    image_check b then check 0 (40 unless is_zone t z ∷ 41 unless face_of t z f ∷ 54 unless found t (parents_of t (section_with_face t z f)) ∷ [])

unfoldable pub parents_answer : List ℕ → ℕ → ℕ → Answer FaceParents
parents_answer b z f = parents_check b z f gives stored_parents (tree_of b) (section_with_face (tree_of b) z f) f

-- the cells that use face f, one for each use: in n entries of section s from entry k on, in n nodes from node s on, in the zone
unfoldable pub users_in : Tree → ℕ → ℕ → ℕ → ℕ → List ℕ
users_in t f s zero k = []
users_in t f s (suc n) k = let rest = users_in t f s n (suc k) in cond (eqb (face_number t s k) f) (element_holding t s k ∷ rest) rest

unfoldable pub users_from : Tree → ℕ → ℕ → ℕ → ℕ → List ℕ
users_from t z f zero s = []
users_from t z f (suc n) s = users_in t f s (uses_in t z s) 0 ++ users_from t z f n (suc s)

unfoldable pub users : Tree → ℕ → ℕ → List ℕ
users t z f = users_from t z f t.count 0

-- of a face used once its cell first and 0 second; of a face used twice both cells, in either order, one cell on both sides twice; a face of no cell agrees
-- with nothing, and a third use is 45
unfoldable pub agree : List ℕ → FaceParents → Bool
agree [] p = false
agree (c ∷ []) p = eqb p.first c && eqb p.second 0
agree (c ∷ d ∷ []) p = (eqb p.first c && eqb p.second d) || (eqb p.first d && eqb p.second c)
agree (c ∷ d ∷ e ∷ more) p = false

unfoldable pub face_agrees : Tree → ℕ → ℕ → ℕ → Bool
face_agrees t z s f = agree (users t z f) (stored_parents t s f)

-- the zone's face sections that have the array; every face in them agrees
unfoldable pub has_parents : Tree → ℕ → ℕ → Bool
has_parents t z s = face_section t z s && found t (parents_of t s)

unfoldable pub section_agrees : Tree → ℕ → ℕ → Bool
section_agrees t z s = has_parents t z s ⊃ every_from (face_agrees t z s) (element_count t s) (first_element t s)

unfoldable pub all_agree : Tree → ℕ → Bool
all_agree t z = every_from (section_agrees t z) t.count 0

-- the verdict's refusal, then 40, 54 where no section has the array; then face usage's 44 and 45
unfoldable pub agreement_check : List ℕ → ℕ → Check
agreement_check b z =
    image_check b then check 0 (40 unless is_zone (tree_of b) z ∷ 54 unless some_from (has_parents (tree_of b) z) (tree_of b).count 0 ∷ [])

unfoldable pub agreement_answer : List ℕ → ℕ → ℕ → Answer Bool
agreement_answer b z room = agreement_check b z then usage_answer b z room into λ faces. answer (all_agree (tree_of b) z)

-- the bytes of face usage, after yes and after no, and as face usage leaves them on 44 and 45; unchanged on 54
unfoldable pub agreement_memory : List ℕ → ℕ → List ℕ → List ℕ
agreement_memory b z out = leaves (agreement_check b z) out (usage_memory b z out)
