-- Before the first use nothing is matched, after the last one no cell is to come; marks that are taken away leave the bytes as they were.
use Prim.Native.Nat.{ℕ, ◌+◌, ◌-◌, ◌/◌, ◌<◌}
use mathlib.Core.Path.{◌≡◌, ap, ◌∙◌}
use mathlib.Core.List.{List, []}
use native.Mathlib.Omega.{arith}
use native.Mathlib.Decide.{dec_lt}
use lib.ListN.{get_or}
use lib.Seq.{get_or-drop, ext_get_or}
use Rattle.model.specs.Image.{tree_of, node_count}
use Rattle.model.specs.Given.{Accepted}
use Rattle.model.specs.FaceUsage.{face_count, face_place}
use Rattle.model.specs.ParentElements.{users, stored_parents, face_agrees}
use Rattle.usage_bytes.specs.ParentMarks.{Unmarked}
use Rattle.face_places.proofs.Accepted.{place_is}
use Rattle.agreement.specs.Matching.{Matching, Signs, users_on}
use Rattle.agreement.proofs.RunLaws.{users-none}
use Rattle.agreement.proofs.Settling.{agree-settles}
use Rattle.agreement.proofs.Steps.{matching_same, has-face}

module _ {b : List ℕ} {z : ℕ} {bytes : List ℕ} where
  pub matching_start : Accepted b → ((p : ℕ) → p < face_count (tree_of b) z → get_or bytes p 0 < 4) → Matching b z (users_on (tree_of b) z 0) bytes
  unfolding face_agrees users users_on
  matching_start a few =
      record {
        each =
            λ s f h p r.
            let e : (tree_of b).count - 0 ≡ (tree_of b).count = omega arith in
            let x : get_or bytes (face_place (tree_of b) z f) 0 / 4 ≡ 0 = omega (arith, few _ (place_is a z s f h (has-face a z s f p r)).1) in
            rw (e, x) (agree-settles (stored_parents (tree_of b) s f) (users (tree_of b) z f));
      }

  pub matching_end : Matching b z (users_on (tree_of b) z (node_count b)) bytes → Matching b z (λ (f : ℕ). []) bytes
  unfolding tree_of
  matching_end m = matching_same (λ f. users-none (tree_of b) z (node_count b) f (omega arith)) m

pub restored : {faces n : ℕ} {bytes now after : List ℕ} → n ≡ faces → ((p : ℕ) → p < faces → get_or bytes p 0 < 4) → Signs faces bytes now → Unmarked n now after → after ≡ bytes
restored {faces} {n} {bytes} {now} {after} q few s u = ext_get_or 0 after bytes (u.long ∙ s.long) (λ p l. each p)
  where
    each : (p : ℕ) → get_or after p 0 ≡ get_or bytes p 0
    each p =
        elim (dec_lt p faces) [
          | yes l ↦ u.front p (omega arith) ∙ s.signs p ∙ (let h = few p l in omega arith)
          | no l ↦
              let e : faces + (p - faces) ≡ p = omega arith in
              u.rest p (omega arith)
              ∙ (rw (get_or-drop faces now (p - faces) 0, get_or-drop faces bytes (p - faces) 0, e) at (ap (λ (xs : List ℕ). get_or xs (p - faces) 0) s.beyond))
        ]
