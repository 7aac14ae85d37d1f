-- The refusals of the calls, in their order: those that the calls share, 40, 44 for usage, and those of the parents of a face.
use Prim.Native.Nat.{ℕ, ◌≤◌, ◌<◌}
use mathlib.Core.Path.{◌≡◌, refl, subst, sym, ap, ◌∙◌}
use mathlib.Core.Bool.{Bool, true, false}
use mathlib.Core.List.{List, [], ◌∷◌}
use lib.Dec.{leb}
use lib.ListN.{length}
use borrow.Author.Tests.{le-leb, lt-leb}
use Rattle.std.specs.Prelude.{Result, Ok, Err}
use Rattle.model.specs.declared.Rejection.{Rejection}
use Rattle.model.specs.Lists.{over}
use Rattle.model.specs.Rules.{Answer, Rule, ◌unless◌, Check, rejected, answer, rejection, passed, check, ◌then◌, ◌gives◌, ◌into◌, leaves}
use Rattle.model.specs.Answers.{tells, count_tells}
use Rattle.model.specs.Image.{tree_of}
use Rattle.model.specs.Containment.{is_zone, found}
use Rattle.model.specs.Elements.{face_of, section_with_face, parents_of}
use Rattle.model.specs.FaceUsage.{face_count, usage, usage_bytes, usage_check, usage_answer, usage_memory}
use Rattle.model.specs.Validation.{image_check}
use Rattle.model.specs.ParentElements.{stored_parents, parents_check, parents_answer}
use Rattle.model.proofs.Passed.{refused, check_pass, then-first, then-second, then-on, then-off}
use Rattle.model.proofs.Staging.{kept}
use Rattle.face_uses.specs.declared.uses.Faces.{Faces}

-- what holds of a value holds of an answer's
pub of_ok : {A : Type 0} (P : A → Type 0) {x : A} → P x → (y : A) → ◌≡◌ {A = Result A Rejection} (Ok x) (Ok y) → P y
of_ok P {x} p y e = subst P (let o : x ≡ y = cc in o) p

-- a check with its value, taken apart
gives_refused : {A : Type 0} (c : Check) (x : A) {why : Rejection} → rejected why ≡ (c gives x) → c ≡ rejected why
unfolding ◌gives◌ ◌then◌
gives_refused (rejected q) x {why} e = ap rejected (let o : q ≡ why = cc in o)
gives_refused (answer u) x e = refused e

gives_passed : {A : Type 0} (c : Check) {x y : A} → answer y ≡ (c gives x) → (c ≡ passed) × (y ≡ x)
unfolding ◌gives◌ ◌then◌
gives_passed (rejected q) e = refused (sym e)
gives_passed (answer u) {x} {y} e = (refl, let o : y ≡ x = cc in o)

stopped : (c : Check) (t : Bool) (rest : List Rule) {why : Rejection} → (c then check 0 (40 unless t ∷ [])) ≡ rejected why
    → (c then check 0 (40 unless t ∷ rest)) ≡ rejected why
unfolding ◌then◌ check
stopped (rejected q) t rest e = e
stopped (answer u) true rest e = refused (sym e)
stopped (answer u) false rest e = e

-- a zone of an accepted image
abbrev pub Zone : List ℕ → ℕ → ℕ → Type 0
Zone b z n = (image_check b ≡ passed) × ((is_zone (tree_of b) z ≡ true) × (n ≡ z))

module _ (b : List ℕ) (z : ℕ) {r : Result ℕ Rejection} (e : count_tells r ≡ (image_check b then check 0 (40 unless is_zone (tree_of b) z ∷ []) gives z)) where
  -- 40 comes first, whatever follows
  pub zone_refused : (rest : List Rule) {why : Rejection} → r ≡ Err why → (image_check b then check 0 (40 unless is_zone (tree_of b) z ∷ rest)) ≡ rejected why
  zone_refused rest q = stopped (image_check b) _ rest (gives_refused _ _ (sym (ap count_tells q) ∙ e))

  pub zone_passed : {n : ℕ} → r ≡ Ok n → Zone b z n
  zone_passed q =
      let g = gives_passed _ (sym (ap count_tells q) ∙ e) in
      (then-first (image_check b) _ g.0, ((check_pass 0 _ (then-second (image_check b) _ g.0)).0, g.1))

-- room for a byte a face
module _ {faces room : ℕ} (z : ℕ) where
  pub no_room : room < faces → rejected (rejection 44 0) ≡ (check 0 (44 unless leb faces room ∷ []) gives z)
  unfolding check ◌then◌ ◌gives◌
  no_room h = rw (lt-leb faces room h)

  pub with_room : faces ≤ room → answer z ≡ (check 0 (44 unless leb faces room ∷ []) gives z)
  unfolding check ◌then◌ ◌gives◌
  with_room h = rw (le-leb faces room h)

module _ (b : List ℕ) {z n : ℕ} (p : Zone b z n) where
  module _ (room : ℕ) {r : Result Faces Rejection} (e : tells (λ f. f.zone) r ≡ (check 0 (44 unless leb (face_count (tree_of b) n) room ∷ []) gives n)) where
    pub room_refused : {why : Rejection} → r ≡ Err why → usage_check b z room ≡ rejected why
    unfolding usage_check
    room_refused q = then-on _ p.0 ∙ kept 0 40 _ p.1.0 ∙ (rw p.1.1 at (gives_refused _ _ (sym (ap (tells (λ (f : Faces). f.zone)) q) ∙ e)))

    pub room_passed : {f : Faces} → r ≡ Ok f → (usage_check b z room ≡ passed) × (f.zone ≡ z)
    unfolding usage_check
    room_passed q =
        let g = gives_passed _ (sym (ap (tells (λ (f : Faces). f.zone)) q) ∙ e) in
        (then-on _ p.0 ∙ kept 0 40 _ p.1.0 ∙ (rw p.1.1 at g.0), g.1 ∙ p.1.1)

  pub parents_in_zone : (f : ℕ) {x : Answer _}
      → x ≡ (check 0 (41 unless face_of (tree_of b) n f ∷ 54 unless found (tree_of b) (parents_of (tree_of b) (section_with_face (tree_of b) n f)) ∷ [])
      gives stored_parents (tree_of b) (section_with_face (tree_of b) n f) f)
      → x ≡ parents_answer b z f
  unfolding parents_answer parents_check
  parents_in_zone f e =
      (rw p.1.1 at e)
      ∙ ap (λ (c : Check). c gives stored_parents (tree_of b) (section_with_face (tree_of b) z f) f) (sym (then-on _ p.0 ∙ kept 0 40 _ p.1.0))

pub parents_refused : (b : List ℕ) (z f : ℕ) {why : Rejection} → parents_check b z f ≡ rejected why → parents_answer b z f ≡ rejected why
unfolding parents_answer ◌gives◌
parents_refused b z f e = then-off _ e

-- a check that refuses leaves the bytes, one that passes hands the usage on
module _ (b : List ℕ) (z : ℕ) (out : List ℕ) where
  pub usage_refused : {r : Rejection} → usage_check b z (length out) ≡ rejected r → (rejected r ≡ usage_answer b z (length out)) × (out ≡ usage_memory b z out)
  unfolding usage_answer usage_memory leaves ◌then◌ ◌into◌
  usage_refused e = (rw e, rw e)

  usage-accepted : usage_check b z (length out) ≡ passed
      → (usage_answer b z (length out) ≡ (usage (tree_of b) z into λ bytes. answer (face_count (tree_of b) z)))
      × (usage_memory b z out ≡ over out (usage_bytes (face_count (tree_of b) z) (usage (tree_of b) z)))
  unfolding usage_answer usage_memory leaves ◌then◌
  usage-accepted e = (rw e, rw e)

  pub usage_filled : {n : ℕ} {a : Answer ℕ} {last : List ℕ} → (usage_check b z (length out) ≡ passed) × (n ≡ z)
      → a ≡ (usage (tree_of b) n into λ bytes. answer (face_count (tree_of b) n))
      → last ≡ over out (usage_bytes (face_count (tree_of b) n) (usage (tree_of b) n))
      → (a ≡ usage_answer b z (length out)) × (last ≡ usage_memory b z out)
  usage_filled q f g = let w = usage-accepted q.0 in ((rw q.1 at f) ∙ sym w.0, (rw q.1 at g) ∙ sym w.1)
