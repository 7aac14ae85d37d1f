-- Agreement is asked where the usage is an answer: its refusals are those of the usage, and its bytes tell two signs.
use Prim.Native.Nat.{ℕ, ◌<◌}
use mathlib.Core.Path.{◌≡◌, refl, sym, ◌∙◌}
use mathlib.Core.Bool.{true, false}
use mathlib.Core.List.{List}
use lib.ListN.{length, get_or, drop, get_or-append}
use Rattle.model.specs.declared.Rejection.{Rejection}
use Rattle.model.specs.Lists.{over, some_from}
use Rattle.model.specs.Rules.{Answer, rejected, answer, rejection, passed, ◌then◌, ◌into◌, leaves}
use Rattle.model.specs.Image.{tree_of, node_count}
use Rattle.model.specs.Given.{Accepted}
use Rattle.model.specs.FaceUsage.{face_count, usage, usage_bytes, usage_answer, usage_memory}
use Rattle.model.specs.ParentElements.{has_parents, all_agree, agreement_check, agreement_answer, agreement_memory}
use Rattle.model.proofs.Passed.{then-on, refused}
use Rattle.model.proofs.Staging.{broken, kept, no_rule}
use Rattle.model.proofs.Uses.{usage-small}
use Rattle.faces.proofs.Checks.{Zone}
use Rattle.faces.proofs.Whole.{usage-long}

-- a refusal that is handed on, and an answer
pub answered_too : {A B : Type 0} (w : Answer A) (x : B) {v : B} → answer v ≡ (w into λ u. answer x) → (u : A) × (w ≡ answer u)
unfolding ◌into◌
answered_too (rejected q) x e = refused (sym e)
answered_too (answer u) x e = (u, refl)

pub handed_on : {A B : Type 0} {w : Answer A} (y : B) {u : A} → w ≡ answer u → answer y ≡ (w into λ v. answer y)
unfolding ◌into◌
handed_on y e = rw e

pub refusal_on : {A B : Type 0} {a : Answer A} (f : A → Answer B) {r : Rejection} → rejected r ≡ a → rejected r ≡ (a into f)
unfolding ◌into◌
refusal_on f e = rw (← e)

-- the bytes of a usage that is an answer
pub two-signs : {b : List ℕ} (a : Accepted b) (z : ℕ) (out : List ℕ) {after bytes : List ℕ} → usage (tree_of b) z ≡ answer bytes
    → after ≡ over out (usage_bytes (face_count (tree_of b) z) (usage (tree_of b) z)) → (p : ℕ) → p < face_count (tree_of b) z → get_or after p 0 < 4
unfolding over usage_bytes
two-signs {b} a z out {after} {bytes} e q p h =
    rw (q, e, get_or-append bytes (drop (length bytes) out) 0 p (rw (usage-long a z e) h)) (usage-small b a.image z e p)

module _ (b : List ℕ) (z : ℕ) (out : List ℕ) where
  -- a check that refuses leaves the bytes
  pub agreement_refused : {r : Rejection} → agreement_check b z ≡ rejected r → (rejected r ≡ agreement_answer b z (length out)) × (out ≡ agreement_memory b z out)
  unfolding agreement_answer agreement_memory leaves ◌then◌ ◌into◌
  agreement_refused e = (rw e, rw e)

  pub agreement_accepted : agreement_check b z ≡ passed
      → (agreement_answer b z (length out) ≡ (usage_answer b z (length out) into λ faces. answer (all_agree (tree_of b) z))) × (agreement_memory b z out ≡ usage_memory b z out)
  unfolding agreement_answer agreement_memory leaves ◌then◌
  agreement_accepted e = (rw e, rw e)

  module _ {n : ℕ} (p : Zone b z n) where
    pub check_no_parents : some_from (has_parents (tree_of b) n) (node_count b) 0 ≡ false → agreement_check b z ≡ rejected (rejection 54 0)
    unfolding agreement_check tree_of
    check_no_parents h = then-on _ p.0 ∙ kept 0 40 _ p.1.0 ∙ broken 0 54 _ (rw p.1.1 at h)

    pub check-passed : some_from (has_parents (tree_of b) n) (node_count b) 0 ≡ true → agreement_check b z ≡ passed
    unfolding agreement_check tree_of
    check-passed h = then-on _ p.0 ∙ kept 0 40 _ p.1.0 ∙ kept 0 54 _ (rw p.1.1 at h) ∙ no_rule 0
