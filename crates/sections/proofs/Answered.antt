-- What the answer of the call says of the image, and of what the call leaves.
use Prim.Native.Nat.{ℕ, ◌≤◌, ◌<◌}
use mathlib.Core.Path.{◌≡◌, refl, sym, ◌∙◌}
use mathlib.Core.Bool.{true}
use mathlib.Core.List.{List, []}
use native.Mathlib.Omega.{arith}
use lib.ListN.{length}
use borrow.Author.Tests.{leb-true}
use Rattle.model.specs.declared.Section.{Section}
use Rattle.model.specs.declared.Rejection.{Rejection}
use Rattle.std.specs.Prelude.{Result, Ok, Err}
use Rattle.model.specs.Lists.{over}
use Rattle.model.specs.Rules.{rejected, answer, Check, passed, ◌then◌, ◌gives◌, leaves}
use Rattle.model.specs.Image.{tree_of, node_count}
use Rattle.model.specs.Containment.{is_zone}
use Rattle.model.specs.Given.{Accepted}
use Rattle.model.specs.Validation.{image_check}
use Rattle.model.specs.Sections.{section_nodes, entries, section_entries, sections_check, sections_answer, sections_memory}
use Rattle.model.specs.Answers.{count_tells}
use Rattle.model.proofs.Passed.{refused, check_pass, then-first, then-second, gives-check, gives-value}
use Rattle.model.proofs.Bounds.{accepted-image}
use Rattle.model.proofs.Sections.{zone-is}
use Rattle.index.specs.Index.{Index}
use Rattle.sections.specs.Due.{EntriesDue, answered_count}
use Rattle.sections.proofs.Filling.{Filled, all_taken}

-- the check passed
module _ (b : List ℕ) (z room : ℕ) (p : sections_check b z room ≡ passed) where
  image-passed : image_check b ≡ passed
  unfolding sections_check
  image-passed = then-first (image_check b) _ p

  zone-passed : is_zone (tree_of b) z ≡ true
  unfolding sections_check
  zone-passed = (check_pass 0 _ (then-second (image_check b) _ p)).0

  room-passed : length (section_nodes (tree_of b) z) ≤ room
  unfolding sections_check
  room-passed = leb-true (length (section_nodes (tree_of b) z)) room (check_pass 0 _ (then-second (image_check b) _ p)).1.0

-- an answer that is a count
pub record Counts (b : List ℕ) (z room n : ℕ) : Type 0 where
  pub is-accepted : Accepted b
  pub zone-inside : z < node_count b
  pub all : n ≡ length (section_nodes (tree_of b) z)
  pub fits : n ≤ room
  pub check-passed : sections_check b z room ≡ passed

pub counts : (b : List ℕ) (z room : ℕ) {n : ℕ} → answer n ≡ sections_answer b z room → Counts b z room n
unfolding sections_answer
counts b z room e =
    let p = gives-check (sections_check b z room) (length (section_nodes (tree_of b) z)) (sym e) in
    let v = gives-value (sections_check b z room) (length (section_nodes (tree_of b) z)) (sym e) in
    record {
      is-accepted = accepted-image b (image-passed b z room p);
      zone-inside = (zone-is b z (zone-passed b z room p)).inside;
      all = sym v;
      fits = omega (arith, room-passed b z room p);
      check-passed = p;
    }

pub due : (b index : List ℕ) (z room : ℕ) (r : Result ℕ Rejection) {n : ℕ} → count_tells r ≡ sections_answer b z room → (image_check b ≡ passed → Index b index)
    → n ≡ answered_count r → EntriesDue b index z room n
due b index z room (Ok m) e i f =
    let c = counts b z room e in
    record {
      few = omega (arith, c.fits);
      index_where = λ h. i c.is-accepted.image;
      accepted_where = λ h. c.is-accepted;
      zone_where = λ h. c.zone-inside;
      all_where = λ h. f ∙ c.all;
    }
due b index z room (Err x) e i f =
    record {
      few = omega arith;
      index_where = λ h. absurd (omega arith);
      accepted_where = λ h. absurd (omega arith);
      zone_where = λ h. absurd (omega arith);
      all_where = λ h. absurd (omega arith);
    }

left_alone : {A B : Type 0} (c : Check) {x : Rejection} (v : A) (out new : List B) → rejected x ≡ (c gives v) → leaves c out new ≡ out
unfolding leaves ◌gives◌ ◌then◌
left_alone (rejected y) v out new e = refl
left_alone (answer y) v out new e = refused e

-- what is left where the answer is a count, and where it is a rejection
module _ (b : List ℕ) (z room : ℕ) {A : Type 0} (out new : List A) where
  pub count-leaves : {n : ℕ} → answer n ≡ sections_answer b z room → new ≡ leaves (sections_check b z room) out new
  unfolding leaves
  count-leaves e = rw (counts b z room e).check-passed

  pub rejection-leaves : {x : Rejection} → rejected x ≡ sections_answer b z room → out ≡ leaves (sections_check b z room) out new
  unfolding sections_answer
  rejection-leaves e = sym (left_alone (sections_check b z room) (length (section_nodes (tree_of b) z)) out new e)

pub nothing_written : (b : List ℕ) (out : List Section) → over out (entries (tree_of b) []) ≡ out
unfolding over entries
nothing_written b out = refl

-- with all entries written that the answer tells of
pub answered_memory : {b : List ℕ} {z n at i : ℕ} {out ws : List Section} → Filled b z n out ws at i → n ≤ i
    → (r : Result ℕ Rejection) → count_tells r ≡ sections_answer b z (length out) → n ≡ answered_count r → ws ≡ sections_memory b z out
unfolding sections_memory
answered_memory {b} {z} {n} {at} {i} {out} f h (Ok m) e g =
    let c = counts b z (length out) e in
    let k : i ≡ length (section_nodes (tree_of b) z) = omega (arith, f.few, g, c.all) in
    f.stored ∙ rw (k, all_taken) (count-leaves b z (length out) out (over out (section_entries (tree_of b) z)) e)
answered_memory {b} {z} {n} {at} {i} {out} f h (Err x) e g =
    let k : i ≡ 0 = omega (arith, f.few, g) in
    f.stored ∙ rw k (nothing_written b out ∙ rejection-leaves b z (length out) out (over out (section_entries (tree_of b) z)) e)
