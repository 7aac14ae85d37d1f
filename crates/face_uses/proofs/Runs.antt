-- Runs of uses: one use, the rest of a section's entries, the rest of a zone's nodes.
use Prim.Native.Nat.{ℕ, suc, ◌+◌, ◌-◌, ◌≤◌, ◌<◌}
use mathlib.Core.Path.{◌≡◌, refl, sym, ap, ◌∙◌}
use mathlib.Core.Bool.{Bool, true, false, cond}
use mathlib.Core.List.{List}
use native.Mathlib.Omega.{arith}
use native.Mathlib.Numerals.{add-one}
use lib.ListN.{length, get_or, set, drop}
use lib.Seq.{drop-set-lt}
use Rattle.model.specs.declared.Rejection.{Rejection}
use Rattle.std.specs.Prelude.{Result, Ok, Err, IsErrAnd}
use Rattle.std.proofs.lemmas.Result.{err_from_is_err_and}
use Rattle.model.specs.Bytes.{negative, magnitude}
use Rattle.model.specs.Rules.{Answer, rejected, answer, repetition, ◌into◌}
use Rattle.model.specs.Image.{Tree, tree_of}
use Rattle.model.specs.Given.{Accepted}
use Rattle.model.specs.Elements.{face_of, face_number}
use Rattle.model.specs.Corner.{number_at}
use Rattle.model.specs.FaceUsage.{face_place, face_count, unused, element_holding, use_place, use_sign, use_entry, use_entries, uses_in, use_nodes}
use Rattle.rows.specs.declared.Row.{Row}
use Rattle.usage_bytes.specs.Marks.{sign_of, after_use}
use Rattle.face_uses.specs.Uses.{Tables, UsedAt, used, Used, Reference}
use Rattle.face_uses.specs.declared.uses.Faces.{Faces}
use Rattle.face_places.proofs.Accepted.{place-below}

-- memory of the same length serves the tables as well
pub tables_kept : {b : List ℕ} {f : Faces} {firsts reach places : List ℕ} {o o' : ℕ} → Tables b f firsts reach places o → o' ≡ o
    → Tables b f firsts reach places o'
tables_kept t e = rw e t

-- one use, as it was made
pub use_is : (t : Tree) (z w x : ℕ) (bytes : List ℕ) {f p : ℕ} {minus u : Bool} {after : List ℕ}
    → f ≡ magnitude w x → p ≡ face_place t z f → minus ≡ negative w x
    → (u ≡ unused (sign_of minus) (get_or bytes p 0)) × (after ≡ after_use u (sign_of minus) p bytes) → UsedAt t z w x bytes u after
use_is t z w x bytes e q m h = let p = q ∙ ap (face_place t z) e in record { tells = rw (← p, ← m) h.0; leaves = rw (← p, ← m) h.1 }

-- a run that has come to these bytes: the whole is the rest from here
pub record Left (faces : ℕ) (whole : Answer (List ℕ)) (start : List ℕ) (rest : Answer (List ℕ)) (bytes : List ℕ) : Type 0 where
  pub same : rest ≡ whole
  pub long : length bytes ≡ length start
  pub beyond : drop faces bytes ≡ drop faces start

module _ {faces : ℕ} {whole rest : Answer (List ℕ)} {start bytes : List ℕ} (l : Left faces whole start rest bytes) where
  -- one step, as a stage run_tells it
  module _ {one : Answer (List ℕ)} (f : List ℕ → Answer (List ℕ)) {s : Result (Unit {0}) Rejection} {after : List ℕ} (e : rest ≡ (one into f))
      (u : Used faces one bytes s after) where
    pub left_more : s ≡ Ok tt → length after ≡ length bytes → Left faces whole start (f after) after
    unfolding ◌into◌
    left_more q n =
        let a : one ≡ answer after = u.tells ∙ ap (λ (x : Result (Unit {0}) Rejection). used x after) q in
        record { same = sym (e ∙ ap (λ (x : Answer (List ℕ)). x into f) a) ∙ l.same; long = n ∙ l.long; beyond = u.rest ∙ l.beyond }

    pub left_stop : {r : Rejection} → s ≡ Err r → Used faces whole start s after
    unfolding ◌into◌
    left_stop {r} q =
        let a : one ≡ rejected r = u.tells ∙ ap (λ (x : Result (Unit {0}) Rejection). used x after) q in
        record {
          tells = sym (sym (e ∙ ap (λ (x : Answer (List ℕ)). x into f) a) ∙ l.same) ∙ sym (ap (λ (x : Result (Unit {0}) Rejection). used x after) q);
          rest = u.rest ∙ l.beyond;
        }

    -- `?` hands the refusal on
    pub left_handed : {r : Rejection} → s ≡ Err r → (x : Result (Unit {0}) Rejection) → IsErrAnd x (λ y. y ≡ r) → Used faces whole start x after
    left_handed q x h =
        let p = err_from_is_err_and x h in rw (p.1, p.2, ← q) (left_stop q)

  pub left-done : rest ≡ answer bytes → Used faces whole start (Ok tt) bytes
  left-done e = record { tells = sym l.same ∙ e; rest = l.beyond }

-- a section's entries
module _ (t : Tree) (s n : ℕ) where
  pub entries_start : {m : ℕ} → m ≡ n → (faces : ℕ) (bytes : List ℕ) → Left faces (use_entries t s n 0 bytes) bytes (use_entries t s (m - 0) 0 bytes) bytes
  entries_start {m} q faces bytes = let e : m - 0 ≡ n = omega arith in record { same = rw e; long = refl; beyond = refl }

  module _ (k : ℕ) (bytes : List ℕ) where
    pub entries_step : k < n → use_entries t s (n - k) k bytes ≡ (use_entry t s k bytes into λ later. use_entries t s (n - (k + 1)) (k + 1) later)
    unfolding use_entries
    entries_step h = let e : n - k ≡ suc (n - (k + 1)) = omega arith in rw (e, add-one)

    pub entries-end : n ≤ k → use_entries t s (n - k) k bytes ≡ answer bytes
    unfolding use_entries
    entries-end h = let e : n - k ≡ 0 = omega arith in rw e

module _ {b index : List ℕ} {z s : ℕ} {row : Row} {k : ℕ} (r : Reference b index z s row k) where
  pub entry-face : face_of (tree_of b) z (magnitude row.width (number_at b row.at row.width k)) ≡ true
  unfolding face_number
  entry-face = rw (r.wide, r.stored) at r.face

  -- what entry k does is what the reference there does
  module _ (bytes : List ℕ) {free : Bool} {after : List ℕ} (u : UsedAt (tree_of b) z row.width (number_at b row.at row.width k) bytes free after) where
    sign : ℕ
    sign = sign_of (negative row.width (number_at b row.at row.width k))

    p : ℕ
    p = face_place (tree_of b) z (magnitude row.width (number_at b row.at row.width k))

    again : Answer (List ℕ)
    again = rejected (repetition s (element_holding (tree_of b) s k))

    entry-is : use_entry (tree_of b) s k bytes ≡ cond free (answer after) again
    unfolding use_entry use_place use_sign face_number sign p again
    entry-is = rw (r.zone, r.wide, r.stored, ← u.tells, u.leaves) (by_test free)
      where
        by_test : (u : Bool) → cond u (answer (set bytes p (get_or bytes p 0 + sign))) again ≡ cond u (answer (after_use u sign p bytes)) again
        by_test true = refl
        by_test false = refl

    after-rest : Accepted b → drop (face_count (tree_of b) z) after ≡ drop (face_count (tree_of b) z) bytes
    unfolding sign p
    after-rest a = ap (drop (face_count (tree_of b) z)) u.leaves ∙ by_test free
      where
        by_test : (f : Bool) → drop (face_count (tree_of b) z) (after_use f sign p bytes) ≡ drop (face_count (tree_of b) z) bytes
        by_test true = drop-set-lt (face_count (tree_of b) z) bytes _ _ (place-below a z _ entry-face)
        by_test false = refl

    pub entry-used : Accepted b → free ≡ true → Used (face_count (tree_of b) z) (use_entry (tree_of b) s k bytes) bytes (Ok tt) after
    entry-used a e = record { tells = entry-is ∙ ap (λ (f : Bool). cond f (answer after) again) e; rest = after-rest a }

    pub entry_repeated : Accepted b → free ≡ false → {q : Rejection} → q ≡ repetition s (element_holding (tree_of b) s k)
        → Used (face_count (tree_of b) z) (use_entry (tree_of b) s k bytes) bytes (Err q) after
    unfolding again
    entry_repeated a e {q} p = record { tells = entry-is ∙ ap (λ (f : Bool). cond f (answer after) again) e ∙ ap rejected (sym p); rest = after-rest a }

-- a zone's nodes
module _ (t : Tree) (z n : ℕ) where
  pub nodes_start : (faces : ℕ) (bytes : List ℕ) → Left faces (use_nodes t z n 0 bytes) bytes (use_nodes t z (n - 0) 0 bytes) bytes
  nodes_start faces bytes = let e : n - 0 ≡ n = omega arith in record { same = rw e; long = refl; beyond = refl }

  module _ (i : ℕ) (bytes : List ℕ) where
    pub nodes_step : i < n → use_nodes t z (n - i) i bytes ≡ (use_entries t i (uses_in t z i) 0 bytes into λ later. use_nodes t z (n - (i + 1)) (i + 1) later)
    unfolding use_nodes
    nodes_step h = let e : n - i ≡ suc (n - (i + 1)) = omega arith in rw (e, add-one)

    pub nodes-end : n ≤ i → use_nodes t z (n - i) i bytes ≡ answer bytes
    unfolding use_nodes
    nodes-end h = let e : n - i ≡ 0 = omega arith in rw e
