-- A run over a longer list of bytes: what stands after the zone's faces stays. And what that makes of the usage of a zone.
use Prim.Native.Nat.{ℕ, zero, suc, ◌+◌, ◌≤◌, ◌<◌}
use mathlib.Core.Path.{◌≡◌, refl, sym, ap, ◌∙◌}
use mathlib.Core.Bool.{Bool, true, false, cond, ◌&&◌}
use mathlib.Core.List.{List, ◌++◌}
use native.Mathlib.Omega.{arith}
use lib.ListN.{length, get_or, set, drop, replicate, length-set, length-replicate, get_or-append}
use lib.Seq.{set-append_left, drop_at}
use lib.Dec.{eqb}
use Rattle.model.specs.declared.Rejection.{Rejection}
use Rattle.std.specs.Prelude.{Result, Ok, Err}
use Rattle.model.specs.Lists.{over}
use Rattle.model.specs.Rules.{Answer, rejected, answer, repetition, ◌into◌}
use Rattle.model.specs.Image.{Tree, tree_of, node_count, parent}
use Rattle.model.specs.Given.{Accepted}
use Rattle.model.specs.Containment.{section_of}
use Rattle.model.specs.Elements.{NFACE, element_type_of, connectivity_length, face_number}
use Rattle.model.specs.FaceUsage.{face_count, face_place, unused, element_holding, use_place, use_sign, use_entry, use_entries, uses_in, use_nodes, usage, usage_bytes}
use Rattle.model.proofs.Logic.{and_first}
use Rattle.model.proofs.Passed.{refused, into-value}
use Rattle.model.proofs.Conforming.{section-is}
use Rattle.face_uses.specs.Uses.{used, Used}
use Rattle.face_places.proofs.Accepted.{place-below, cells_faces}

-- bytes behind those that a run left
abbrev pub behind : List ℕ → Answer (List ℕ) → Answer (List ℕ)
behind ys (rejected r) = rejected r
behind ys (answer xs) = answer (xs ++ ys)

into_behind : (ys : List ℕ) (f : List ℕ → Answer (List ℕ)) (a : Answer (List ℕ)) → ((zs : List ℕ) → a ≡ answer zs → f (zs ++ ys) ≡ behind ys (f zs))
    → (behind ys a into f) ≡ behind ys (a into f)
unfolding ◌into◌
into_behind ys f (rejected r) e = refl
into_behind ys f (answer zs) e = e zs refl

module _ (t : Tree) where
  -- one use
  module _ (s k : ℕ) (xs : List ℕ) where
    abbrev after : List ℕ
    after = set xs (use_place t s k) (get_or xs (use_place t s k) 0 + use_sign t s k)

    abbrev again : Answer (List ℕ)
    again = rejected (repetition s (element_holding t s k))

    entry_behind : (ys : List ℕ) → use_place t s k < length xs → use_entry t s k (xs ++ ys) ≡ behind ys (use_entry t s k xs)
    unfolding use_entry
    entry_behind ys h =
        rw (get_or-append xs ys 0 (use_place t s k) h, set-append_left xs ys (use_place t s k) (get_or xs (use_place t s k) 0 + use_sign t s k) h)
        (by_test (unused (use_sign t s k) (get_or xs (use_place t s k) 0)))
      where
        by_test : (u : Bool) → cond u (answer (after ++ ys)) again ≡ behind ys (cond u (answer after) again)
        by_test true = refl
        by_test false = refl

    entry-long : {zs : List ℕ} → use_entry t s k xs ≡ answer zs → length zs ≡ length xs
    unfolding use_entry
    entry-long {zs} e = by_test (unused (use_sign t s k) (get_or xs (use_place t s k) 0)) e
      where
        by_test : (u : Bool) → cond u (answer after) again ≡ answer zs → length zs ≡ length xs
        by_test true q = let p : after ≡ zs = cc in rw (← p) (length-set xs (use_place t s k) _)
        by_test false q = refused q

  -- a section's entries
  entries-long : (s n k : ℕ) (xs : List ℕ) {zs : List ℕ} → use_entries t s n k xs ≡ answer zs → length zs ≡ length xs
  unfolding use_entries
  entries-long s zero k xs {zs} e = let p : xs ≡ zs = cc in rw (← p)
  entries-long s (suc n) k xs e =
      let v = into-value (use_entry t s k xs) (λ later. use_entries t s n (suc k) later) e in
      entries-long s n (suc k) v.0 v.2 ∙ entry-long s k xs v.1

  entries_behind : (ys : List ℕ) (s n k : ℕ) (xs : List ℕ) → ((j : ℕ) → k ≤ j → j < k + n → use_place t s j < length xs)
      → use_entries t s n k (xs ++ ys) ≡ behind ys (use_entries t s n k xs)
  unfolding use_entries
  entries_behind ys s zero k xs h = refl
  entries_behind ys s (suc n) k xs h =
      rw (entry_behind s k xs ys (h k (omega arith) (omega arith)))
      (into_behind ys (λ later. use_entries t s n (suc k) later) (use_entry t s k xs)
      (λ zs e. entries_behind ys s n (suc k) zs (λ j l m. rw (entry-long s k xs e) (h j (omega arith) (omega arith)))))

  -- a zone's nodes
  nodes-long : (z n i : ℕ) (xs : List ℕ) {zs : List ℕ} → use_nodes t z n i xs ≡ answer zs → length zs ≡ length xs
  unfolding use_nodes
  nodes-long z zero i xs {zs} e = let p : xs ≡ zs = cc in rw (← p)
  nodes-long z (suc n) i xs e =
      let v = into-value (use_entries t i (uses_in t z i) 0 xs) (λ later. use_nodes t z n (suc i) later) e in
      nodes-long z n (suc i) v.0 v.2 ∙ entries-long i (uses_in t z i) 0 xs v.1

  nodes_behind : (ys : List ℕ) (z n i : ℕ) (xs : List ℕ) → ((s j : ℕ) → i ≤ s → s < i + n → j < uses_in t z s → use_place t s j < length xs)
      → use_nodes t z n i (xs ++ ys) ≡ behind ys (use_nodes t z n i xs)
  unfolding use_nodes
  nodes_behind ys z zero i xs h = refl
  nodes_behind ys z (suc n) i xs h =
      rw (entries_behind ys i (uses_in t z i) 0 xs (λ j l m. h i j (omega arith) (omega arith) (omega arith)))
      (into_behind ys (λ later. use_nodes t z n (suc i) later) (use_entries t i (uses_in t z i) 0 xs)
      (λ zs e. nodes_behind ys z n (suc i) zs (λ s j l m o. rw (entries-long i (uses_in t z i) 0 xs e) (h s j (omega arith) (omega arith) o))))

module _ {b : List ℕ} (a : Accepted b) (z : ℕ) where
  abbrev F : ℕ
  F = face_count (tree_of b) z

  abbrev run : List ℕ → Answer (List ℕ)
  run = use_nodes (tree_of b) z (node_count b) 0

  -- each use has a place below F
  use_below : (s k : ℕ) → s < node_count b → k < uses_in (tree_of b) z s → use_place (tree_of b) s k < F
  unfolding uses_in use_place
  use_below s k l h = by_test (section_of (tree_of b) z s && eqb (element_type_of (tree_of b) s) NFACE) refl h
    where
      by_test : (u : Bool) → (section_of (tree_of b) z s && eqb (element_type_of (tree_of b) s) NFACE) ≡ u → k < cond u (connectivity_length (tree_of b) s) 0
          → face_place (tree_of b) (parent (tree_of b) s) (face_number (tree_of b) s k) < F
      by_test true e m =
          rw (section-is (tree_of b) z s (and_first (section_of (tree_of b) z s) _ e)).parent_is
          (place-below a z (face_number (tree_of b) s k) (cells_faces a z s l e k m))
      by_test false e m = absurd (omega arith)

  pub usage-long : {zs : List ℕ} → usage (tree_of b) z ≡ answer zs → length zs ≡ F
  unfolding usage
  usage-long e = nodes-long (tree_of b) z _ 0 _ e ∙ length-replicate F 0

  module _ (out : List ℕ) where
    run_is : run (replicate F 0 ++ drop F out) ≡ behind (drop F out) (usage (tree_of b) z)
    unfolding usage tree_of
    run_is =
        nodes_behind (tree_of b) (drop F out) z (node_count b) 0 (replicate F 0)
        (λ s j l m o. rw (length-replicate {A = ℕ} F 0) (use_below s j (omega arith) o))

    -- what is run_tells of a usage: an answer, and the bytes that are left
    UsageIs : Answer ℕ → List ℕ → Answer (List ℕ) → Type 0
    UsageIs x last w = (x ≡ (w into λ bytes. answer F)) × (last ≡ over out (usage_bytes F w))

    -- a run over the n cleared bytes, and its bytes cleared again
    module _ {n : ℕ} (f : n ≡ F) {first : List ℕ} {r : Result (Unit {0}) Rejection} {after : List ℕ} (p : first ≡ replicate n 0 ++ drop n out)
        (u : Used F (run first) first r after) where
      run_tells : behind (drop F out) (usage (tree_of b) z) ≡ used r after
      run_tells = sym run_is ∙ ap run (sym (rw f at p)) ∙ u.tells

      by_answer : (x : Answer (List ℕ)) → usage (tree_of b) z ≡ x → behind (drop F out) x ≡ answer after → UsageIs (answer n) after x
      unfolding UsageIs ◌into◌ over usage_bytes
      by_answer (rejected q) e h = refused h
      by_answer (answer zs) e h =
          let w : zs ++ drop F out ≡ after = cc in
          (ap answer f, sym w ∙ ap (λ (k : ℕ). zs ++ drop k out) (sym (usage-long e)))

      pub run_passed : {v : Unit {0}} → r ≡ Ok v
          → (answer n ≡ (usage (tree_of b) z into λ bytes. answer F)) × (after ≡ over out (usage_bytes F (usage (tree_of b) z)))
      unfolding UsageIs
      run_passed q = by_answer (usage (tree_of b) z) refl (run_tells ∙ ap (λ (x : Result (Unit {0}) Rejection). used x after) q)

      module _ {last : List ℕ} (e : last ≡ replicate n 0 ++ drop n after) where
        cleared : last ≡ over out (replicate F 0)
        unfolding over
        cleared =
            (rw f at e)
            ∙ ap (λ (ys : List ℕ). replicate F 0 ++ ys)
            (u.rest ∙ ap (drop F) (rw f at p) ∙ drop_at (replicate F 0) (drop F out) F (length-replicate F 0))
            ∙ ap (λ (k : ℕ). replicate F 0 ++ drop k out) (sym (length-replicate F 0))

        by_refusal : (q : Rejection) (x : Answer (List ℕ)) → behind (drop F out) x ≡ rejected q → UsageIs (rejected q) last x
        unfolding UsageIs ◌into◌ usage_bytes
        by_refusal q (rejected o) h = (ap (λ (y : Rejection). rejected y) (let w : q ≡ o = cc in w), cleared)
        by_refusal q (answer zs) h = refused (sym h)

        pub run_refused : {q : Rejection} → r ≡ Err q
            → (rejected q ≡ (usage (tree_of b) z into λ bytes. answer F)) × (last ≡ over out (usage_bytes F (usage (tree_of b) z)))
        unfolding UsageIs
        run_refused {q} o = by_refusal q (usage (tree_of b) z) (run_tells ∙ ap (λ (x : Result (Unit {0}) Rejection). used x after) o)
