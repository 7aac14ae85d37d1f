-- Demand 3, proved. A read with the k-th entry is the corner reader's at the zone's k-th section, whose answer the image's rules decide; and a run of
-- reads changes nothing, so each of its reads is one from the given state.
use Prim.Native.Nat.{ℕ, suc, ◌+◌, ◌-◌, ◌/◌, ◌<◌}
use mathlib.Core.Path.{◌≡◌, sym, ◌∙◌}
use mathlib.Core.Bool.{true}
use mathlib.Core.List.{List}
use mathlib.Core.Logic.{⊎_elim}
use native.Mathlib.Omega.{arith}
use native.Mathlib.Decide.{ℕ_discrete}
use lib.ListN.{length}
use lib.IntN.{ℤ, nat_abs}
use borrow.Author.Tests.{ne_eqb}
use Rattle.std.specs.Prelude.{Result}
use Rattle.model.specs.declared.Rejection.{Rejection}
use Rattle.model.specs.Lists.{over}
use Rattle.model.specs.Rules.{Answer, answer, passed, leaves}
use Rattle.model.specs.Image.{Tree, tree_of}
use Rattle.model.specs.Containment.{is_zone}
use Rattle.model.specs.Elements.{MIXED, NFACE, element_type_of, first_element, last_element, element_start, element_size, corner_reference, connectivity_length}
use Rattle.model.specs.Elements.{start_of, size_of, corner_place, type_fits, layout_of}
use Rattle.model.specs.Validation.{image_check}
use Rattle.model.specs.Sections.{section_nodes, entry, sections_check, sections_answer, section_numbers_memory}
use Rattle.model.specs.Corner.{corner_answer}
use Rattle.model.specs.Answers.{corner_tells}
use Rattle.model.specs.Reads.{read_answer, ReadMade, IsRead}
use Rattle.model.specs.Demand3.{section_count, section_node, given, InSection, size_in, SizeExact, IsCornerOf, stored_at, NodeNumber, FaceNumber, ReadAnswers}
use Rattle.model.specs.Demand3.{ReadHolds, Listed, Claim3, Demand3, EntriesGiven}
use Rattle.model.proofs.Logic.{when, inside_or_not}
use Rattle.model.proofs.ReaderCases.{ReaderCase, outside, lacking, stored, case_41, case_rule, case_no_other, case_value, case_stored}
use Rattle.model.proofs.Passed.{check_pass, then-first, then-second, gives-check, gives-value}
use Rattle.model.proofs.Runs.{read_leaves, run_exists, run_kept, ReadKept, all_of}
use Rattle.model.proofs.ZoneEntries.{nodes_counted, section-at, section-listed, listed_once, read_is, one_for_each}
use Rattle.model.proofs.Accepted.{accepted}
use Rattle.model.proofs.Layouts.{mixed-to-end, mixed-some, plain_to-end}
use Rattle.model.proofs.InZone.{InZone, span, type_fits_lem, corner_no_type}
use Rattle.model.proofs.Corners.{corner-inside, element-inside, answer_41, answer_42, answer-stored}
use Rattle.model.proofs.NoneNegative.{not-one-negative}
use Rattle.model.proofs.References.{one-section, HasFace, face-inside, node-inside, node-signed, face-signed}

-- what the reader tells at the zone's k-th section
abbrev pub CornerCase : Tree → ℕ → ℕ → ℕ → ℕ → Answer ℤ → Type 0
CornerCase t z k el c a = ReaderCase (InSection t z k el) (IsCornerOf t z k el c) (IsCornerOf t z k el c → ⊥) 42 (stored_at t z k el c) a

corner_cases : {b : List ℕ} {z : ℕ} (k : ℕ) → InZone b z (section_node (tree_of b) z k) → (el c : ℕ)
    → CornerCase (tree_of b) z k el c (corner_answer b (entry (tree_of b) (section_node (tree_of b) z k)) el c)
corner_cases {b} {z} k a el c =
    ⊎_elim
    (λ i.
    ⊎_elim (λ j. stored i j (answer-stored a el c i.0 i.1 j.0 j.1)) (λ n. lacking i n (answer_42 a el c i.0 i.1 n))
    (inside_or_not 1 c (size_in (tree_of b) z k el)))
    (λ n. outside n (answer_41 a el c n))
    (inside_or_not (first_element (tree_of b) (section_node (tree_of b) z k)) el (last_element (tree_of b) (section_node (tree_of b) z k)))

module _ (b : List ℕ) (ok : image_check b ≡ passed) (z : ℕ) (rest : List ℕ) where
  pub in_zone : (k : ℕ) → k < section_count (tree_of b) z → InZone b z (section_node (tree_of b) z k)
  unfolding tree_of
  in_zone k h =
      let w = section-at (tree_of b) z k h in
      record { accepted = ok; listed = omega (arith, w.to); is-section = w.holds }

  pub read_case : (k el c : ℕ) → k < section_count (tree_of b) z → (a : Answer ℤ) → a ≡ read_answer b (given b z rest).entries k el c
      → CornerCase (tree_of b) z k el c a
  read_case k el c h a e = rw (e, read_is b z rest k h el c) (corner_cases k (in_zone k h) el c)

  step_case : (m : ReadMade) → IsRead m → m.found ≡ given b z rest → Listed b z rest m.asked
      → CornerCase (tree_of b) z m.asked.which m.asked.element m.asked.corner (corner_tells m.answered)
  step_case m r e h = read_case m.asked.which m.asked.element m.asked.corner h (corner_tells m.answered) (rw e at r.answers)

  corner_read : (k f c : ℕ) → k < section_count (tree_of b) z → InSection (tree_of b) z k f → IsCornerOf (tree_of b) z k f c
      → (m : ReadMade) → IsRead m → m.found ≡ given b z rest → m.asked ≡ record { which = k; element = f; corner = c }
      → (m.left ≡ given b z rest) × (corner_tells m.answered ≡ answer (stored_at (tree_of b) z k f c))
  corner_read k f c h i j m r e q = (read_leaves m r ∙ e, case_value (λ j n. n j) (rw q at (step_case m r e (rw q h))) i j)

  size_exact : (k el : ℕ) → k < section_count (tree_of b) z → InSection (tree_of b) z k el → SizeExact (tree_of b) z k el
  unfolding element_size element_start layout_of
  size_exact k el h i =
      let a = in_zone k h in
      let l = layout_of (tree_of b) (section_node (tree_of b) z k) in
      let j = element-inside a el i.0 i.1 in
      let s = (span a _ j).starts-before in
      let d = el - first_element (tree_of b) (section_node (tree_of b) z k) in
      let plain : (l.section_type ≡ MIXED → ⊥) → start_of l d + size_of l d ≡ start_of l (suc d) = λ n. plain_to-end l d (ne_eqb l.section_type MIXED n) s in
      let fits : l.section_type ≡ MIXED → type_fits l d ≡ true = λ m. when _ _ (type_fits_lem a d j) (rw m) in
      record {
        not-empty = elim (ℕ_discrete l.section_type MIXED) [
          | yes m ↦ mixed-some l _ (rw m) (fits m)
          | no n ↦ omega (arith, plain n)
        ];
        to_end = plain;
        mixed-to-end = λ m. mixed-to-end l _ (rw m) (fits m);
      }

  -- a face of the zone
  face : (f : ℕ) → HasFace b z f → FaceNumber b z rest f
  unfolding tree_of
  face f g =
      let t = tree_of b in
      let p = section-listed t z g.section g.in_zone.listed g.in_zone.is-section in
      let has : InSection t z p.0 f = rw p.2 (g.has.from, g.has.to) in
      record {
        which = p.0;
        listed = p.1;
        in_range_lem = has;
        no_other = λ k h i.
            listed_once t z k p.0 h p.1
            (one-section (in_zone k h) g.in_zone f (record { from = i.0; to = i.1 }) g.has ∙ sym p.2);
        face-section = rw p.2 g.face-section;
        has-corner = (size_exact p.0 f p.1 has).not-empty;
        corners_read = λ c j m r e q. corner_read p.0 f c p.1 has j m r e q;
      }

  module _ (k el c : ℕ) (h : k < section_count (tree_of b) z) where
    s : ℕ
    s = section_node (tree_of b) z k

    place_inside : InSection (tree_of b) z k el → IsCornerOf (tree_of b) z k el c
        → corner_place (layout_of (tree_of b) s) (el - first_element (tree_of b) s) c < connectivity_length (tree_of b) s
    unfolding s
    place_inside i j = corner-inside (in_zone k h) _ c (element-inside (in_zone k h) el i.0 i.1) j.0 j.1

    node_read_lem : is_zone (tree_of b) z ≡ true → (element_type_of (tree_of b) s ≡ NFACE → ⊥) → InSection (tree_of b) z k el → IsCornerOf (tree_of b) z k el c
        → NodeNumber (tree_of b) z (stored_at (tree_of b) z k el c)
    unfolding s corner_reference
    node_read_lem zone y i j =
        let v = corner_no_type (in_zone k h) _ c (element-inside (in_zone k h) el i.0 i.1) j.0 j.1 in
        let n = node-inside (in_zone k h) y _ (place_inside i j) v in
        record { node = _; number_is = node-signed (in_zone k h) zone y _ (place_inside i j) v; from_one = n.0; to_vertex_size = n.1 }

    face_read : element_type_of (tree_of b) s ≡ NFACE → InSection (tree_of b) z k el → IsCornerOf (tree_of b) z k el c
        → FaceNumber b z rest (nat_abs (stored_at (tree_of b) z k el c))
    unfolding s corner_reference
    face_read y i j = rw (face-signed (in_zone k h) y _ (place_inside i j)) (face _ (face-inside (in_zone k h) y _ (place_inside i j)))

  pub read_answers : is_zone (tree_of b) z ≡ true → (k el c : ℕ) → k < section_count (tree_of b) z → (r : Result ℤ Rejection)
      → CornerCase (tree_of b) z k el c (corner_tells r) → ReadAnswers b z rest k el c r
  unfolding s
  read_answers zone k el c h r d =
      record {
        meets_41 = case_41 (λ q. omega arith) d;
        meets_42 = case_rule (λ q. omega arith) (λ j n. n j) d;
        never_43 = case_no_other 43 (λ q. omega arith) (λ q. omega arith) d;
        number-stored = case_value (λ j n. n j) d;
        node-number = λ y n e. let w = case_stored d n e in rw w.2 (node_read_lem k el c h zone y w.0 w.1);
        face-number = λ y n e. let w = case_stored d n e in rw w.2 (face_read k el c h y w.0 w.1);
      }

  read_holds : is_zone (tree_of b) z ≡ true → (m : ReadMade) → ReadKept (given b z rest) (Listed b z rest) m → ReadHolds b z rest m
  read_holds zone m w =
      record {
        finds_given = w.finds;
        leaves-given = w.leaves;
        read_answers =
            read_answers zone m.asked.which m.asked.element m.asked.corner w.listed m.answered
            (step_case m w.is_read w.finds w.listed);
      }

-- of an image that all checks pass
pub claim3 : (b : List ℕ) → image_check b ≡ passed → (z : ℕ) → is_zone (tree_of b) z ≡ true → (rest : List ℕ) → Claim3 b z rest
claim3 b ok z zone rest =
    record {
      one_for_each = one_for_each b z rest;
      none-negative = λ k h. not-one-negative (in_zone b ok z rest k h) zone;
      sizes_exact = λ k h el. size_exact b ok z rest k el h;
      every_read = λ qs l ms end run. all_of (read_holds b ok z rest zone) (run_kept l run);
      some_run = run_exists (given b z rest);
    }

pub demand3 : Demand3
demand3 b c e z zone rest = claim3 b (accepted b e) z zone rest

-- the list that the section call left
pub entries-given : (b : List ℕ) (z : ℕ) (out : List ℕ) {n : ℕ} → sections_answer b z (length out / 11) ≡ answer n → EntriesGiven b z out n
unfolding sections_answer sections_check section_numbers_memory leaves over
entries-given b z out e =
    let room = length out / 11 in
    let yes' = gives-check (sections_check b z room) (length (section_nodes (tree_of b) z)) e in
    let zone = (check_pass 0 _ (then-second (image_check b) _ yes')).0 in
    record {
      count-is = sym (gives-value (sections_check b z room) (length (section_nodes (tree_of b) z)) e) ∙ nodes_counted (tree_of b) z;
      list_is = rw yes';
      claim = claim3 b (then-first (image_check b) _ yes') z zone _;
    }
