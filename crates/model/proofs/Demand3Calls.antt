-- Demand 3 of the calls that ship. A struct that the section call left is the k-th entry; the bytes that a caller copied hold it; and what the exports answer
-- is what the readers answer with it.
use Prim.Native.Nat.{ℕ, ◌*◌, ◌/◌, ◌^◌, ◌≤◌, ◌<◌}
use mathlib.Core.Path.{◌≡◌, refl, sym, ap, ◌∙◌}
use mathlib.Core.Bool.{Bool, true, false}
use mathlib.Core.List.{List, [], ◌∷◌}
use mathlib.Core.Logic.{⊎_elim}
use native.Mathlib.Omega.{arith}
use native.Mathlib.Decide.{ℕ_discrete}
use lib.ListN.{length, get_or, take, drop}
use lib.Seq.{get_or-take}
use lib.Dec.{leb}
use lib.IntN.{ℤ, nat_abs}
use borrow.Author.Tests.{le-leb, leb-true, leb-false}
use Rattle.model.specs.declared.Section.{Section}
use Rattle.std.specs.Prelude.{Ok}
use Rattle.model.specs.Lists.{over}
use Rattle.model.specs.Bytes.{le, signed}
use Rattle.model.specs.Rules.{Answer, answer, passed, ◌unless◌, check, ◌then◌, ◌gives◌, leaves}
use Rattle.model.specs.Image.{tree_of, node_count}
use Rattle.model.specs.Containment.{is_zone, section_of}
use Rattle.model.specs.Elements.{NFACE, element_type_of, first_element, last_element, connectivity_length}
use Rattle.model.specs.Validation.{Counts, validation, image_check}
use Rattle.model.specs.Sections.{section_nodes, entry, section_entries, all_numbers, sections_check, sections_answer, sections_memory, section_numbers_memory}
use Rattle.model.specs.Answers.{corner_tells}
use Rattle.model.specs.Reads.{section_at, read_answer, ReadState, IsRead, done, next, AllOf, all_none, all_more}
use Rattle.model.specs.ReadList.{rule_of, corner_from}
use Rattle.model.specs.ElementCorners.{element_corners_answer, element_corners_memory}
use Rattle.model.specs.OwnType.{own_type_answer}
use Rattle.model.specs.Exports.{words_fit, export_rule, export_bytes, export_memory, count_words, section_in, read_fits, corner_exported, number_bytes, tells_entry}
use Rattle.model.specs.Exports.{element_exported, count_word, ElementExport, type_exported, TypeExport}
use Rattle.model.specs.Demand3.{section_count, section_node, given, InSection, type_in, size_in, Listed, ReadHolds}
use Rattle.model.specs.Demand3Calls.{StructsGiven, ElementAnswers, CornerCall, Copied, CopiedNumbers, IsCornerCall, read_made, CallRun, no_call, next_call}
use Rattle.model.specs.Demand3Calls.{ElementCall, TypeAnswers, TypeCall, SectionsGiven}
use Rattle.model.proofs.Logic.{inside_or_not}
use Rattle.model.proofs.Passed.{check_pass, then-first, then-second, gives-check, gives-value}
use Rattle.model.proofs.LittleEndian.{le-written, signed_bits, bits_small}
use Rattle.model.proofs.Flat.{struct_at, section-from}
use Rattle.model.proofs.Runs.{entry_read, read_listed, read_leaves}
use Rattle.model.proofs.ZoneEntries.{nodes_counted, entry_listed, entry-is}
use Rattle.model.proofs.Accepted.{accepted, table-passed}
use Rattle.model.proofs.Bounds.{table-laid}
use Rattle.model.proofs.Walks.{count-few}
use Rattle.model.proofs.Arrays.{indices_few}
use Rattle.model.proofs.Numbered.{none_of_entries, of_check, of_then, all_numbered, answered}
use Rattle.model.proofs.InZone.{range, connectivity, size-inside}
use Rattle.model.proofs.References.{vertex_size-small}
use Rattle.model.proofs.NoneNegative.{own-type-small}
use Rattle.model.proofs.Corners.{element-inside, element_41, element-answer, type_41, type-answer}
use Rattle.model.proofs.ElementCorners.{by_corner-reads, behind_kept, refused_kept}
use Rattle.model.proofs.ReaderCases.{ReaderCase, outside, lacking, stored, case_41, case_rule, case_no_other, case_value, case_stored}
use Rattle.model.proofs.Demand3.{in_zone, read_case, read_answers, claim3, demand3, entries-given}

-- the structs that the section call left
pub structs_given : (b : List ℕ) (z : ℕ) (out : List Section) {n : ℕ} → sections_answer b z (length out) ≡ answer n → StructsGiven b z out n
unfolding sections_answer sections_check sections_memory section_entries leaves over
structs_given b z out e =
    let t = tree_of b in
    let yes = gives-check (sections_check b z (length out)) (length (section_nodes t z)) e in
    let zone = (check_pass 0 _ (then-second (image_check b) _ yes)).0 in
    let is : (k : ℕ) → k < section_count t z → (none : Section) (rest : List ℕ) → get_or (sections_memory b z out) k none ≡ section_at (given b z rest).entries k =
    λ k h none rest. rw yes (struct_at t (section_nodes t z) _ none k (omega (arith, nodes_counted t z)) ∙ sym (entry-is b z rest k h)) in
    record {
      count-is = sym (gives-value (sections_check b z (length out)) (length (section_nodes t z)) e) ∙ nodes_counted t z;
      each_struct = is;
      is_read = λ k h none rest element corner r b' c. entry_read (entry_listed b z rest k h) (rw (is k h none rest) at c) refl;
      claim = claim3 b (then-first (image_check b) _ yes) z zone;
    }

-- all corners of an element, with the entry of the zone's k-th section
module _ (b : List ℕ) (ok : image_check b ≡ passed) (z : ℕ) (rest : List ℕ) (k : ℕ) (h : k < section_count (tree_of b) z) (element : ℕ) where
  ElementCase : ℕ → Answer ℕ → Type 0
  ElementCase room a =
      ReaderCase (InSection (tree_of b) z k element) (size_in (tree_of b) z k element ≤ room) (room < size_in (tree_of b) z k element) 46
      (size_in (tree_of b) z k element) a

  element_case : (room : ℕ) → ElementCase room (element_corners_answer b (section_at (given b z rest).entries k) element room)
  unfolding ElementCase check ◌gives◌ ◌then◌
  element_case room =
      let a = in_zone b ok z rest k h in
      let t = tree_of b in
      rw (entry-is b z rest k h)
      (⊎_elim
      (λ i. let e = element-answer a element 1 i.0 i.1 room in by_room i e (leb (size_in t z k element) room) refl)
      (λ n. outside n (element_41 a element room n))
      (inside_or_not (first_element t (section_node t z k)) element (last_element t (section_node t z k))))
    where
      by_room : InSection (tree_of b) z k element
          → element_corners_answer b (entry (tree_of b) (section_node (tree_of b) z k)) element room
          ≡ (check 0 (46 unless leb (size_in (tree_of b) z k element) room ∷ []) gives size_in (tree_of b) z k element)
          → (u : Bool) → leb (size_in (tree_of b) z k element) room ≡ u
          → ElementCase room (element_corners_answer b (entry (tree_of b) (section_node (tree_of b) z k)) element room)
      by_room i e true q = stored i (leb-true _ _ q) (e ∙ rw q)
      by_room i e false q = lacking i (leb-false _ _ q) (e ∙ rw q)

  pub element-answers : (a : Answer ℕ) (out out' : List ℤ) → a ≡ element_corners_answer b (section_at (given b z rest).entries k) element (length out)
      → out' ≡ element_corners_memory b (section_at (given b z rest).entries k) element out → ElementAnswers b z rest k element a out out'
  unfolding ElementCase
  element-answers a out out' e m =
      let e₀ = section_at (given b z rest).entries k in
      let d : ElementCase (length out) a = rw e (element_case (length out)) in
      let not-both : size_in (tree_of b) z k element ≤ length out → length out < size_in (tree_of b) z k element → ⊥ = λ x y. omega arith in
      record {
        meets_41 = case_41 (λ q. omega arith) d;
        meets_46 = case_rule (λ q. omega arith) not-both d;
        never_43 = case_no_other 43 (λ q. omega arith) (λ q. omega arith) d;
        refused_kept = λ why q. m ∙ refused_kept b e₀ element out why (sym e ∙ q);
        size-answered = case_value not-both d;
        numbers-stored = λ n q c j.
            let w = case_stored d n q in
            let r = by_corner-reads b e₀ element out n c (sym e ∙ q) j.0 (omega (arith, j.1, w.2)) in
            let s = case_value (λ p f. f p) (read_case b ok z rest k element c h _ refl) w.0 j in
            let g = sym (read_listed b (given b z rest).entries k element c (entry_listed b z rest k h)) ∙ s in
            (rw m (same_answer (sym r ∙ g)), rw m r);
        rest-kept = λ n q. rw m (behind_kept b e₀ element out n (sym e ∙ q));
      }
    where
      same_answer : {x y : ℤ} → answer x ≡ answer y → x ≡ y
      same_answer p = cc

  -- its own type: no rule but 41 comes
  TypeCase : Answer ℕ → Type 0
  TypeCase a = ReaderCase (InSection (tree_of b) z k element) (Unit {0}) ⊥ 0 (type_in (tree_of b) z k element) a

  type_case : TypeCase (own_type_answer b (section_at (given b z rest).entries k) element)
  unfolding TypeCase
  type_case =
      let i = in_zone b ok z rest k h in
      rw (entry-is b z rest k h)
      (⊎_elim (λ j. stored j tt (type-answer i element 1 j.0 j.1)) (λ n. outside n (type_41 i element n))
      (inside_or_not (first_element (tree_of b) (section_node (tree_of b) z k)) element (last_element (tree_of b) (section_node (tree_of b) z k))))

  pub type-answers : (a : Answer ℕ) → a ≡ own_type_answer b (section_at (given b z rest).entries k) element → TypeAnswers b z k element a
  unfolding TypeCase
  type-answers a e =
      let d : TypeCase a = rw e type_case in
      record {
        meets_41 = case_41 (λ q. omega arith) d;
        never_43 = case_no_other 43 (λ q. omega arith) (λ q. omega arith) d;
        type-answered = λ i. case_value (λ x y. y) d i tt;
      }

-- the bytes that a caller copied hold the k-th entry
section-front : (l : List ℕ) → section_at (take 11 l) 0 ≡ section_at l 0
unfolding section_at
section-front l = rw (
  at 0 (omega arith),
  at 1 (omega arith),
  at 2 (omega arith),
  at 3 (omega arith),
  at 4 (omega arith),
  at 5 (omega arith),
  at 6 (omega arith),
  at 7 (omega arith),
  at 8 (omega arith),
  at 9 (omega arith),
  at 10 (omega arith),
)
  where
    at : (j : ℕ) → j < 11 → get_or (take 11 l) j 0 ≡ get_or l j 0
    at j h = get_or-take 11 l j 0 h

section-copied : {entries section : List ℕ} {k : ℕ} → Copied entries k section → section_in section ≡ section_at entries k
unfolding section_in
section-copied {entries} {section} {k} c = rw c.words_are (section-front (drop (11 * k) entries) ∙ sym (section-from entries k))

numbers-copied : {entries section : List ℕ} {k : ℕ} → CopiedNumbers entries k section → section_at section 0 ≡ section_at entries k
numbers-copied {entries} {section} {k} c =
    sym (section-front section) ∙ ap (λ (l : List ℕ). section_at l 0) c.numbers_are ∙ section-front (drop (11 * k) entries) ∙ sym (section-from entries k)

read_fits_lem : (n : ℕ) (section out : List ℕ) → n ≤ length section → 8 ≤ length out → read_fits n section out ≡ passed
unfolding read_fits check
read_fits_lem n section out c h = rw (le-leb n (length section) c, le-leb 8 (length out) h)

-- an answer is taken back from its rule and from its number's bytes
taken_back : {In Fits Lacks : Type 0} {v : ℤ} (a : Answer ℤ) (number : List ℕ) → ReaderCase In Fits Lacks 42 v a → ((n : ℤ) → a ≡ answer n → nat_abs n < 2 ^ 63)
    → corner_tells (corner_from (rule_of a) (signed 8 (le 8 (number_bytes a number)))) ≡ a
unfolding rule_of number_bytes over
taken_back a number (outside _ e) s = rw e refl
taken_back a number (lacking _ _ e) s = rw e refl
taken_back {v = v} a number (stored _ _ e) s =
    rw e (ap answer (ap (signed 8) (le-written 8 _ _ (bits_small v (s v e))) ∙ signed_bits v (s v e)))

module _ (b : List ℕ) (c : Counts) (acc : validation b ≡ answer c) (z : ℕ) (zone : is_zone (tree_of b) z ≡ true) (rest : List ℕ) where
  -- numbers so read are small: a node number is at most VertexSize, a face number's magnitude an element number
  small : (k element corner : ℕ) → k < section_count (tree_of b) z → (n : ℤ) → read_answer b (given b z rest).entries k element corner ≡ answer n
      → nat_abs n ≤ 2147483647
  small k element corner h n e =
      let ok = accepted b acc in
      let r = read_answers b ok z rest zone k element corner h (Ok n) (read_case b ok z rest k element corner h (answer n) (sym e)) in
      elim (ℕ_discrete (element_type_of (tree_of b) (section_node (tree_of b) z k)) NFACE) [
        | yes q ↦ (let f = r.face-number q n refl in omega (arith, f.in_range_lem, range (in_zone b ok z rest f.which f.listed)))
        | no q ↦ (let g = r.node-number q n refl in rw g.number_is (omega (arith, g.to_vertex_size, vertex_size-small (in_zone b ok z rest k h) zone)))
      ]

  -- a call of the corner export is a read with the k-th entry
  pub call_is_read : (m : CornerCall) → IsCornerCall m → m.found ≡ given b z rest → Listed b z rest m.asked → IsRead (read_made m)
  unfolding corner_exported ◌then◌
  call_is_read m i f h =
      let ok = accepted b acc in
      let q = m.asked in
      let w = i.exported in
      let a = read_answer b (given b z rest).entries q.which q.element q.corner in
      let e : corner_exported m.found.image m.section q.element q.corner m.number ≡ a =
      rw (read_fits_lem 88 m.section m.number i.copied.whole i.room, section-copied i.copied, f)
      (sym (read_listed b (given b z rest).entries q.which q.element q.corner (entry_listed b z rest q.which h))) in
      record {
        answers = rw (w.rule-is, w.number_is, e, f)
            (taken_back a m.number (read_case b ok z rest q.which q.element q.corner h a refl)
            (λ n p. omega (arith, small q.which q.element q.corner h n p)));
        image-kept = w.image-kept;
        entries-kept = i.entries-kept;
      }

  -- so every clause of demand 3 holds of each call of a run
  pub calls_hold : (ms : List CornerCall) (s end : ReadState) → s ≡ given b z rest → AllOf (λ m. Listed b z rest m.asked) ms → CallRun s ms end
      → AllOf (λ m. ReadHolds b z rest (read_made m)) ms
  calls_hold ms s end f l no_call = all_none
  calls_hold (m ∷ ms) s end f (all_more h l) (next_call i later) =
      let r = call_is_read m i f h in
      all_more
      (first_of ((demand3 b c acc z zone rest).every_read (m.asked ∷ []) (all_more h all_none) (read_made m ∷ []) m.left (rw (← f) (next r done))))
      (calls_hold ms m.left end (read_leaves (read_made m) r ∙ f) l later)
    where
      first_of : AllOf (ReadHolds b z rest) (read_made m ∷ []) → ReadHolds b z rest (read_made m)
      first_of (all_more x none) = x

  size_few : (k element room : ℕ) → k < section_count (tree_of b) z → (n : ℕ)
      → element_corners_answer b (section_at (given b z rest).entries k) element room ≡ answer n → n ≤ 16777216
  unfolding ElementCase connectivity_length
  size_few k element room h n q =
      let ok = accepted b acc in
      let a = in_zone b ok z rest k h in
      let w = case_stored (element_case b ok z rest k h element room) n q in
      omega (arith, w.2, size-inside a _ (element-inside a element w.0.0 w.0.1), indices_few b (table-passed b ok) _ (connectivity a))

  -- a call of the export of all corners
  pub element_call : (k element : ℕ) (section : List ℕ) (out : List ℤ) (size : List ℕ) (r : ℕ) (b' section' : List ℕ) (out' : List ℤ) (size' : List ℕ)
      → k < section_count (tree_of b) z
      → CopiedNumbers (given b z rest).entries k section → 8 ≤ length size → ElementExport b section element out size r b' section' out' size'
      → ElementCall b z rest k element out r out' size'
  unfolding element_exported rule_of count_word leaves over ◌then◌
  element_call k element section out size r b' section' out' size' h copied room w =
      let ok = accepted b acc in
      let a = element_corners_answer b (section_at (given b z rest).entries k) element (length out) in
      let fits = read_fits_lem 11 section size copied.whole room in
      let e : element_exported b section element (length out) size ≡ a = rw (fits, numbers-copied copied) in
      let d = element-answers b ok z rest k h element a out out' refl (w.out_is ∙ rw (fits, numbers-copied copied)) in
      record {
        tells = a;
        answers = d;
        refused_by = λ why q. w.rule-is ∙ ap rule_of (e ∙ q);
        size_is = λ n q.
            let few : n < 256 ^ 8 = omega (arith, size_few k element (length out) h n q) in
            (w.rule-is ∙ ap rule_of (e ∙ q), rw (w.size_is, fits, numbers-copied copied, q) (le-written 8 n _ few));
      }

  type-few : (k element : ℕ) → k < section_count (tree_of b) z → (n : ℕ) → own_type_answer b (section_at (given b z rest).entries k) element ≡ answer n → n ≤ 23
  unfolding TypeCase
  type-few k element h n q =
      let ok = accepted b acc in
      let a = in_zone b ok z rest k h in
      let w = case_stored (type_case b ok z rest k h element) n q in
      omega (arith, w.2, own-type-small a _ (element-inside a element w.0.0 w.0.1))

  -- a call of the export of an element's own type
  pub type_call : (k element : ℕ) (section out : List ℕ) (r : ℕ) (b' section' out' : List ℕ) → k < section_count (tree_of b) z
      → CopiedNumbers (given b z rest).entries k section → 8 ≤ length out → TypeExport b section element out r b' section' out'
      → TypeCall b z k element r out'
  unfolding type_exported rule_of count_word leaves over ◌then◌
  type_call k element section out r b' section' out' h copied room w =
      let ok = accepted b acc in
      let a = own_type_answer b (section_at (given b z rest).entries k) element in
      let fits = read_fits_lem 11 section out copied.whole room in
      let e : type_exported b section element out ≡ a = rw (fits, numbers-copied copied) in
      record {
        tells = a;
        answers = type-answers b ok z rest k h element a refl;
        refused_by = λ why q. w.rule-is ∙ ap rule_of (e ∙ q);
        type-is = λ n q.
            let few : n < 256 ^ 8 = omega (arith, type-few k element h n q) in
            (w.rule-is ∙ ap rule_of (e ∙ q), rw (w.type-is, fits, numbers-copied copied, q) (le-written 8 n _ few));
      }

sections-few : (b : List ℕ) (z room n : ℕ) → sections_answer b z room ≡ answer n → node_count b ≤ 4096
unfolding sections_answer sections_check
sections-few b z room n e =
    (table-laid b (table-passed b (then-first (image_check b) _ (gives-check (sections_check b z room) _ e)))).few

-- what the export of a zone's sections left, where its rule is 0
module _ (b : List ℕ) (z : ℕ) (out lent : List ℕ) where
  by_count : (n : ℕ) → words_fit 3 lent ≡ passed → sections_answer b z (length out / 11) ≡ answer n
      → SectionsGiven b z out (export_memory 3 lent out (section_numbers_memory b z out)) (export_bytes lent (count_words (sections_answer b z (length out / 11))))
  unfolding export_bytes export_memory count_words leaves over tree_of
  by_count n fits counted =
      let g = entries-given b z out counted in
      let numbers : length (all_numbers (section_entries (tree_of b) z)) ≡ 11 * section_count (tree_of b) z = g.claim.one_for_each.numbers_counted in
      let few : n < 256 ^ 8 = omega (arith, g.count-is, count-few (section_of (tree_of b) z) (node_count b) 0, sections-few b z (length out / 11) n counted) in
      record {
        count-is = rw (counted, fits) (le-written 8 n _ few ∙ g.count-is);
        list_is = rw fits (rw numbers at g.list_is);
        claim = rw numbers at g.claim;
      }

  pub sections-given : (r : ℕ) (out' lent' : List ℕ) → r ≡ export_rule 3 lent (sections_answer b z (length out / 11))
      → lent' ≡ export_bytes lent (count_words (sections_answer b z (length out / 11))) → out' ≡ export_memory 3 lent out (section_numbers_memory b z out)
      → r ≡ 0 → SectionsGiven b z out out' lent'
  unfolding export_rule words_fit none_of_entries tells_entry
  sections-given r out' lent' rule bytes memory zero =
      let s = sections_answer b z (length out / 11) in
      let fit = words_fit 3 lent in
      let a = answered (fit then s) (of_then fit s (of_check 0 _ refl) ((all_numbered b).of_sections z (length out / 11))) (sym rule ∙ zero) in
      rw (bytes, memory) (by_count a.0 (then-first fit s a.1) (then-second fit s a.1))
