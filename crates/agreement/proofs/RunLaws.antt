-- The cells still to come, entry by entry and node by node; the cell of an entry by the start offsets of its section.
use Prim.Native.Nat.{ℕ, zero, suc, ◌+◌, ◌-◌, ◌≤◌, ◌<◌}
use mathlib.Core.Path.{◌≡◌, refl, sym, ◌∙◌}
use mathlib.Core.Bool.{Bool, true, false, cond, ◌&&◌}
use mathlib.Core.List.{List, [], ◌∷◌, ◌++◌}
use native.Mathlib.Omega.{arith}
use native.Mathlib.Numerals.{add-one}
use native.Mathlib.Decide.{dec_lt}
use lib.Dec.{eqb, ltb}
use lib.ListN.{get_or}
use borrow.Author.Tests.{lt-ltb, ltb-true}
use Rattle.model.specs.Lists.{seek_from}
use Rattle.model.specs.Bytes.{magnitude}
use Rattle.model.specs.Image.{Tree, tree_of, node_count}
use Rattle.model.specs.Containment.{section_of}
use Rattle.model.specs.Values.{offsets_of}
use Rattle.model.specs.Elements.{NFACE, element_type_of, element_count, start_offset, starts_at_zero, all_rise, ends_at_length, connectivity_length, element_rules, face_number}
use Rattle.model.specs.Corner.{number_at}
use Rattle.model.specs.FaceUsage.{element_holding, uses_in}
use Rattle.model.specs.ParentElements.{users_in, users_from}
use Rattle.model.proofs.Logic.{when}
use Rattle.model.proofs.Walks.{seek_before, seek_holds}
use Rattle.model.proofs.InZone.{section-rule}
use Rattle.model.proofs.StartOffsets.{offsets-first, offsets-next, offsets-last}
use Rattle.rows.specs.declared.Row.{Row}
use Rattle.rows.specs.Rows.{ends_after_at}
use Rattle.face_places.specs.declared.zone_sections.Span.{Span}
use Rattle.face_places.specs.ZoneSections.{Cells, Spans}
use Rattle.face_places.proofs.Accepted.{own-zone, count_read}
use Rattle.face_uses.specs.Uses.{RowOf, Reference, References}
use Rattle.face_uses.proofs.Arrays.{has-offsets, element_read}
use Rattle.agreement.proofs.Steps.{matched-none, matched-same}
use Rattle.agreement.specs.declared.cells.Cell.{Cell}
use Rattle.agreement.specs.Arrays.{ArrayRow, Filled, AtMost}
use Rattle.agreement.specs.Matching.{Matched, with_user, users_after, users_on}

module _ (t : Tree) (z s f : ℕ) where
  -- one entry
  pub users_step : (k : ℕ) → k < uses_in t z s → users_after t z s k f ≡ with_user (face_number t s k) (element_holding t s k) (users_after t z s (k + 1)) f
  unfolding users_after users_in
  users_step k h =
      let e : uses_in t z s - k ≡ suc (uses_in t z s - (k + 1)) = omega arith in
      rw (e, add-one) (by_test (eqb (face_number t s k) f) _ _)
    where
      by_test : (u : Bool) (xs ys : List ℕ) → (cond u (element_holding t s k ∷ xs) xs ++ ys) ≡ cond u (element_holding t s k ∷ (xs ++ ys)) (xs ++ ys)
      by_test true xs ys = refl
      by_test false xs ys = refl

  -- all entries of a node
  pub users-end : (k : ℕ) → uses_in t z s ≤ k → users_after t z s k f ≡ users_on t z (s + 1) f
  unfolding users_after users_on users_in
  users-end k h = let e : uses_in t z s - k ≡ 0 = omega arith in rw (e, add-one)

  pub users_start : s < t.count → users_on t z s f ≡ users_after t z s 0 f
  unfolding users_after users_on users_from
  users_start h =
      let e : t.count - s ≡ suc (t.count - suc s) = omega arith in
      let d : uses_in t z s - 0 ≡ uses_in t z s = omega arith in rw (e, d)

  -- all nodes
  pub users-none : t.count ≤ s → users_on t z s f ≡ []
  unfolding users_on users_from
  users-none h = let e : t.count - s ≡ 0 = omega arith in rw e

-- the reference of an entry is the face that it uses
pub face-number : {b index : List ℕ} {z s : ℕ} {row : Row} {k : ℕ} → Reference b index z s row k
    → face_number (tree_of b) s k ≡ magnitude row.width (number_at b row.at row.width k)
unfolding face_number
face-number r = rw (r.wide, r.stored)

-- start offsets that rise
module _ {b : List ℕ} {o : Row} {n : ℕ} (g : Filled b o n) where
  abbrev start : ℕ → ℕ
  start k = number_at b o.at o.width k

  rises-on : (i d : ℕ) → i + d < o.n → start i ≤ start (i + d)
  rises-on i zero h = let e : i + 0 ≡ i = omega arith in rw e (omega arith)
  rises-on i (suc d) h =
      let e : i + suc d ≡ suc (i + d) = omega arith in
      let l = rises-on i d (omega arith) in
      let r = g.rise (i + d) (omega arith) in
      rw e (omega arith)

  -- the cell that holds an entry is the first that ends after it
  pub cell_is : {k : ℕ} {c : Cell} → AtMost b o k c → k < c.end → c.place ≡ seek_from (ends_after_at b o k) (o.n - 1) 0
  unfolding ends_after_at
  cell_is {k} {c} m h =
      let p = c.place in
      let x = seek_from (ends_after_at b o k) (o.n - 1) 0 in
      let e : p + 1 ≡ suc p = omega arith in
      let u : ltb k (start (suc p)) ≡ true = lt-ltb _ _ (rw (m.ends, e) at h) in
      let l : x ≤ p = seek_before (ends_after_at b o k) (o.n - 1) 0 p u (omega arith) (omega (arith, m.inside)) in
      let v : k < start (suc x) = ltb-true _ _ (seek_holds (ends_after_at b o k) (o.n - 1) 0 (omega (arith, m.inside))) in
      elim (dec_lt x p) [
        | yes d ↦
            let q : suc x + (p - suc x) ≡ p = omega arith in
            absurd (omega (arith, rw q at (rises-on (suc x) (p - suc x) (omega (arith, m.inside))), m.from))
        | no d ↦ omega arith
      ]

-- those of a cell section of an accepted image
module _ {b index : List ℕ} {s : ℕ} (c : Cells b index s) {p : Span} (g : Spans b s p) {o : Row} (w : RowOf b (offsets_of (tree_of b) s) (p.last - p.first + 2) o) where
  first-is : starts_at_zero (tree_of b) s ≡ true
  unfolding element_rules
  first-is = when _ _ (section-rule (own-zone c.section) 30) (has-offsets c)

  all_rise_lem : all_rise (tree_of b) s ≡ true
  unfolding element_rules
  all_rise_lem = when _ _ (section-rule (own-zone c.section) 31) (has-offsets c)

  last-is : ends_at_length (tree_of b) s ≡ true
  unfolding element_rules
  last-is = when _ _ (section-rule (own-zone c.section) 32) (has-offsets c)

  offset-is : (k : ℕ) → k ≤ element_count (tree_of b) s → start_offset (tree_of b) s k ≡ number_at b o.at o.width k
  unfolding start_offset
  offset-is k h = w.stored k (omega (arith, count_read g))

  pub offsets_filled : {n : ℕ} → n ≡ connectivity_length (tree_of b) s → Filled b o n
  offsets_filled e =
      let t = tree_of b in
      let count = count_read g in
      record {
        two = omega (arith, w.long);
        first = sym (offset-is 0 (omega arith)) ∙ offsets-first t s first-is all_rise_lem;
        rise = λ k h. rw (← offset-is k (omega (arith, w.long, count)), ← offset-is (suc k) (omega (arith, w.long, count))) (offsets-next t s first-is all_rise_lem k (omega (arith, w.long, count)));
        last =
            λ k h.
            let q : k ≡ element_count t s = omega (arith, w.long, count) in
            rw q (sym (offset-is _ (omega arith)) ∙ offsets-last t s first-is all_rise_lem last-is ∙ sym e);
      }

-- a node that brings entries: those of its connectivity
pub uses_length : (t : Tree) (z s : ℕ) → (uses_in t z s ≡ 0 → ⊥) → uses_in t z s ≡ connectivity_length t s
unfolding uses_in
uses_length t z s = by_test (section_of t z s && eqb (element_type_of t s) NFACE)
  where
    by_test : (u : Bool) → (cond u (connectivity_length t s) 0 ≡ 0 → ⊥) → cond u (connectivity_length t s) 0 ≡ connectivity_length t s
    by_test true h = refl
    by_test false h = absurd (h refl)

-- the references that a node brings, and its start offsets
module _ {b index : List ℕ} {z s : ℕ} {row : Row} (r : References b index z s row) (e : row.n ≡ 0 → ⊥) {p : Span} (g : Spans b s p) {o : Row}
    (w : RowOf b (offsets_of (tree_of b) s) (p.last - p.first + 2) o) where
  pub own-cells : Cells b index s
  own-cells = (r.each 0 (omega (arith, e))).cells

  pub cells_filled : Filled b o row.n
  cells_filled = offsets_filled own-cells g w (r.long ∙ uses_length (tree_of b) z s (λ q. e (r.long ∙ q)))

  pub element-is : {k : ℕ} {c : Cell} → AtMost b o k c × (k < c.end) → p.first + c.place ≡ element_holding (tree_of b) s k
  element-is {k} m = element_read own-cells g refl w k (cell_is cells_filled m.0 m.1)

-- the run over the entries of section s has come to entry k
pub record Going (b : List ℕ) (z s : ℕ) (offsets : Row) (arrays start out : List ℕ) (cell : Cell) (last : ℕ) (array : Row) (k : ℕ) : Type 0 where
  pub at : AtMost b offsets k cell
  pub known : last < 2048 → ArrayRow b (get_or arrays last 0) array
  pub done : Matched b z (users_on (tree_of b) z s) (users_after (tree_of b) z s k) start true out

module _ {b : List ℕ} {z s : ℕ} (h : s < node_count b) {bytes : List ℕ} where
  -- it has come to none yet
  pub start_none : Matched b z (users_on (tree_of b) z s) (users_after (tree_of b) z s 0) bytes true bytes
  unfolding tree_of
  start_none = matched-same (λ f. users_start (tree_of b) z s f h) (λ f. refl) matched-none

  -- a node that brings no entries
  pub no_uses : uses_in (tree_of b) z s ≡ 0 → Matched b z (users_on (tree_of b) z s) (users_on (tree_of b) z (s + 1)) bytes true bytes
  unfolding tree_of
  no_uses e = matched-same (λ f. users_start (tree_of b) z s f h ∙ users-end (tree_of b) z s f 0 (omega arith)) (λ f. refl) matched-none

-- one use more, as it was made
pub one_more : {b index : List ℕ} {z s : ℕ} {row : Row} {k element : ℕ} → Reference b index z s row k → k < uses_in (tree_of b) z s → element ≡ element_holding (tree_of b) s k
    → {bytes after : List ℕ} {r : Bool}
    → ((left : ℕ → List ℕ) → Matched b z (with_user (magnitude row.width (number_at b row.at row.width k)) element left) left bytes r after)
    → Matched b z (users_after (tree_of b) z s k) (users_after (tree_of b) z s (k + 1)) bytes r after
one_more {b} {index} {z} {s} {row} {k} w h e m =
    matched-same
    (λ f. users_step (tree_of b) z s f k h ∙ rw (face-number w, ← e))
    (λ f. refl) (m (users_after (tree_of b) z s (k + 1)))
