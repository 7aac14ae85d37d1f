-- Rules 38 and 34 of a MIXED section against its two rows. Elements fill the connectivity one after the other, and of each the first entry alone is a
-- type number: so asking the nodes of each element in turn is asking every entry that is none, in their order.
use Prim.Native.Nat.{ℕ, suc, ◌+◌, ◌-◌, ◌≤◌, ◌<◌}
use mathlib.Core.Path.{◌≡◌, sym, ◌∙◌}
use mathlib.Core.Bool.{true, false}
use mathlib.Core.List.{List}
use native.Mathlib.Omega.{arith}
use native.Mathlib.Numerals.{add-one}
use borrow.Author.Tests.{eqb-true, eq-eqb}
use Rattle.model.specs.Lists.{◌⊃◌, every_from}
use Rattle.model.specs.Rules.{check, passed, rejected, rejection, rejection_at}
use Rattle.model.specs.Image.{tree_of, parent}
use Rattle.model.specs.Given.{Sound}
use Rattle.model.specs.Values.{size, vertex_size, offsets_of, connectivity_of}
use Rattle.model.specs.Elements.{MIXED, has_offsets, element_type_of, element_count, lengths_fit, start_offset, element_start, start_of, own_type}
use Rattle.model.specs.Elements.{NFACE, starts_at_zero, all_rise, ends_at_length, type_fits, layout_of, all_types_fit, starts_at, is_type_number, is_node, reference_check}
use Rattle.model.proofs.Logic.{when, or_left}
use Rattle.model.proofs.Walks.{some_by}
use Rattle.model.proofs.Loops.{EveryLeft, every_start, every_more, every_stop, every_done}
use Rattle.model.proofs.Passed.{Hold, check_pass, then-on, then-off}
use Rattle.model.proofs.StartOffsets.{offsets-first, offsets-next, offsets-last}
use Rattle.model.proofs.Layouts.{no_type_between}
use Rattle.model.proofs.TwosComplement.{rise-last}
use Rattle.rows.specs.declared.Row.{Row}
use Rattle.rows.specs.Rows.{Numbers}
use Rattle.references.specs.Arrays.{is_within, Failing}
use Rattle.references.specs.Groups.{shape_rules, type_rules, connectivity_check}
use Rattle.section_data.specs.Given.{RowOf}
use Rattle.references.specs.Mixed.{fits_in, start_at, fits_at, Filled, MixedRows}
use Rattle.model.proofs.Walks.{every_same}
use Rattle.references.proofs.Failing.{failing_start, failing_on, failing_behind}
use Rattle.section_data.proofs.ArrayLaws.{row-numbers, row_number}
use Rattle.references.proofs.RuleLaws.{long-is, reference-is, node-same, nodes-kept, nodes_broken}

-- an element ends in the connectivity
start_inside : {b : List ℕ} {o c : Row} {n : ℕ} → Filled b o c n → (k : ℕ) → k < n → start_at b o (suc k) ≤ c.n
start_inside {b} {o} {c} {n} f k h =
    let r = rise-last n (start_at b o) f.rise (suc k) (n - suc k) (omega arith) in
    omega (arith, f.last)

module _ (b : List ℕ) (s : ℕ) (e : element_type_of (tree_of b) s ≡ MIXED) (shape : check s (shape_rules (tree_of b) s) ≡ passed) where
  tests : Hold (shape_rules (tree_of b) s)
  tests = check_pass s (shape_rules (tree_of b) s) shape

  -- 29: there are n + 1 start offsets
  pub offsets_counted : size (tree_of b) (offsets_of (tree_of b) s) ≡ element_count (tree_of b) s + 1
  unfolding shape_rules lengths_fit has_offsets
  offsets_counted = eqb-true _ _ (rw e at tests.0)

  -- 30, 31, 32
  first-is : starts_at_zero (tree_of b) s ≡ true
  unfolding shape_rules has_offsets
  first-is = when _ _ tests.1.0 (rw e)

  all_rise_lem : all_rise (tree_of b) s ≡ true
  unfolding shape_rules has_offsets
  all_rise_lem = when _ _ tests.1.1.0 (rw e)

  last-is : ends_at_length (tree_of b) s ≡ true
  unfolding shape_rules has_offsets
  last-is = when _ _ tests.1.1.1.0 (rw e)

  start_offset_lem : (k : ℕ) → element_start (tree_of b) s k ≡ start_offset (tree_of b) s k
  unfolding element_start start_of layout_of has_offsets
  start_offset_lem k = rw e

  start_rises : (k : ℕ) → k < element_count (tree_of b) s → element_start (tree_of b) s k < element_start (tree_of b) s (suc k)
  start_rises k h = rw (start_offset_lem k, start_offset_lem (suc k)) (offsets-next (tree_of b) s first-is all_rise_lem k h)

  module _ (g : Sound b) {o c : Row} (offsets : RowOf b (offsets_of (tree_of b) s) o) (connectivity : RowOf b (connectivity_of (tree_of b) s) c) where
    count-is : o.n ≡ element_count (tree_of b) s + 1
    count-is = offsets.long ∙ offsets_counted

    offset-is : (k : ℕ) → k ≤ element_count (tree_of b) s → start_offset (tree_of b) s k ≡ start_at b o k
    unfolding start_offset
    offset-is k h = row_number g offsets k (omega (arith, count-is))

    filled : Filled b o c (element_count (tree_of b) s)
    filled =
        record {
          count = count-is;
          first = sym (offset-is 0 (omega arith)) ∙ offsets-first (tree_of b) s first-is all_rise_lem;
          rise = λ k h. rw (← offset-is k (omega arith), ← offset-is (suc k) h) (offsets-next (tree_of b) s first-is all_rise_lem k h);
          last = sym (offset-is _ (omega arith)) ∙ offsets-last (tree_of b) s first-is all_rise_lem last-is ∙ long-is g s connectivity;
        }

    start_is : (k : ℕ) → k ≤ element_count (tree_of b) s → element_start (tree_of b) s k ≡ start_at b o k
    start_is k h = start_offset_lem k ∙ offset-is k h

    -- 38
    fits_same : (k : ℕ) → k < element_count (tree_of b) s → fits_at b o c k ≡ type_fits (layout_of (tree_of b) s) k
    unfolding fits_at fits_in type_fits own_type layout_of element_start
    fits_same k h =
        rw (start_is k (omega arith), start_is (suc k) h, e, reference-is g s connectivity (start_at b o k) (omega (arith, filled.rise k h, start_inside filled k h)))

    all_fit : every_from (fits_at b o c) (element_count (tree_of b) s) 0 ≡ all_types_fit (tree_of b) s
    unfolding all_types_fit
    all_fit = every_same (fits_at b o c) (type_fits (layout_of (tree_of b) s)) (element_count (tree_of b) s) 0 (λ k l h. fits_same k (omega arith))

    -- 34: an element begins with a type number, and no other entry of it is one
    module _ (limit : ℕ) (v : limit ≡ vertex_size (tree_of b) (parent (tree_of b) s) 0) where
      first-type : (k : ℕ) → k < element_count (tree_of b) s → is_node (tree_of b) s (start_at b o k) ≡ true
      unfolding is_node is_type_number starts_at
      first-type k h =
          or_left (is_type_number (tree_of b) s (start_at b o k)) _ (rw e
          (some_by (starts_at (tree_of b) s (start_at b o k)) (element_count (tree_of b) s) 0 k (eq-eqb _ _ (start_is k (omega arith))) (omega arith) (omega arith)))

      others-nodes : (k p : ℕ) → k < element_count (tree_of b) s → start_at b o k < p → p < start_at b o (suc k)
          → is_node (tree_of b) s p ≡ is_within b c.at c.width limit p
      others-nodes k p h from to =
          sym (node-same g s connectivity limit v p (omega (arith, start_inside filled k h))
          (no_type_between (tree_of b) s start_rises k p h (rw (start_is k (omega arith)) from) (rw (start_is (suc k) h) to)))

      -- the nodes of element k
      element-nodes : (k : ℕ) → k < element_count (tree_of b) s → {place : ℕ}
          → Failing (is_within b c.at c.width limit) c.n (start_at b o k + 1) (start_at b o (suc k)) place
          → Failing (is_node (tree_of b) s) c.n (start_at b o k) (start_at b o (suc k)) place
      element-nodes k h f =
          failing_behind (filled.rise k h) (start_inside filled k h) (first-type k h) (λ p from to. sym (others-nodes k p h from to)) f

-- the pass over the elements: k of them have a type that fits, and `place` tells of their nodes
pub record Walked (b : List ℕ) (s : ℕ) (o c : Row) (k start place : ℕ) : Type 0 where
  pub start_at_lem : start ≡ start_at b o k
  pub fits : EveryLeft (fits_at b o c) (o.n - 1) k (every_from (fits_at b o c) (o.n - 1) 0)
  pub nodes : Failing (is_node (tree_of b) s) c.n 0 start place

module _ {b : List ℕ} {s : ℕ} {o c : Row} {limit : ℕ} (m : MixedRows b s o c limit) where
  count : o.n - 1 ≡ element_count (tree_of b) s
  count = omega (arith, count-is b s m.mixed m.shaped m.sound m.offsets m.connectivity)

  all_filled : Filled b o c (element_count (tree_of b) s)
  all_filled = filled b s m.mixed m.shaped m.sound m.offsets m.connectivity

  types_are : every_from (fits_at b o c) (o.n - 1) 0 ≡ all_types_fit (tree_of b) s
  types_are = rw count (all_fit b s m.mixed m.shaped m.sound m.offsets m.connectivity)

  pub some-offset : 0 < o.n
  some-offset = omega (arith, all_filled.count)

  pub offset-row : Numbers b o.at o.width o.n
  offset-row = row-numbers m.sound m.offsets

  pub reference-row : Numbers b c.at c.width c.n
  reference-row = row-numbers m.sound m.connectivity

  pub walked_start : Walked b s o c 0 0 0
  walked_start = record { start_at_lem = sym all_filled.first; fits = every_start (fits_at b o c) (o.n - 1); nodes = failing_start (is_node (tree_of b) s) c.n }

  module _ {k start end place : ℕ} (w : Walked b s o c k start place) (h : k < o.n - 1) (e : end ≡ start_at b o (k + 1)) where
    inside : k < element_count (tree_of b) s
    inside = omega (arith, count)

    next : end ≡ start_at b o (suc k)
    next = rw add-one at e

    -- where the element stands
    pub start_before : start < end
    start_before = rw (w.start_at_lem, next) (all_filled.rise k inside)

    pub end-inside : end ≤ c.n
    end-inside = rw next (start_inside all_filled k inside)

    fits_is : fits_at b o c k ≡ fits_in b c start end
    unfolding fits_at
    fits_is = rw (w.start_at_lem, next)

    pub walked_on : {later : ℕ} → fits_in b c start end ≡ true
        → (0 < place → later ≡ place) × (place ≡ 0 → Failing (is_within b c.at c.width limit) c.n (start + 1) end later)
        → Walked b s o c (k + 1) end later
    walked_on f l =
        record {
          start_at_lem = e;
          fits = every_more w.fits h (fits_is ∙ f);
          nodes = failing_on w.nodes (omega (arith, start_before)) l.0
              (λ z. rw (w.start_at_lem, next)
              (element-nodes b s m.mixed m.shaped m.sound m.offsets m.connectivity limit m.vertices k inside
              (rw (w.start_at_lem, next) at (l.1 z))));
        }

    pub walked_off : fits_in b c start end ≡ false → rejected (rejection 38 s) ≡ connectivity_check (tree_of b) s
    unfolding connectivity_check type_rules check ◌⊃◌
    walked_off f = sym (then-off (reference_check (tree_of b) s) (rw (m.mixed, ← types_are, ← every_stop w.fits h (fits_is ∙ f))))

  module _ {k start place : ℕ} (w : Walked b s o c k start place) (h : o.n - 1 ≤ k) where
    all_walked : start ≡ c.n
    all_walked = let q : k ≡ element_count (tree_of b) s = omega (arith, w.fits.inside, count) in w.start_at_lem ∙ rw q all_filled.last

    references_left : connectivity_check (tree_of b) s ≡ reference_check (tree_of b) s
    unfolding connectivity_check type_rules check ◌⊃◌
    references_left = then-on (reference_check (tree_of b) s) (rw (m.mixed, ← types_are, ← every_done w.fits h))

    no_cells : element_type_of (tree_of b) s ≡ NFACE → ⊥
    no_cells q = let z : MIXED ≡ NFACE = sym m.mixed ∙ q in absurd (omega arith)

    pub walked_kept : place ≡ 0 → passed ≡ connectivity_check (tree_of b) s
    walked_kept z =
        rw references_left
        (nodes-kept (tree_of b) s (long-is m.sound s m.connectivity) no_cells (rw all_walked at (w.nodes.none z)))

    pub walked_broken : (place ≡ 0 → ⊥) → rejected (rejection_at 34 s place) ≡ connectivity_check (tree_of b) s
    walked_broken d =
        let l : 0 < place = omega (arith, d) in
        let f = w.nodes.before l in
        let q : place ≡ place - 1 + 1 = omega arith in
        rw (references_left, q)
        (nodes_broken (tree_of b) s (long-is m.sound s m.connectivity) no_cells (f.0, omega (arith, f.1, all_walked), w.nodes.fails l))
