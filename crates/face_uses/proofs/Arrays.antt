-- The arrays of a cell section of an accepted image: its start offsets and its connectivity.
use Prim.Native.Nat.{ℕ, zero, suc, ◌+◌, ◌-◌, ◌≤◌, ◌<◌}
use mathlib.Core.Path.{◌≡◌, refl, sym, ◌∙◌}
use mathlib.Core.Bool.{Bool, true, false, ◌&&◌}
use mathlib.Core.List.{List}
use native.Mathlib.Omega.{arith}
use lib.Dec.{eqb}
use borrow.Author.Tests.{eqb-true, lt-ltb}
use Rattle.model.specs.Lists.{seek_from}
use Rattle.model.specs.Image.{tree_of, node_count, width}
use Rattle.model.specs.Given.{Sound, Accepted}
use Rattle.model.specs.Containment.{found, section_of}
use Rattle.model.specs.Values.{offsets_of, connectivity_of}
use Rattle.model.specs.Elements.{NFACE, has_offsets, element_type_of, element_count, start_offset, element_start, connectivity_length, reference}
use Rattle.model.specs.Elements.{start_of, layout_of}
use Rattle.model.specs.FaceUsage.{ends_after, element_holding, uses_in}
use Rattle.model.proofs.Logic.{and_first, and_second}
use Rattle.model.proofs.Conforming.{section-is}
use Rattle.model.proofs.InZone.{role-is, connectivity, offsets, offsets-size}
use Rattle.rows.specs.declared.Row.{Row}
use Rattle.rows.specs.Rows.{ends_after_at}
use Rattle.index.specs.Index.{Index}
use Rattle.section_data.specs.Given.{Stores, Indexed, RowOf as NodeRow}
use Rattle.section_data.proofs.ArrayLaws.{row-numbers, row_number, row_is}
use Rattle.section_data.proofs.Stored.{data_from_lem, stores_row, stores-number, connectivity-stores, offsets-stores}
use Rattle.face_places.specs.declared.zone_sections.Span.{Span}
use Rattle.face_places.specs.ZoneSections.{Cells, Spans}
use Rattle.face_uses.specs.Uses.{RowOf, References}
use Rattle.face_places.proofs.Accepted.{section_by, own-zone, count_read, cells_faces}

-- the numbers of node j, as they were read
pub row_read : {b : List ℕ} → Sound b → {j n : ℕ} → Stores b j n → {at w : ℕ} → at ≡ data_from_lem b j → w ≡ width (tree_of b) j
    → RowOf b j n (record { at = at; width = w; n = n })
row_read s g p q = rw (p, q) (record { long = refl; numbers = stores_row s g; wide = refl; stored = stores-number s g })

-- two searches with tests that agree
seek_same : (p q : ℕ → Bool) (k i : ℕ) → ((j : ℕ) → i ≤ j → j < i + k → p j ≡ q j) → seek_from p k i ≡ seek_from q k i
unfolding seek_from
seek_same p q zero i e = refl
seek_same p q (suc k) i e = rw (e i (omega arith) (omega arith), seek_same p q k (suc i) (λ j l h. e j (omega arith) (omega arith)))

-- a section of type 23
pub cells_by : {b index : List ℕ} → Accepted b → Index b index → (z s : ℕ) → s < node_count b
    → (section_of (tree_of b) z s && eqb (element_type_of (tree_of b) s) NFACE) ≡ true → Cells b index s
cells_by {b} a i z s h e =
    record { section = section_by a i z s h (and_first (section_of (tree_of b) z s) _ e); cells = eqb-true _ _ (and_second (section_of (tree_of b) z s) _ e) }

module _ {b index : List ℕ} {s : ℕ} (c : Cells b index s) where
  pub has-offsets : has_offsets (element_type_of (tree_of b) s) ≡ true
  unfolding has_offsets
  has-offsets = rw c.cells

  -- its start offsets, and the element that holds an entry
  module _ {r : Span} (g : Spans b s r) where
    pub cells-offsets : {j : ℕ} → j ≡ offsets_of (tree_of b) s → Stores b j (r.last - r.first + 2)
    unfolding found tree_of
    cells-offsets q =
        let o = own-zone c.section in
        let e : element_count (tree_of b) s + 1 ≡ r.last - r.first + 2 = omega (arith, count_read g) in
        rw (q, ← e, ← offsets-size o has-offsets)
        (offsets-stores c.section.accepted.sound s (role-is o) (lt-ltb _ _ (offsets o has-offsets).inside-table)).numbers

    pub element_read : {j : ℕ} {row : Row} → j ≡ offsets_of (tree_of b) s → RowOf b j (r.last - r.first + 2) row → (k : ℕ) {x : ℕ}
        → x ≡ seek_from (ends_after_at b row k) (row.n - 1) 0 → r.first + x ≡ element_holding (tree_of b) s k
    unfolding element_holding ends_after ends_after_at element_start start_of layout_of start_offset
    element_read {j} {row} q w k f =
        let e : row.n - 1 ≡ element_count (tree_of b) s = omega (arith, w.long, count_read g) in
        rw (f, e, g.is-first, seek_same (ends_after_at b row k) (ends_after (tree_of b) s k) (element_count (tree_of b) s) 0 (λ i l h. ends_same i (omega arith)))
      where
        ends_same : (i : ℕ) → i < element_count (tree_of b) s → ends_after_at b row k i ≡ ends_after (tree_of b) s k i
        ends_same i h = rw (has-offsets, ← w.stored (suc i) (omega (arith, count_read g)), q)

  -- its connectivity
  connectivity-inside : connectivity_of (tree_of b) s < node_count b
  connectivity-inside = (connectivity (own-zone c.section)).inside-table

  pub cells-connectivity : {j : ℕ} → j ≡ connectivity_of (tree_of b) s → Indexed b j
  unfolding found tree_of
  cells-connectivity q = rw q (connectivity-stores c.section.accepted.sound s (role-is (own-zone c.section)) (lt-ltb _ _ connectivity-inside))

  -- as it was read
  pub references : {j : ℕ} → j ≡ connectivity_of (tree_of b) s → {z : ℕ} → (section_of (tree_of b) z s && eqb (element_type_of (tree_of b) s) NFACE) ≡ true
      → {r : Row} → NodeRow b j r → References b index z s r
  unfolding uses_in reference connectivity_length
  references q {z} o w =
      let g = c.section.accepted.sound in
      let v = row_is q w in
      let e : _ ≡ connectivity_length (tree_of b) s = v.long in
      let p = (section-is (tree_of b) z s (and_first (section_of (tree_of b) z s) _ o)).parent_is in
      record {
        numbers = row-numbers g v;
        long = v.long ∙ rw o;
        each =
            λ k h.
            record {
              cells = c;
              zone = p;
              wide = sym v.wide;
              stored = row_number g v k h;
              face = cells_faces c.section.accepted z s c.section.inside o k (omega (arith, e));
            };
      }

-- a node that brings none
pub no_references : (b index : List ℕ) (z s : ℕ) → (section_of (tree_of b) z s && eqb (element_type_of (tree_of b) s) NFACE) ≡ false
    → References b index z s (record { at = 0; width = 4; n = 0 })
unfolding uses_in
no_references b index z s e = record { numbers = record { wide = tt; inside = omega arith }; long = rw e; each = λ k h. absurd (omega arith) }
