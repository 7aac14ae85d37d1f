-- An element's range: by a product with no overflow, by its start offsets, and that both make what the model reads.
use Prim.Native.Nat.{ℕ, suc, ◌+◌, ◌*◌, ◌-◌, ◌≤◌, ◌<◌}
use mathlib.Core.Path.{◌≡◌, refl, sym, ◌∙◌}
use mathlib.Core.Bool.{Bool, true, false, cond, not, ◌&&◌, ◌||◌, and-false, or-true}
use mathlib.Core.List.{List}
use native.Mathlib.Omega.{arith}
use native.Mathlib.Nat.{add-zero, suc-mul}
use lib.Dec.{eqb, leb, ltb}
use Rattle.std.specs.Prelude.{Option, Some, None}
use Rattle.std.proofs.lemmas.Option.{IfSome_then}
use borrow.Author.Tests.{eqb-true, eq-eqb, ltb-true, lt-ltb, le-ltb, le-leb, lt-leb}
use Rattle.model.specs.declared.Section.{Section}
use Rattle.model.specs.Lists.{◌⊃◌, row}
use Rattle.model.specs.Bytes.{half, negative, below}
use Rattle.model.specs.Elements.{MIXED, NGON, NFACE, has_offsets, nodes_per, taken, start_of, own_type, corner_place, fits_length, type_fits}
use Rattle.model.specs.Corner.{number_at, layout_in, entry_start, starts_before, readable}
use Rattle.corners.specs.declared.spans.Span.{Span}
use Rattle.corners.specs.Spans.{provided, held, fixed_span, range_between, offset_span, behind_type, mixed_span, span_of, SpanIn, SpanInside}
use Rattle.model.proofs.Logic.{and_first, and_second, or_cases}
use Rattle.rows.proofs.Rows.{same_test}

module _ (k m n : ℕ) where
  pub fixed_none : m ≡ 0 → None ≡ fixed_span k m n
  unfolding fixed_span
  fixed_none e = let z : suc k * m ≤ k * m = omega (arith, suc-mul k m) in simp (le-ltb _ _ z)

  pub fixed_beyond : n < k * m + m → None ≡ fixed_span k m n
  unfolding fixed_span
  fixed_beyond h = rw (suc-mul, lt-leb _ _ h, and-false)

  pub fixed_range : 0 < m → k * m + m ≤ n → Some (record { start = k * m; end = k * m + m }) ≡ fixed_span k m n
  unfolding fixed_span
  fixed_range p h = rw suc-mul (let l : k * m < k * m + m = omega arith in simp (lt-ltb _ _ l, le-leb _ _ h))

-- start offsets by their bits
module _ (w start end n : ℕ) where
  pub end-negative : half w ≤ end → None ≡ range_between w start end n
  unfolding range_between negative below
  end-negative h = simp (le-leb _ _ h) (by_test (leb (half w) start))
    where
      by_test : (t : Bool) → None ≡ provided ((not t && cond t (ltb start end) false) && leb end n) (Some (record { start = start; end = end }))
      by_test true = refl
      by_test false = refl

  pub not_rising : end ≤ start → None ≡ range_between w start end n
  unfolding range_between negative below
  not_rising h = simp (le-ltb _ _ h) (by_test (leb (half w) start) (leb (half w) end))
    where
      by_test : (t u : Bool) → None ≡ provided ((not t && cond t (not u || false) (not u && false)) && leb end n) (Some (record { start = start; end = end }))
      by_test true u = refl
      by_test false true = refl
      by_test false false = refl

  pub rising : start < end → end < half w → range_between w start end n ≡ provided (leb end n) (Some (record { start = start; end = end }))
  unfolding range_between negative below
  rising h l = let m : start < half w = omega arith in simp (lt-leb _ _ m, lt-leb _ _ l, lt-ltb _ _ h)

-- an element of a MIXED section by whether its own type fits
module _ (b : List ℕ) {y : ℕ} (at w start end : ℕ) {own : ℕ} {fits : Bool} (m : y ≡ MIXED) (p : own ≡ number_at b at w start)
    (q : fits ≡ fits_length own (end - start)) where
  pub type_apart : fits ≡ false → None ≡ mixed_span b y at w (Some (record { start = start; end = end }))
  unfolding mixed_span behind_type
  type_apart f = rw (eq-eqb y MIXED m, ← p, ← q, f)

  pub type_in_front : fits ≡ true → Some (record { start = start + 1; end = end }) ≡ mixed_span b y at w (Some (record { start = start; end = end }))
  unfolding mixed_span behind_type
  type_in_front f = rw (eq-eqb y MIXED m, ← p, ← q, f)

pub fits_two : (y n : ℕ) → fits_length y n ≡ true → 2 ≤ n
unfolding fits_length
fits_two y n e =
    let m = nodes_per y in
    let h = ltb-true 0 m (and_first (ltb 0 m) _ e) in
    let q : 1 + m ≡ n = eqb-true _ _ (and_second (ltb 0 m) _ e) in
    omega arith

-- rule 43's tests in the reader's order, for a type with start offsets and for one with nodes per element
by_offsets : (g : Option Span → Option Span) → g None ≡ None → (t i j r l f : Bool) (s u : Option Span) → g s ≡ provided f u
    → provided ((t || true) && i && j && r && l && f) u ≡ provided i (g (provided j (provided (r && l) s)))
by_offsets g n t false j r l f s u q = rw or-true
by_offsets g n t true false r l f s u q = rw (or-true, n)
by_offsets g n t true true r l f s u q = rw or-true (by_test (r && l))
  where
    by_test : (x : Bool) → provided (x && f) u ≡ g (provided x s)
    by_test true = sym q
    by_test false = sym n

by_nodes : (t u i l : Bool) (s : Option Span) → t ≡ u → provided ((t || false) && i && true && u && l && true) s ≡ provided i (provided (u && l) s)
by_nodes t false i l s e = rw e (by_test i)
  where
    by_test : (i : Bool) → None ≡ provided i None
    by_test false = refl
    by_test true = refl
by_nodes t true false l s e = rw e
by_nodes t true true true s e = rw e
by_nodes t true true false s e = rw e

-- an element of m nodes has a corner where m is not 0
has-node : (k m : ℕ) → ltb 0 m ≡ ltb (k * m) (suc k * m)
has-node k m = let e = suc-mul k m in same_test 1 m (suc (k * m)) (suc k * m) (λ h. omega arith) (λ h. omega arith)

-- the types with start offsets: MIXED, and those of any size
offsets_of_lem : (y : ℕ) {m : Bool} → eqb y MIXED ≡ m → (eqb y NGON || eqb y NFACE) ≡ false → has_offsets y ≡ m
unfolding has_offsets
offsets_of_lem y q a = rw q (by_tests _ (eqb y NGON) (eqb y NFACE) a)
  where
    by_tests : (m n f : Bool) → (n || f) ≡ false → (m || n || f) ≡ m
    by_tests true n f e = refl
    by_tests false false f e = e
    by_tests false true f e = e

any_offsets : (y : ℕ) → (eqb y NGON || eqb y NFACE) ≡ true → (has_offsets y ≡ true) × (eqb y MIXED ≡ false)
unfolding has_offsets
any_offsets y a = or_cases (eqb y NGON) (eqb y NFACE) a (λ q. rw (eqb-true y NGON q) (refl, refl)) (λ q. rw (eqb-true y NFACE q) (refl, refl))

has-nodes : (y : ℕ) → 0 < nodes_per y → eqb y MIXED ≡ false
unfolding nodes_per row
has-nodes y h = by_test (eqb y MIXED) refl
  where
    by_test : (t : Bool) → eqb y MIXED ≡ t → t ≡ false
    by_test true q = let z = rw (eqb-true y MIXED q) at h in absurd (omega arith)
    by_test false q = refl

not-mixed : (y : ℕ) → has_offsets y ≡ false → eqb y MIXED ≡ false
unfolding has_offsets
not-mixed y h = by_tests (eqb y MIXED) _ _ h
  where
    by_tests : (m n f : Bool) → (m || n || f) ≡ false → m ≡ false
    by_tests true n f q = q
    by_tests false n f q = refl

-- an element by its start offsets; in a MIXED section its corners
by_offsets_lem : List ℕ → Section → ℕ → Option Span
by_offsets_lem b e k =
    let s = offset_span b e.offsets_at e.offsets_width k e.connectivity_length in
    cond (eqb e.element_type MIXED) (behind_type b e.connectivity_at e.connectivity_width s) s

module _ (b : List ℕ) (e : Section) (k : ℕ) where
  by_offsets-is : has_offsets e.element_type ≡ true → span_of b e k ≡ provided (held b e) (by_offsets_lem b e k)
  unfolding span_of readable taken starts_before entry_start start_of own_type corner_place type_fits layout_in offset_span range_between behind_type by_offsets_lem ◌⊃◌
  by_offsets-is h = by_type (eqb e.element_type MIXED) refl
    where
      by_type : (m : Bool) → eqb e.element_type MIXED ≡ m → span_of b e k ≡ provided (held b e) (by_offsets_lem b e k)
      by_type true m =
          rw (h, m)
          (by_offsets (behind_type b e.connectivity_at e.connectivity_width) refl (ltb 0 (nodes_per e.element_type)) _ _ _ _ _
          (Some _) _ refl)
      by_type false m = rw (h, m, add-zero) (by_offsets (λ s. s) refl (ltb 0 (nodes_per e.element_type)) _ _ _ _ true _ _ refl)

  span_is : span_of b e k
      ≡ provided (held b e)
      (cond (has_offsets e.element_type) (by_offsets_lem b e k) (fixed_span k (nodes_per e.element_type) e.connectivity_length))
  unfolding span_of readable taken starts_before entry_start start_of corner_place layout_in fixed_span ◌⊃◌
  span_is = by_type (has_offsets e.element_type) refl
    where
      by_type : (h : Bool) → has_offsets e.element_type ≡ h → span_of b e k
          ≡ provided (held b e) (cond h (by_offsets_lem b e k) (fixed_span k (nodes_per e.element_type) e.connectivity_length))
      by_type true q = by_offsets-is q
      by_type false q =
          rw (q, not-mixed _ q, add-zero) (by_nodes (ltb 0 (nodes_per e.element_type)) _ _ _ _ (has-node k (nodes_per e.element_type)))

  -- what the reader finds
  pub span_outside : held b e ≡ false → None ≡ span_of b e k
  span_outside q = rw (span_is, q)

  abbrev Found : Option Span → Type 0
  Found s = (s ≡ span_of b e k) × SpanInside b e s

  inside_too : (s : Option Span) → held b e ≡ true → SpanIn e.connectivity_length s → SpanInside b e s
  inside_too s h l = IfSome_then s l (λ x p. (p.0, p.1, h))

  abbrev Any : Bool
  Any = eqb e.element_type NGON || eqb e.element_type NFACE

  module _ {s : Option Span} (i : held b e ≡ true) where
    pub any_found : Any ≡ true → (s ≡ offset_span b e.offsets_at e.offsets_width k e.connectivity_length) × SpanIn e.connectivity_length s
        → Found s
    unfolding by_offsets_lem
    any_found a f = let t = any_offsets e.element_type a in (rw (span_is, i, t.0, t.1) f.0, inside_too s i f.1)

    module _ (a : Any ≡ false) {m : ℕ} (n : m ≡ nodes_per e.element_type) where
      pub mixed-found : {u : Option Span} → m < 1 → u ≡ offset_span b e.offsets_at e.offsets_width k e.connectivity_length
          → (s ≡ mixed_span b e.element_type e.connectivity_at e.connectivity_width u) × SpanIn e.connectivity_length s → Found s
      unfolding by_offsets_lem mixed_span
      mixed-found h o f = (by_type (eqb e.element_type MIXED) refl, inside_too s i f.1)
        where
          by_type : (t : Bool) → eqb e.element_type MIXED ≡ t → s ≡ span_of b e k
          by_type true q = rw (span_is, i, offsets_of_lem e.element_type q a, q, ← o) (rw q at f.0)
          by_type false q = rw (span_is, i, offsets_of_lem e.element_type q a) ((rw q at f.0) ∙ fixed_none _ _ _ (omega (arith, n)))

      pub nodes-found : 1 ≤ m → (s ≡ fixed_span k m e.connectivity_length) × SpanIn e.connectivity_length s → Found s
      nodes-found h f = (rw (span_is, i, offsets_of_lem e.element_type (has-nodes e.element_type (omega (arith, n))) a) (rw n at f.0), inside_too s i f.1)
