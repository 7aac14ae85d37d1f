-- Numbers of a column that are parents: known ones, and those looked up. The two columns of a node as rows of the image's bytes.
use Prim.Native.Nat.{ℕ, ◌+◌, ◌*◌, ◌<◌}
use mathlib.Core.Path.{◌≡◌, refl, sym, ◌∙◌}
use mathlib.Core.Bool.{Bool, true, false, ◌&&◌, ◌||◌}
use mathlib.Core.List.{List}
use native.Mathlib.Omega.{arith}
use native.Mathlib.Nat.{mul_assoc, mul-add, add_assoc}
use native.Mathlib.Decide.{dec_lt}
use lib.Dec.{eqb, leb}
use borrow.Author.Tests.{le-leb, lt-leb}
use Rattle.model.specs.Lists.{every_from}
use Rattle.model.specs.Image.{Tree, tree_of, width, number}
use Rattle.model.specs.Given.{Sound}
use Rattle.model.specs.Values.{max_number}
use Rattle.model.specs.Corner.{number_at}
use Rattle.model.proofs.Logic.{or_left, or_right, or_cases}
use Rattle.model.proofs.Walks.{every_same, every_both}
use Rattle.rows.specs.declared.Row.{Row}
use Rattle.rows.specs.Rows.{Numbers}
use Rattle.ranges.specs.declared.Interval.{Interval}
use Rattle.ranges.specs.Tables.{key, in_ranges, is_within, Covered}
use Rattle.section_data.specs.Given.{Stores}
use Rattle.section_data.specs.Passing.{Passed}
use Rattle.section_data.specs.Ranges.{TableOf, Cells}
use Rattle.section_data.proofs.Stored.{data_from_lem, stores_row, stores-number}
use Rattle.section_data.proofs.TableLaws.{covered-is}
use Rattle.parents.specs.Parents.{is_parent, is_known, known_at, parent_at, pair_at}

-- a number that was looked up, whatever it is
looked_up : {p : ℕ → ℕ → Bool} {firsts reach : List ℕ} {n : ℕ} → TableOf p firsts reach n → (z x : ℕ)
    → (leb x max_number && in_ranges firsts reach n (key z x)) ≡ p z x
looked_up g z x =
    elim (dec_lt max_number x) [
      | yes h ↦ rw (lt-leb x max_number h) (sym (g.small z x h))
      | no h ↦ rw (le-leb x max_number (omega arith)) (g.in_ranges_lem z x (omega arith))
    ]

-- number k of a row is an allowed 0; it is none where it is not known
abbrev pub none_at : Bool → List ℕ → Row → ℕ → Bool
none_at none b row k = none && eqb (number_at b row.at row.width k) 0

pub not_none : (none : Bool) (b : List ℕ) (row : Row) (k : ℕ) (r : Interval) → known_at b row r none k ≡ false → none_at none b row k ≡ false
unfolding known_at is_known
not_none none b row k r e = neither (none_at none b row k) (is_within r _) e
  where
    neither : (a c : Bool) → (a || c) ≡ false → a ≡ false
    neither true c h = h
    neither false c h = refl

-- the numbers of a row in zone z
module _ (t : Tree) {firsts reach : List ℕ} {n : ℕ} (g : Cells t firsts reach n) (z : ℕ) (none : Bool) (b : List ℕ) (row : Row) where
  -- known numbers are parents
  pub known_parents : {r : Interval} {k j : ℕ} → Covered firsts reach n z r → Passed (known_at b row r none) row.n k j
      → Passed (parent_at t z none b row) row.n k j
  unfolding known_at is_known parent_at is_parent
  known_parents {r} c s =
      record {
        from = s.from;
        to = s.to;
        each = λ i x y. let v = number_at b row.at row.width i in
            or_cases (none && eqb v 0) (is_within r v) (s.each i x y) (or_left _ _) (λ w. or_right (none && eqb v 0) _ (covered-is g z c v w));
      }

  -- number k is x, which is looked up: an interval holds it, or no range does
  module _ (k : ℕ) {x : ℕ} (e : x ≡ number_at b row.at row.width k) where
    pub found-parent : {r : Interval} → Covered firsts reach n z r → is_within r x ≡ true → parent_at t z none b row k ≡ true
    unfolding parent_at is_parent
    found-parent c w = rw (← e) (or_right (none && eqb x 0) _ (covered-is g z c x w))

    pub no_parent_lem : none_at none b row k ≡ false → (leb x max_number && in_ranges firsts reach n (key z x)) ≡ false → parent_at t z none b row k ≡ false
    unfolding parent_at is_parent
    no_parent_lem v h = rw (v, ← e) (sym (looked_up g z x) ∙ h)

-- node j stores two columns of n numbers, from `at` on
module _ {b : List ℕ} (g : Sound b) {j : ℕ} (n : ℕ) (o : Stores b j (n * 2)) {at w : ℕ} (p : at ≡ data_from_lem b j) (q : w ≡ width (tree_of b) j) where
  both : Numbers b at w (n * 2)
  both = rw (p, q) (stores_row g o)

  twice : w * (n * 2) ≡ w * n + w * n
  twice = rw (← mul_assoc w n 2) (omega arith)

  pub first_column : Numbers b at w n
  first_column = record { wide = both.wide; inside = omega (arith, both.inside, twice) }

  pub second_column : Numbers b (at + w * n) w n
  second_column = record { wide = both.wide; inside = omega (arith, both.inside, twice) }

  number_is : (k : ℕ) → k < n * 2 → number (tree_of b) j k ≡ number_at b at w k
  number_is k h = rw (p, q) (stores-number g o k h)

  behind : (k : ℕ) → number_at b at w (n + k) ≡ number_at b (at + w * n) w k
  unfolding number_at
  behind k = rw (mul-add w n k, add_assoc at (w * n) (w * k))

  pub columns_are : (z : ℕ) → every_from (pair_at (tree_of b) z j n) n 0
      ≡ (every_from (parent_at (tree_of b) z false b (record { at = at; width = w; n = n })) n 0
      && every_from (parent_at (tree_of b) z true b (record { at = at + w * n; width = w; n = n })) n 0)
  unfolding pair_at parent_at
  columns_are z =
      let first = parent_at (tree_of b) z false b (record { at = at; width = w; n = n }) in
      let second = parent_at (tree_of b) z true b (record { at = at + w * n; width = w; n = n }) in
      every_same (pair_at (tree_of b) z j n) (λ (k : ℕ). first k && second k) n 0
      (λ k x h. rw (number_is k (omega arith), number_is (n + k) (omega arith), behind k))
      ∙ every_both first second n 0
