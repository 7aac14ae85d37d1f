-- The ranges of the sections that meet a test, one node after the other.
use Rattle.std.proofs.Common.{◌≡◌, ℕ, zero, suc, ◌+◌, ◌<◌, ◌≤◌, Bool, true, false, ◌||◌, leb, List, get_or, sym, refl, ap, ◌∙◌, add-zero, zero-add, add-one, arith, le-leb, leb-true}
use mathlib.Core.Bool.{or-false, or_assoc}
use Rattle.model.specs.Lists.{some_from, count_from}
use Rattle.model.proofs.Logic.{and_first, and_second, and_both}
use Rattle.model.proofs.Walks.{some_at}
use Rattle.ranges.specs.Tables.{holds, Inserted, meets_section, has, Gathered}
use Rattle.ranges.proofs.Halving.{met, meet}
use Rattle.ranges.proofs.Half.{count_next, count_room}

-- one number more, at the end
some-last : (p : ℕ → Bool) (k i : ℕ) → some_from p (suc k) i ≡ (some_from p k i || p (i + k))
unfolding some_from
some-last p zero i = rw add-zero (or-false (p i))
some-last p (suc k) i = let e : i + suc k ≡ suc i + k = omega arith in rw (e, some-last p k (suc i)) (sym (or_assoc (p i) _ _))

pub some_next : (p : ℕ → Bool) (i : ℕ) → some_from p (i + 1) 0 ≡ (some_from p i 0 || p i)
some_next p i = rw add-one (some-last p i 0 ∙ rw (zero-add i))

module _ (test : ℕ → Bool) (first_of last_of : ℕ → ℕ) where
  pub gathered_start : (firsts reach : List ℕ) → Gathered test first_of last_of firsts reach 0 0
  unfolding some_from
  gathered_start firsts reach =
      record {
        few = omega arith;
        ordered = omega arith;
        meets = λ a c. refl;
      }

module _ {test : ℕ → Bool} {first_of last_of : ℕ → ℕ} {firsts reach : List ℕ} {n i : ℕ} (g : Gathered test first_of last_of firsts reach n i) where
  -- node i does not meet the test
  pub gathered_skip : test i ≡ false → Gathered test first_of last_of firsts reach n (i + 1)
  unfolding meets_section
  gathered_skip e =
      record {
        few = rw (count_next test i, e) (omega (arith, g.few));
        ordered = g.ordered;
        meets = λ a c. g.meets a c ∙ sym (some_next (meets_section test first_of last_of a c) i ∙ rw e (or-false _));
      }

  -- node i does, and its range is put in
  pub gathered_more : {first last : ℕ} {firsts' reach' : List ℕ} {place : ℕ} → test i ≡ true → first ≡ first_of i → last ≡ last_of i
      → Inserted firsts reach n first last firsts' reach' place → Gathered test first_of last_of firsts' reach' (n + 1) (i + 1)
  unfolding meets_section
  gathered_more e a b t =
      record {
        few = rw (count_next test i, e) (omega (arith, g.few));
        ordered = t.ordered;
        meets = λ x y. t.meets x y ∙ rw (g.meets x y, a, b) (sym (some_next (meets_section test first_of last_of x y) i ∙ rw e));
      }

  -- there is room for its entry where the tables have room for all
  pub gathered-room : (N : ℕ) → i < N → test i ≡ true → n < count_from test N 0
  gathered-room N h e = omega (arith, g.few, count_room test i N h e)

  -- where the ranges of two sections do not meet, a number that the entry of a section holds is in its range
  pub gathered-has : ((s q : ℕ) → s < i → q < i → test s ≡ true → test q ≡ true → first_of s ≤ last_of q → first_of q ≤ last_of s → s ≡ q)
      → (f r s : ℕ) → r < n → holds firsts reach f r ≡ true → s < i → test s ≡ true → first_of s ≤ last_of s → get_or firsts r 0 ≡ first_of s
      → has test first_of last_of f s ≡ true
  unfolding meets_section
  gathered-has apart f r s h e l t b k =
      let d = met firsts reach f f r e in
      let a = get_or reach r 0 in
      let c = get_or firsts r 0 in
      let w = some_at (meets_section test first_of last_of a c) i 0 (sym (g.meets a c) ∙ meet firsts reach a c n r h (omega arith) (omega arith)) in
      let q = w.at in
      let v = and_second (test q) _ w.holds in
      let x = leb-true (first_of q) c (and_first _ (leb a (last_of q)) v) in
      let y = leb-true a (last_of q) (and_second (leb (first_of q) c) _ v) in
      let z = ap last_of (apart s q l (omega arith) t (and_first (test q) _ w.holds) (omega arith) (omega arith)) in
      and_both _ _ t (and_both _ _ (le-leb (first_of s) f (omega arith)) (le-leb f (last_of s) (omega arith)))
