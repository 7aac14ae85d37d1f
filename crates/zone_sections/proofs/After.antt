-- The sections of a zone after a node: all of them after the zone itself, and one less after the next.
use Prim.Native.Nat.{ℕ, suc, ◌+◌, ◌-◌, ◌≤◌, ◌<◌}
use mathlib.Core.Path.{◌≡◌, refl, sym, ap, ◌∙◌}
use mathlib.Core.Bool.{Bool, true, false}
use mathlib.Core.List.{List, ◌∷◌}
use native.Mathlib.Omega.{arith}
use native.Mathlib.Numerals.{add-one}
use lib.ListN.{length, get_or, drop}
use lib.Dec.{eqb, ltb}
use borrow.Author.Tests.{ltb-true, ltb-false}
use Rattle.model.specs.Lists.{count_from, seek_from}
use Rattle.model.specs.Image.{tree_of, node_count, parent}
use Rattle.model.specs.Containment.{Elements, validated_as, section_of}
use Rattle.model.specs.Given.{Sound, Accepted}
use Rattle.model.specs.Sections.{section_nodes}
use Rattle.std.proofs.Common.{Option, None, Some, MatchOption}
use Rattle.std.specs.Prelude.{IsSome}
use Rattle.model.specs.Found.{if_below}
use Rattle.model.proofs.Found.{is_some, is_none, the_some}
use Rattle.model.proofs.Logic.{and_second}
use Rattle.model.proofs.Walks.{seek_holds}
use Rattle.model.proofs.Loops.{SeekLeft, seek_skip, list_skip, seek_stop, seek_done}
use Rattle.model.proofs.Children.{no_child}
use Rattle.model.proofs.Members.{list_length}
use Rattle.zone_sections.specs.After.{sections_after, AcceptedSection}
use Rattle.zone_sections.proofs.Walk.{list_found, list_none, Counted}

-- a zone's sections have higher numbers than the zone
module _ (b : List ℕ) (s : Sound b) (z : ℕ) (h : z < node_count b) where
  none_before : (j : ℕ) → 0 ≤ j → j < 0 + (z + 1) → section_of (tree_of b) z j ≡ false
  unfolding section_of
  none_before j l m = rw (no_child b s z h j (omega arith))

  pub all_after : sections_after (tree_of b) z z ≡ section_nodes (tree_of b) z
  unfolding sections_after section_nodes tree_of
  all_after =
      let e : z + 1 + (node_count b - (z + 1)) ≡ node_count b = omega arith in
      let o : 0 + (z + 1) ≡ z + 1 = omega arith in
      sym (rw (e, o) at (list_skip (section_of (tree_of b) z) (z + 1) (node_count b - (z + 1)) 0 none_before))

  -- so the count may start after it
  pub none_counted : Counted (section_of (tree_of b) z) (node_count b) (z + 1) 0 (length (section_nodes (tree_of b) z))
  unfolding sections_after tree_of
  none_counted =
      let k = node_count b - (z + 1) in
      let l : count_from (section_of (tree_of b) z) k (z + 1) ≡ length (section_nodes (tree_of b) z)
      = sym (list_length (section_of (tree_of b) z) k (z + 1)) ∙ ap length all_after in
      record { inside = omega arith; few = omega arith; rest = omega (arith, l) }

-- the first of the numbers from s on
passed_to : (p : ℕ → Bool) (s n i : ℕ) → s ≤ i → i ≤ n → ((k : ℕ) → s ≤ k → k < i → p k ≡ false) → SeekLeft p n i (seek_from p (n - s) s)
passed_to p s n i l h f =
    let e : i - s + (n - i) ≡ n - s = omega arith in
    let q : s + (i - s) ≡ i = omega arith in
    record { inside = h; rest = rw (e, q) at (sym (seek_skip p (i - s) (n - i) s (λ j a b. f j a (omega arith)))) }

pub found_after : (p : ℕ → Bool) (s n : ℕ) (r : Option ℕ) → s ≤ n
    → MatchOption r ((k : ℕ) → s ≤ k → k < n → p k ≡ false) (λ i. (s ≤ i) × (i < n) × (p i ≡ true) × ((k : ℕ) → s ≤ k → k < i → p k ≡ false))
    → r ≡ if_below n (seek_from p (n - s) s)
found_after p s n None h f = rw (← seek_done (passed_to p s n n h (omega arith) f) (omega arith)) (sym (is_none (omega arith)))
found_after p s n (Some i) h (u, l, e, f) = rw (← seek_stop (passed_to p s n i u (omega arith) f) l e) (sym (is_some l))

-- the next section after node i, where there is one
module _ (b : List ℕ) (z i : ℕ) (h : i < node_count b) (some : 0 < length (sections_after (tree_of b) z i)) where
  abbrev pub next : ℕ
  next = seek_from (section_of (tree_of b) z) (node_count b - (i + 1)) (i + 1)

  inside : next < i + 1 + (node_count b - (i + 1))
  unfolding sections_after tree_of
  inside = by_test (ltb next (i + 1 + k)) refl
    where
      k : ℕ
      k = node_count b - (i + 1)

      by_test : (t : Bool) → ltb next (i + 1 + k) ≡ t → next < i + 1 + k
      by_test true e = ltb-true next (i + 1 + k) e
      by_test false e = absurd (omega (arith, some, list_none (section_of (tree_of b) z) k (i + 1) (ltb-false next (i + 1 + k) e)))

  after_is : sections_after (tree_of b) z i ≡ next ∷ sections_after (tree_of b) z next
  unfolding sections_after tree_of
  after_is =
      let e : i + 1 + (node_count b - (i + 1)) - suc next ≡ node_count b - (next + 1) = omega arith in
      rw (e, ← add-one next) at (list_found (section_of (tree_of b) z) (node_count b - (i + 1)) (i + 1) inside)

  -- the search finds it
  pub next_some : IsSome (if_below (node_count b) next)
  next_some = let l : next < node_count b = omega (arith, inside) in rw (is_some l)

  pub next_found : {s : ℕ} → Some s ≡ if_below (node_count b) next → s ≡ next
  next_found e = (the_some (sym e)).0

  pub next-is : next ≡ get_or (sections_after (tree_of b) z i) 0 0
  next-is = rw after_is

  next-holds : validated_as (tree_of b) Elements next ≡ true
  unfolding section_of
  next-holds = and_second (eqb (parent (tree_of b) next) z) _ (seek_holds (section_of (tree_of b) z) (node_count b - (i + 1)) (i + 1) inside)

  pub next-section : Accepted b → AcceptedSection b next
  next-section a = record { accepted = a; inside = omega (arith, inside); is-section = next-holds }

  -- and those after it
  pub after_next : sections_after (tree_of b) z next ≡ drop 1 (sections_after (tree_of b) z i)
  after_next = rw after_is
