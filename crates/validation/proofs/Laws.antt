-- Rules 20 to 26, then a section's own; and a count as a loop meets it.
use Prim.Native.Nat.{ℕ, ◌+◌, ◌-◌, ◌≤◌, ◌<◌}
use mathlib.Core.Path.{◌≡◌, refl, sym, ◌∙◌}
use mathlib.Core.Bool.{Bool, true, false, ◌&&◌}
use mathlib.Core.List.{List}
use native.Mathlib.Omega.{arith}
use native.Mathlib.Decide.{ℕ_discrete}
use lib.Dec.{ltb}
use Rattle.std.specs.Int.{from_bool}
use borrow.Author.Tests.{ltb-true}
use lib.ListN.{get_or}
use Rattle.model.proofs.Logic.{and_first, and_second, when}
use Rattle.model.proofs.Accepted.{sids_rule}
use Rattle.model.proofs.Reading.{rank_is}
use Rattle.model.specs.Lists.{count_from}
use Rattle.model.specs.declared.Rejection.{Rejection}
use Rattle.model.specs.Rules.{answer, rejected, rejection, ◌gives◌, passed, check, check_from, ◌then◌}
use Rattle.model.specs.Image.{Tree, tree_of, node_count, node, parent, dimensions}
use Rattle.model.specs.Containment.{Zone, Elements, validated, skipped, validated_as}
use Rattle.model.specs.Values.{sids_rules, sized_array, sizes_lawful, data_sizes}
use Rattle.types.proofs.StoredNumbers.{shaped-is}
use Rattle.model.specs.DataSize.{is_sized_array, sizes_of, data_size_answer}
use Rattle.model.specs.Given.{Accepted}
use Rattle.model.specs.Validation.{section_check, node_check_at, node_check, image_check, counts}
use Rattle.model.proofs.Walks.{count_from_step, count_from-end, count_both}
use Rattle.model.proofs.Passed.{check_from-on, check_from-off, check_from-end}

pub node-skipped : (t : Tree) (i : ℕ) → validated t i ≡ false → passed ≡ node_check_at t i
unfolding node_check_at
node-skipped t i e = rw e

pub node_checked : (t : Tree) (i : ℕ) → validated t i ≡ true → (check i (sids_rules t i) then section_check t i) ≡ node_check_at t i
unfolding node_check_at
node_checked t i e = rw e

-- what a loop has counted before i, of n
pub record Counted (p : ℕ → Bool) (n i count : ℕ) : Type 0 where
  pub within : i ≤ n
  pub least : count ≤ i
  pub rest : count + count_from p (n - i) i ≡ count_from p n 0

module _ {p : ℕ → Bool} {n i count : ℕ} (c : Counted p n i count) where
  -- one number more
  pub more_counted : {x : ℕ} (t : Bool) → i < n → t ≡ p i → x ≡ from_bool t → Counted p n (i + 1) (count + x)
  more_counted true h e f =
      let s = rw (sym e) at (count_from_step p n i h) in
      record { within = omega arith; least = omega (arith, c.least); rest = omega (arith, c.rest, s) }
  more_counted false h e f =
      let s = rw (sym e) at (count_from_step p n i h) in
      record { within = omega arith; least = omega (arith, c.least); rest = omega (arith, c.rest, s) }

  pub all_counted : n ≤ i → (count ≡ count_from p n 0) × (count ≤ n)
  all_counted h = let s = count_from-end p n i h in (omega (arith, c.rest, s), omega (arith, c.least, c.within))

pub none_counted : (p : ℕ → Bool) (n : ℕ) → Counted p n 0 0
none_counted p n = let e : n - 0 ≡ n = omega arith in record { within = omega arith; least = omega arith; rest = rw e (omega arith) }

-- every node before i passed, and what is left from i on decides
pub record NodesLeft (t : Tree) (n i : ℕ) : Type 0 where
  pub within : i ≤ n
  pub before : (j : ℕ) → j < i → node_check_at t j ≡ passed
  pub whole : node_check t ≡ check_from (node_check_at t) (n - i) i

pub nodes_start : (t : Tree) (n : ℕ) → n ≡ t.count → NodesLeft t n 0
unfolding node_check
nodes_start t n e =
    let z : n - 0 ≡ t.count = omega arith in
    record { within = omega arith; before = λ j h. absurd (omega arith); whole = rw z }

module _ {t : Tree} {n i : ℕ} (l : NodesLeft t n i) where
  pub nodes-on : i < n → node_check_at t i ≡ passed → NodesLeft t n (i + 1)
  nodes-on h e =
      record {
        within = omega arith;
        before = λ j k. elim (ℕ_discrete j i) [
          | yes q ↦ rw q e
          | no m ↦ l.before j (omega (arith, m))
        ];
        whole = l.whole ∙ sym (check_from-on (node_check_at t) n i h e);
      }

  pub nodes-off : {r : Rejection} → i < n → node_check_at t i ≡ rejected r → node_check t ≡ rejected r
  nodes-off h e = l.whole ∙ check_from-off (node_check_at t) n i h e

  pub nodes-end : n ≤ i → node_check t ≡ passed
  nodes-end h = l.whole ∙ check_from-end (node_check_at t) n i h

-- the counts of an acceptance; what is not validated is skipped
pub counts_are : (t : Tree) (n v k z s : ℕ) → n ≡ t.count → v ≡ count_from (validated t) n 0 → k ≡ n - v → z ≡ count_from (validated_as t Zone) n 0
    → s ≡ count_from (validated_as t Elements) n 0 → answer (record { validated = v; skipped = k; zones = z; sections = s }) ≡ answer (counts t)
unfolding counts skipped
counts_are t n v k z s en ev ek ez es =
    let w : k ≡ count_from (skipped t) n 0 = omega (arith, count_both (validated t) (skipped t) n 0 (λ j. refl)) in
    rw (w, ev, ez, es, en)

-- the data size call: the verdict's refusal, 40, or the sizes
module _ (b : List ℕ) (i : ℕ) where
  pub size_refused : {r : Rejection} → image_check b ≡ rejected r → rejected r ≡ data_size_answer b i
  unfolding data_size_answer ◌gives◌ ◌then◌
  size_refused e = rw e

  pub no_array : image_check b ≡ passed → is_sized_array (tree_of b) i ≡ false → rejected (rejection 40 0) ≡ data_size_answer b i
  unfolding data_size_answer ◌gives◌ ◌then◌ check
  no_array e f = rw (e, f)

  pub array_answered : image_check b ≡ passed → is_sized_array (tree_of b) i ≡ true
      → answer (sizes_of (data_sizes (tree_of b) (parent (tree_of b) i))) ≡ data_size_answer b i
  unfolding data_size_answer ◌gives◌ ◌then◌ check
  array_answered e f = rw (e, f)

  pub sized_parts : is_sized_array (tree_of b) i ≡ true → (i < node_count b) × ((sized_array (tree_of b) i ≡ true) × (validated (tree_of b) i ≡ true))
  unfolding is_sized_array tree_of
  sized_parts e =
      let f = and_first (ltb i (node_count b) && sized_array (tree_of b) i) _ e in
      let v = and_second (ltb i (node_count b) && sized_array (tree_of b) i) _ e in
      (ltb-true i (node_count b) (and_first (ltb i (node_count b)) _ f), (and_second (ltb i (node_count b)) _ f, v))

-- 26: the dimensions of an accepted array are DataSize
pub array_dimensions : (b : List ℕ) → Accepted b → (i : ℕ) → i < node_count b → validated (tree_of b) i ≡ true → sized_array (tree_of b) i ≡ true
    → dimensions (tree_of b) i ≡ data_sizes (tree_of b) (parent (tree_of b) i)
unfolding sids_rules sizes_lawful
array_dimensions b a i h v e = shaped-is (tree_of b) i _ (when (sized_array (tree_of b) i) _ (sids_rule b a.image 26 i h v) e)

pub sizes-answered : (t : Tree) (i : ℕ) {d : List ℕ} → dimensions t i ≡ d
    → answer (record { directions = (node t i).rank; i = get_or (dimensions t i) 0 0; j = get_or (dimensions t i) 1 0; k = get_or (dimensions t i) 2 0 })
    ≡ answer (sizes_of d)
unfolding sizes_of
sizes-answered t i e = rw (← e, rank_is t i)
