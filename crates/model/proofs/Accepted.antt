-- What rules 1 to 18 passed, and what an acceptance say: each rule, asked for by its number, holds at each node.
use Prim.Native.Nat.{ℕ, ◌<◌}
use mathlib.Core.Path.{◌≡◌}
use mathlib.Core.Bool.{true}
use mathlib.Core.List.{List}
use native.Mathlib.Omega.{arith}
use lib.Dec.{eqb}
use Rattle.model.specs.Rules.{Check, answer, passed, check, ◌then◌}
use Rattle.model.specs.Image.{tree_of, node_count}
use Rattle.model.specs.Header.{header_check, header_rules}
use Rattle.model.specs.Records.{record_check_at, record_rules, record_check, trailing_check, table_check, nothing_trails}
use Rattle.model.specs.Containment.{role, Elements, validated}
use Rattle.model.specs.Values.{sids_rules}
use Rattle.model.specs.Elements.{connectivity_length, element_rules, reference_rules, reference_check_at, reference_check, parent_rules}
use Rattle.model.specs.Validation.{Counts, validation, image_check, node_check, node_check_at, section_check}
use Rattle.model.proofs.Passed.{Hold, Claim, claim, check_pass, then-first, then-second, at-entry_pass, gives-check, check_from-at}

-- rules 1 to 18 hold
module _ (b : List ℕ) (yes : table_check b ≡ passed) where
  pub header_holds : Hold (header_rules b)
  unfolding table_check header_check
  header_holds = check_pass 0 (header_rules b) (then-first (header_check b) _ yes)

  pub header_rule : (n : ℕ) → Claim n (header_rules b)
  header_rule n = claim n (header_rules b) header_holds

  records_passed : (record_check (tree_of b) then trailing_check (tree_of b)) ≡ passed
  unfolding table_check
  records_passed = then-second (header_check b) _ yes

  pub record_holds : (i : ℕ) → i < node_count b → Hold (record_rules (tree_of b) i)
  unfolding record_check record_check_at tree_of
  record_holds i h =
      check_pass i (record_rules (tree_of b) i)
      (check_from-at (record_check_at (tree_of b)) (node_count b) 0 i (then-first (record_check (tree_of b)) _ records_passed) (omega arith) (omega arith))

  pub record_rule : (n i : ℕ) → i < node_count b → Claim n (record_rules (tree_of b) i)
  record_rule n i h = claim n (record_rules (tree_of b) i) (record_holds i h)

  -- 18
  pub nothing_trails_lem : nothing_trails (tree_of b) ≡ true
  unfolding trailing_check
  nothing_trails_lem = (check_pass _ _ (then-second (record_check (tree_of b)) (trailing_check (tree_of b)) records_passed)).0

-- an accepted image
module _ (b : List ℕ) (yes : image_check b ≡ passed) where
  pub table-passed : table_check b ≡ passed
  unfolding image_check
  table-passed = then-first (table_check b) _ yes

  -- at a validated node
  module _ (i : ℕ) (h : i < node_count b) (v : validated (tree_of b) i ≡ true) where
    node-passed : (check i (sids_rules (tree_of b) i) then section_check (tree_of b) i) ≡ passed
    unfolding image_check node_check node_check_at tree_of
    node-passed = rw v at (check_from-at (node_check_at (tree_of b)) (node_count b) 0 i (then-second (table_check b) _ yes) (omega arith) (omega arith))

    node-holds : Hold (sids_rules (tree_of b) i)
    node-holds = check_pass i (sids_rules (tree_of b) i) (then-first _ (section_check (tree_of b) i) node-passed)

    -- at a section
    module _ (s : eqb (role (tree_of b) i) Elements ≡ true) where
      abbrev entries-then : Check
      entries-then = reference_check (tree_of b) i then check i (parent_rules (tree_of b) i)

      section-passed : (check i (element_rules (tree_of b) i) then entries-then) ≡ passed
      unfolding section_check
      section-passed = rw s at (then-second (check i (sids_rules (tree_of b) i)) (section_check (tree_of b) i) node-passed)

      section-holds : Hold (element_rules (tree_of b) i)
      section-holds = check_pass i (element_rules (tree_of b) i) (then-first _ entries-then section-passed)

      entries-passed : entries-then ≡ passed
      entries-passed = then-second (check i (element_rules (tree_of b) i)) entries-then section-passed

      entry-holds : (k : ℕ) → k < connectivity_length (tree_of b) i → Hold (reference_rules (tree_of b) i k)
      unfolding reference_check reference_check_at
      entry-holds k l =
          check_pass i (reference_rules (tree_of b) i k)
          (at-entry_pass _ _
          (check_from-at (reference_check_at (tree_of b) i) (connectivity_length (tree_of b) i) 0 k
          (then-first _ (check i (parent_rules (tree_of b) i)) entries-passed)
          (omega arith) (omega arith)))

      parents_hold : Hold (parent_rules (tree_of b) i)
      parents_hold = check_pass i (parent_rules (tree_of b) i) (then-second (reference_check (tree_of b) i) _ entries-passed)

  -- rules 20 to 26 at a validated node
  pub sids_rule : (n i : ℕ) → i < node_count b → validated (tree_of b) i ≡ true → Claim n (sids_rules (tree_of b) i)
  sids_rule n i h v = claim n (sids_rules (tree_of b) i) (node-holds i h v)

  -- rules 27 to 33 and 38 at a validated section
  pub element-rule : (n i : ℕ) → i < node_count b → validated (tree_of b) i ≡ true → eqb (role (tree_of b) i) Elements ≡ true → Claim n (element_rules (tree_of b) i)
  element-rule n i h v s = claim n (element_rules (tree_of b) i) (section-holds i h v s)

  -- rules 34 to 37 at an entry of its connectivity
  pub entry-rule : (n i : ℕ) → i < node_count b → validated (tree_of b) i ≡ true → eqb (role (tree_of b) i) Elements ≡ true
      → (k : ℕ) → k < connectivity_length (tree_of b) i → Claim n (reference_rules (tree_of b) i k)
  entry-rule n i h v s k l = claim n (reference_rules (tree_of b) i k) (entry-holds i h v s k l)

  -- 39 at a validated section
  pub parent-rule : (i : ℕ) → i < node_count b → validated (tree_of b) i ≡ true → eqb (role (tree_of b) i) Elements ≡ true → Claim 39 (parent_rules (tree_of b) i)
  parent-rule i h v s = claim 39 (parent_rules (tree_of b) i) (parents_hold i h v s)

-- the answer of validation is an acceptance where all its checks pass
pub accepted : (b : List ℕ) {c : Counts} → validation b ≡ answer c → image_check b ≡ passed
unfolding validation
accepted b e = gives-check (image_check b) _ e
