-- A zone's section entries: one for each of its sections, in node order. A read with the k-th entry is the corner reader's at the k-th section.
use Prim.Native.Nat.{ℕ, ◌+◌, ◌*◌, ◌<◌}
use mathlib.Core.Path.{◌≡◌, ap, ◌∙◌}
use mathlib.Core.Bool.{true}
use mathlib.Core.List.{List, ◌++◌}
use native.Mathlib.Omega.{arith}
use lib.ListN.{length, length-append}
use Rattle.model.specs.Image.{Tree, tree_of}
use Rattle.model.specs.Containment.{section_of}
use Rattle.model.specs.Sections.{section_nodes, entry, entries, section_entries, all_numbers}
use Rattle.model.specs.Corner.{corner_answer}
use Rattle.model.specs.Reads.{entries_in, section_at, read_answer}
use Rattle.model.specs.Demand3.{section_count, section_node, given, OneForEach}
use Rattle.model.proofs.Members.{list_length, Within, member, members_rise, place}
use Rattle.model.proofs.Flat.{numbers-length, entries-length, entry_at}
use Rattle.model.proofs.Runs.{read_listed}
use Rattle.model.proofs.Logic.{neither}

module _ (t : Tree) (z : ℕ) where
  pub nodes_counted : length (section_nodes t z) ≡ section_count t z
  unfolding section_nodes
  nodes_counted = list_length (section_of t z) t.count 0

  numbers_counted : length (all_numbers (section_entries t z)) ≡ 11 * section_count t z
  unfolding section_entries
  numbers_counted =
      numbers-length (entries t (section_nodes t z)) ∙ ap (λ (n : ℕ). 11 * n) (entries-length t (section_nodes t z) ∙ nodes_counted)

  pub section-at : (k : ℕ) → k < section_count t z → Within (section_of t z) t.count 0 (section_node t z k)
  unfolding section_nodes
  section-at k h = member (section_of t z) t.count 0 k (omega (arith, nodes_counted))

  sections-rise : (j k : ℕ) → j < k → k < section_count t z → section_node t z j < section_node t z k
  unfolding section_nodes
  sections-rise j k l h = members_rise (section_of t z) t.count 0 j k l (omega (arith, nodes_counted))

  pub section-listed : (s : ℕ) → s < t.count → section_of t z s ≡ true → (k : ℕ) × (k < section_count t z) × (section_node t z k ≡ s)
  unfolding section_nodes
  section-listed s l e =
      let p = place (section_of t z) t.count 0 s (record { from = omega arith; to = omega arith; holds = e }) in
      (p.0, omega (arith, p.1, nodes_counted), p.2)

  -- no section is listed twice
  pub listed_once : (j k : ℕ) → j < section_count t z → k < section_count t z → section_node t z j ≡ section_node t z k → j ≡ k
  listed_once j k l m e = neither j k (λ p. omega (arith, sections-rise j k p m)) (λ p. omega (arith, sections-rise k j p l))

-- a read with the k-th entry is the corner reader's, with the entry of the k-th section
module _ (b : List ℕ) (z : ℕ) (rest : List ℕ) (k : ℕ) (h : k < section_count (tree_of b) z) where
  pub entry_listed : k < entries_in (given b z rest).entries
  entry_listed =
      let n : length (all_numbers (section_entries (tree_of b) z) ++ rest) ≡ 11 * section_count (tree_of b) z + length rest =
      rw length-append (rw (numbers_counted (tree_of b) z)) in
      omega arith

  pub entry-is : section_at (given b z rest).entries k ≡ entry (tree_of b) (section_node (tree_of b) z k)
  unfolding section_entries
  entry-is = entry_at (tree_of b) (section_nodes (tree_of b) z) rest k (omega (arith, nodes_counted (tree_of b) z))

  pub read_is : (el c : ℕ) → read_answer b (given b z rest).entries k el c ≡ corner_answer b (entry (tree_of b) (section_node (tree_of b) z k)) el c
  read_is el c = read_listed b (given b z rest).entries k el c entry_listed ∙ rw entry-is

pub one_for_each : (b : List ℕ) (z : ℕ) (rest : List ℕ) → OneForEach b z rest
one_for_each b z rest =
    record {
      nodes_counted = nodes_counted (tree_of b) z;
      numbers_counted = numbers_counted (tree_of b) z;
      each-is = λ k h. let w = section-at (tree_of b) z k h in (omega (arith, w.to), w.holds);
      in_order = sections-rise (tree_of b) z;
      each-listed = section-listed (tree_of b) z;
      each-entry = entry-is b z rest;
    }
