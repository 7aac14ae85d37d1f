-- A list that is filled with a zone's entries, one after the other.
use Prim.Native.Nat.{ℕ, suc, ◌+◌, ◌*◌, ◌≤◌, ◌<◌}
use mathlib.Core.Path.{◌≡◌, refl, sym, ap, ◌∙◌}
use mathlib.Core.List.{List, [], ◌∷◌, ◌++◌, append_assoc}
use native.Mathlib.Omega.{arith}
use native.Mathlib.Numerals.{add-one}
use native.Mathlib.Nat.{add-zero}
use lib.ListN.{length, get_or, take, drop, set, length-append, length-drop, length-set}
use lib.Seq.{sets, sets-eq, take-suc, take-append_seam, drop-append-add, drop-drop, get_or-drop, length-take-le, take-length}
use Rattle.model.specs.declared.Section.{Section}
use Rattle.model.specs.Lists.{over}
use Rattle.model.specs.Image.{Tree, tree_of, node_count}
use Rattle.model.specs.Given.{Sound, Accepted}
use Rattle.model.specs.Sections.{section_nodes, entry, entries, section_entries, entry_numbers, all_numbers}
use Rattle.model.proofs.Flat.{numbers-length, entries-length}
use Rattle.zone_sections.specs.After.{sections_after, Onward}
use Rattle.sections.specs.Due.{EntriesDue}
use Rattle.zone_sections.proofs.After.{next-is, next-section, after_next, all_after}

module _ {A : Type 0} where
  -- what is stored right after what was written
  pub over_more : (out new more : List A) → length new + length more ≤ length out → sets (over out new) (length new) more ≡ over out (new ++ more)
  unfolding over
  over_more out new more h =
      sets-eq more (new ++ drop (length new) out) (length new) (rw (length-append, length-drop) (omega arith))
      ∙ rw (take-append_seam, drop-append-add, drop-drop, length-append)

entries-append : (t : Tree) (xs ys : List ℕ) → entries t (xs ++ ys) ≡ entries t xs ++ entries t ys
unfolding entries
entries-append t [] ys = refl
entries-append t (x ∷ xs) ys = ap (λ (r : List Section). entry t x ∷ r) (entries-append t xs ys)

numbers-append : (es fs : List Section) → all_numbers (es ++ fs) ≡ all_numbers es ++ all_numbers fs
unfolding all_numbers
numbers-append [] fs = refl
numbers-append (e ∷ es) fs =
    ap (λ (r : List ℕ). entry_numbers e ++ r) (numbers-append es fs) ∙ sym (append_assoc (entry_numbers e) (all_numbers es) (all_numbers fs))

-- the entries of the zone's first n sections
abbrev pub first_entries : Tree → ℕ → ℕ → List Section
first_entries t z n = entries t (take n (section_nodes t z))

-- the entries of the first k of some nodes
module _ (t : Tree) (ns : List ℕ) (k : ℕ) (h : k < length ns) where
  one_entry : entries t (take (suc k) ns) ≡ entries t (take k ns) ++ (entry t (get_or ns k 0) ∷ [])
  unfolding entries
  one_entry = ap (entries t) (take-suc ns k 0 h) ∙ entries-append t (take k ns) (get_or ns k 0 ∷ [])

  taken-length : length (entries t (take k ns)) ≡ k
  taken-length = entries-length t (take k ns) ∙ length-take-le k ns (omega arith)

  pub store_entry : (out ws : List Section) (e : Section) → ws ≡ over out (entries t (take k ns)) → e ≡ entry t (get_or ns k 0) → length ns ≤ length out
      → set ws k e ≡ over out (entries t (take (k + 1) ns))
  store_entry out ws e f g l =
      let m = over_more out (entries t (take k ns)) (entry t (get_or ns k 0) ∷ []) (omega (arith, taken-length)) in
      rw (f, g, add-one k, one_entry) (rw taken-length at m)

  one_more : all_numbers (entries t (take (suc k) ns)) ≡ all_numbers (entries t (take k ns)) ++ entry_numbers (entry t (get_or ns k 0))
  unfolding all_numbers entry_numbers
  one_more = ap all_numbers one_entry ∙ numbers-append (entries t (take k ns)) (entry t (get_or ns k 0) ∷ [])

  pub store_numbers : (out ws : List ℕ) (e : Section) → ws ≡ over out (all_numbers (entries t (take k ns))) → e ≡ entry t (get_or ns k 0)
      → 11 * length ns ≤ length out → sets ws (11 * k) (entry_numbers e) ≡ over out (all_numbers (entries t (take (k + 1) ns)))
  unfolding entry_numbers
  store_numbers out ws e f g l =
      let n : length (all_numbers (entries t (take k ns))) ≡ 11 * k = numbers-length (entries t (take k ns)) ∙ ap (λ (m : ℕ). 11 * m) taken-length in
      let m = over_more out (all_numbers (entries t (take k ns))) (entry_numbers (entry t (get_or ns k 0))) (omega (arith, n)) in
      rw (f, g, add-one k, one_more) (rw n at m)

-- k of the zone's sections were visited, the last of them at node i
pub record Visited (b : List ℕ) (z i k : ℕ) : Type 0 where
  pub inside : i < node_count b
  pub rest : sections_after (tree_of b) z i ≡ drop k (section_nodes (tree_of b) z)

pub none_visited : (b : List ℕ) → Sound b → (z : ℕ) → z < node_count b → Visited b z z 0
none_visited b s z h = record { inside = h; rest = all_after b s z h }

module _ {b : List ℕ} {z i k : ℕ} (v : Visited b z i k) (h : k < length (section_nodes (tree_of b) z)) where
  pub some_left : 0 < length (sections_after (tree_of b) z i)
  some_left = rw (v.rest, length-drop) (omega arith)

  pub next-entry : {e : Section} → e ≡ entry (tree_of b) (get_or (sections_after (tree_of b) z i) 0 0) → e ≡ entry (tree_of b) (get_or (section_nodes (tree_of b) z) k 0)
  next-entry q =
      let ns = section_nodes (tree_of b) z in
      let g = ap (λ (l : List ℕ). get_or l 0 0) v.rest ∙ get_or-drop k ns 0 0 ∙ ap (λ (m : ℕ). get_or ns m 0) (add-zero k) in
      q ∙ ap (entry (tree_of b)) g

  pub one_visited : Accepted b → {e : Section} → e ≡ entry (tree_of b) (get_or (sections_after (tree_of b) z i) 0 0) → Visited b z e.node (k + 1)
  unfolding entry
  one_visited a q =
      let n = next-is b z i v.inside some_left in
      rw (q, ← n)
      (record {
        inside = (next-section b z i v.inside some_left a).inside;
        rest = after_next b z i v.inside some_left ∙ ap (drop 1) v.rest ∙ drop-drop 1 k (section_nodes (tree_of b) z);
      })

-- i of the n entries that are due are stored in out, the last at node at
pub record Filled (b : List ℕ) (z n : ℕ) (out ws : List Section) (at i : ℕ) : Type 0 where
  pub few : i ≤ n
  pub stored : ws ≡ over out (first_entries (tree_of b) z i)
  pub same : length ws ≡ length out
  pub visited : 0 < n → Visited b z at i

pub none-stored : {b index : List ℕ} {z n : ℕ} {out : List Section} → EntriesDue b index z (length out) n → Filled b z n out out z 0
unfolding over entries
none-stored {b} d = record { few = omega arith; stored = refl; same = refl; visited = λ h. none_visited b (d.accepted_where h).sound _ (d.zone_where h) }

module _ {b index : List ℕ} {z n at i : ℕ} {out ws : List Section} (d : EntriesDue b index z (length out) n) (f : Filled b z n out ws at i) (h : i < n) where
  some : 0 < n
  some = omega arith

  inside : i < length (section_nodes (tree_of b) z)
  inside = omega (arith, d.all_where some)

  pub onward : Onward b index z at
  onward =
      let v = f.visited some in
      record { indexed = d.index_where some; accepted = d.accepted_where some; inside = v.inside; some = some_left v inside }

  pub one-stored : {e : Section} → e ≡ entry (tree_of b) (get_or (sections_after (tree_of b) z at) 0 0) → Filled b z n out (set ws i e) e.node (i + 1)
  one-stored {e} q =
      let v = f.visited some in
      record {
        few = omega arith;
        stored = store_entry (tree_of b) (section_nodes (tree_of b) z) i inside out ws e f.stored (next-entry v inside q)
            (omega (arith, d.few, d.all_where some));
        same = length-set ws i e ∙ f.same;
        visited = λ l. one_visited v inside (d.accepted_where some) q;
      }

-- all of them
pub all_taken : (t : Tree) (z : ℕ) → entries t (take (length (section_nodes t z)) (section_nodes t z)) ≡ section_entries t z
unfolding section_entries
all_taken t z = ap (entries t) (take-length (section_nodes t z))
