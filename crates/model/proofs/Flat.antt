-- Section entries as flat numbers, and read back: the k-th entry of a zone's list is that of its k-th section.
use Prim.Native.Nat.{ℕ, zero, suc, ◌+◌, ◌*◌, ◌<◌}
use mathlib.Core.Path.{◌≡◌, refl, sym, ap, ◌∙◌}
use mathlib.Core.List.{List, [], ◌∷◌, ◌++◌}
use native.Mathlib.Omega.{arith}
use native.Mathlib.Nat.{add-zero}
use lib.ListN.{length, get_or, drop}
use lib.Seq.{get_or-drop, drop-drop}
use Rattle.model.specs.declared.Section.{Section}
use Rattle.model.specs.Image.{Tree}
use Rattle.model.specs.Sections.{entry, entries, entry_numbers, all_numbers}
use Rattle.model.specs.Reads.{section_at}

pub numbers-length : (es : List Section) → length (all_numbers es) ≡ 11 * length es
unfolding all_numbers entry_numbers
numbers-length [] = refl
numbers-length (e ∷ es) = let h = numbers-length es in omega arith

pub entries-length : (t : Tree) (ns : List ℕ) → length (entries t ns) ≡ length ns
unfolding entries
entries-length t [] = refl
entries-length t (s ∷ ns) = ap suc (entries-length t ns)

-- as structs
pub struct_at : (t : Tree) (ns : List ℕ) (rest : List Section) (none : Section) (k : ℕ) → k < length ns
    → get_or (entries t ns ++ rest) k none ≡ entry t (get_or ns k 0)
unfolding entries
struct_at t [] rest none k h = absurd (omega arith)
struct_at t (s ∷ ns) rest none zero h = refl
struct_at t (s ∷ ns) rest none (suc k) h = struct_at t ns rest none k (omega arith)

-- reading from an entry on
pub section-from : (flat : List ℕ) (k : ℕ) → section_at flat k ≡ section_at (drop (11 * k) flat) 0
unfolding section_at
section-from flat k = simp (get_or-drop, add-zero)

section_past : (e : Section) (flat : List ℕ) (k : ℕ) → section_at (entry_numbers e ++ flat) (suc k) ≡ section_at flat k
unfolding entry_numbers
section_past e flat k =
    let q : 11 * suc k ≡ 11 + 11 * k = omega arith in
    section-from (entry_numbers e ++ flat) (suc k)
    ∙ ap (λ (n : ℕ). section_at (drop n (entry_numbers e ++ flat)) 0) q
    ∙ ap (λ (l : List ℕ). section_at l 0) (sym (drop-drop (11 * k) 11 (entry_numbers e ++ flat)))
    ∙ sym (section-from flat k)

pub entry_at : (t : Tree) (ns rest : List ℕ) (k : ℕ) → k < length ns → section_at (all_numbers (entries t ns) ++ rest) k ≡ entry t (get_or ns k 0)
unfolding section_at entries all_numbers entry_numbers
entry_at t [] rest k h = absurd (omega arith)
entry_at t (s ∷ ns) rest zero h = refl
entry_at t (s ∷ ns) rest (suc k) h =
    section_past (entry t s) (all_numbers (entries t ns) ++ rest) k ∙ entry_at t ns rest k (omega arith)
