-- Laws of a name without its padding, and of the names down to a node.
use Prim.Native.Nat.{ℕ, zero, suc, ◌+◌, ◌-◌, ◌≤◌, ◌<◌}
use mathlib.Core.Path.{◌≡◌, refl, sym, ap, ◌∙◌}
use mathlib.Core.Bool.{Bool, true, false, cond}
use mathlib.Core.List.{List, [], ◌∷◌, ◌++◌}
use native.Mathlib.Omega.{arith}
use lib.Dec.{eqb}
use lib.ListN.{length, get_or, set, take, drop, length-drop, length-append}
use lib.Seq.{take-suc, length-take-le, get_or-drop}
use borrow.Author.Tests.{eqb-false, ne_eqb}
use Rattle.model.specs.Lists.{over, over_at}
use Rattle.model.specs.Bytes.{blank}
use Rattle.model.specs.Image.{Tree, tree_of, node_count, record_at, name, parent}
use Rattle.model.specs.Path.{trimmed, names_within, path_of}
use Rattle.model.specs.Given.{Sound}
use Rattle.model.proofs.Logic.{and-false}
use Rattle.model.proofs.Overlays.{over_more}
use Rattle.model.proofs.Parents.{parent-lower, lawful_at}
use Rattle.words.proofs.Writes.{over_at-cons}
use Rattle.paths.specs.Names.{step_of, names_of}

-- a blank at the end is padding, another byte is not
blank-blank : (s : List ℕ) → blank (s ++ (32 ∷ [])) ≡ blank s
unfolding blank
blank-blank [] = refl
blank-blank (x ∷ s) = rw (blank-blank s)

blank_byte : (s : List ℕ) (x : ℕ) → eqb x 32 ≡ false → blank (s ++ (x ∷ [])) ≡ false
unfolding blank
blank_byte [] x e = rw e
blank_byte (y ∷ s) x e = rw (blank_byte s x e) (and-false (eqb y 32))

trimmed-blank : (s : List ℕ) → trimmed (s ++ (32 ∷ [])) ≡ trimmed s
unfolding trimmed blank
trimmed-blank [] = refl
trimmed-blank (x ∷ s) = rw (blank-blank s, trimmed-blank s)

trimmed_byte : (s : List ℕ) (x : ℕ) → eqb x 32 ≡ false → trimmed (s ++ (x ∷ [])) ≡ s ++ (x ∷ [])
unfolding trimmed blank
trimmed_byte [] x e = rw e
trimmed_byte (y ∷ s) x e = rw (blank_byte s x e, and-false (eqb y 32), trimmed_byte s x e)

-- the last of k bytes from at on
last : (b : List ℕ) (at k : ℕ) → 0 < k → at + k ≤ length b → take k (drop at b) ≡ take (k - 1) (drop at b) ++ (get_or b (at + (k - 1)) 0 ∷ [])
last b at k h l =
    let e : suc (k - 1) ≡ k = omega arith in
    rw e at (rw get_or-drop at (take-suc (drop at b) (k - 1) 0 (rw length-drop (omega arith))))

module _ (b : List ℕ) (at k : ℕ) (h : 0 < k) (l : at + k ≤ length b) where
  pub trim_keep : (get_or b (at + (k - 1)) 0 ≡ 32 → ⊥) → trimmed (take k (drop at b)) ≡ take k (drop at b)
  trim_keep z = rw (last b at k h l) (trimmed_byte (take (k - 1) (drop at b)) (get_or b (at + (k - 1)) 0) (ne_eqb _ 32 z))

  pub trim_drop : get_or b (at + (k - 1)) 0 ≡ 32 → trimmed (take (k - 1) (drop at b)) ≡ trimmed (take k (drop at b))
  trim_drop e = rw (last b at k h l, e) (sym (trimmed-blank (take (k - 1) (drop at b))))

-- the name of node i is n bytes of its record
module _ (b : List ℕ) (i n : ℕ) (e : trimmed (name (tree_of b) i) ≡ take n (drop (record_at i) b)) (h : record_at i + n ≤ length b) where
  took : length (take n (drop (record_at i) b)) ≡ n
  took = length-take-le _ _ (rw length-drop (omega arith))

  pub sized : length (step_of (tree_of b) i) ≡ suc n
  sized = rw e (ap suc took)

  -- they were taken from p to p + n
  module _ {p : ℕ} (f : p ≡ record_at i) where
    part_is : take (p + n - p) (drop p b) ≡ take n (drop (record_at i) b)
    part_is = let m : record_at i + n - record_at i ≡ n = omega arith in rw (f, m)

    pub part_length : length (take (p + n - p) (drop p b)) ≡ n
    part_length = ap length part_is ∙ took

    pub named : (d : List ℕ) (k : ℕ) → k < length d → over_at (k + 1) (set d k 47) (take (p + n - p) (drop p b)) ≡ over_at k d (step_of (tree_of b) i)
    named d k l = rw (part_is, e) (sym (over_at-cons k d 47 (take n (drop (record_at i) b)) l))

-- more names than there are lower nodes make no difference
enough : (b : List ℕ) → Sound b → (k j i : ℕ) → i < node_count b → i ≤ k → i ≤ j → names_within (tree_of b) k i ≡ names_within (tree_of b) j i
unfolding names_within
enough b s zero zero i n h l = refl
enough b s zero (suc j) i n h l = let e : i ≡ 0 = omega arith in rw e
enough b s (suc k) zero i n h l = let e : i ≡ 0 = omega arith in rw e
enough b s (suc k) (suc j) i n h l =
    by_test (eqb i 0) refl (λ z. let u = parent-lower (tree_of b) i (lawful_at b s i n) z in enough b s k j (parent (tree_of b) i) (omega arith) (omega arith)
    (omega arith))
  where
    by_test : (t : Bool) → eqb i 0 ≡ t → ((i ≡ 0 → ⊥) → names_within (tree_of b) k (parent (tree_of b) i) ≡ names_within (tree_of b) j (parent (tree_of b) i))
        → cond t [] (names_within (tree_of b) k (parent (tree_of b) i) ++ step_of (tree_of b) i)
        ≡ cond t [] (names_within (tree_of b) j (parent (tree_of b) i) ++ step_of (tree_of b) i)
    by_test true e q = refl
    by_test false e q = ap (λ p. p ++ step_of (tree_of b) i) (q (eqb-false i 0 e))

names_step : (b : List ℕ) → Sound b → (i : ℕ) → i < node_count b → (i ≡ 0 → ⊥)
    → names_of (tree_of b) i ≡ names_of (tree_of b) (parent (tree_of b) i) ++ step_of (tree_of b) i
unfolding names_within
names_step b s zero n z = absurd (z refl)
names_step b s (suc i) n z =
    let p = parent (tree_of b) (suc i) in
    let u = parent-lower (tree_of b) (suc i) (lawful_at b s (suc i) n) z in
    rw (ne_eqb (suc i) 0 z) (ap (λ q. q ++ step_of (tree_of b) (suc i)) (enough b s i p p (omega arith) (omega arith) (omega arith)))

pub root : (b : List ℕ) (i : ℕ) (d : List ℕ) → i ≡ 0 → (0 ≡ length (names_of (tree_of b) i)) × (d ≡ over d (names_of (tree_of b) i))
unfolding names_within over
root b i d e = rw e (refl, refl)

-- one call: p is the parent of node i
module _ (b : List ℕ) (s : Sound b) (i p : ℕ) (n : i < node_count b) (e : p ≡ parent (tree_of b) i) (z : i ≡ 0 → ⊥) where
  pub lower : p < i
  lower = rw e (parent-lower (tree_of b) i (lawful_at b s i n) z)

  pub longer : length (names_of (tree_of b) p) + length (step_of (tree_of b) i) ≡ length (names_of (tree_of b) i)
  longer = rw e (sym (ap length (names_step b s i n z) ∙ length-append (names_of (tree_of b) (parent (tree_of b) i)) (step_of (tree_of b) i)))

  pub onward : (k : ℕ) (d l : List ℕ) → k ≡ length (names_of (tree_of b) p) → l ≡ over d (names_of (tree_of b) p)
      → over_at k l (step_of (tree_of b) i) ≡ over d (names_of (tree_of b) i)
  onward k d l f g = rw (f, g, e, names_step b s i n z) (over_more d (names_of (tree_of b) (parent (tree_of b) i)) (step_of (tree_of b) i))

-- the root's path is one slash, another's its names
pub path_root : (t : Tree) (i : ℕ) → i ≡ 0 → path_of t i ≡ 47 ∷ []
unfolding path_of
path_root t i e = rw e

pub path_names : (t : Tree) (i : ℕ) → (i ≡ 0 → ⊥) → path_of t i ≡ names_of t i
unfolding path_of
path_names t i z = rw (ne_eqb i 0 z)

pub slash_alone : (d : List ℕ) → 0 < length d → set d 0 47 ≡ over d (47 ∷ [])
unfolding over
slash_alone [] h = absurd (omega arith)
slash_alone (x ∷ d) h = refl
