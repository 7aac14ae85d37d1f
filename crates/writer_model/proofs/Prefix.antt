-- Two trees whose nodes up to m are the same: node m is judged alike.
use Prim.Native.Nat.{ℕ, zero, suc, ◌+◌, ◌*◌, ◌≤◌, ◌<◌}
use mathlib.Core.Path.{◌≡◌, refl, ap, ◌∙◌}
use mathlib.Core.Bool.{Bool, true, cond, not, ◌&&◌, ◌||◌}
use mathlib.Core.List.{List, [], ◌∷◌}
use native.Mathlib.Omega.{arith}
use lib.ListN.{get_or}
use lib.Dec.{eqb, leb, ltb}
use borrow.Author.Tests.{ne_eqb}
use Rattle.model.specs.Lists.{some_from, among}
use Rattle.model.specs.Bytes.{same, text, place_from}
use Rattle.model.specs.Rules.{Rule, ◌unless◌}
use Rattle.model.specs.Image.{Node, Tree, node, name, label, parent, dimensions, data_type_of, data_types, width, widths, MT}
use Rattle.model.specs.Records.{parent_lawful, deeper_than, name_lawful, label_lawful, name_taken, namesake, sibling, link, rank_lawful, product, data_size_lawful}
use Rattle.writer_model.specs.After.{rules_after}
use Rattle.writer_model.specs.Writer.{line_lawful}
use Rattle.model.proofs.Logic.{and_first, and_second, or_right}
use Rattle.model.proofs.Parents.{parent-lower}

pub some_same : (p q : ℕ → Bool) (k i : ℕ) → ((j : ℕ) → i ≤ j → j < i + k → p j ≡ q j) → some_from p k i ≡ some_from q k i
unfolding some_from
some_same p q zero i e = refl
some_same p q (suc k) i e = rw (e i (omega arith) (omega arith), some_same p q k (suc i) (λ j l h. e j (omega arith) (omega arith)))

same_rules : {a b c d e f g h i j k a' b' c' d' e' f' g' h' i' j' k' : Bool}
    → a ≡ a' → b ≡ b' → c ≡ c' → d ≡ d' → e ≡ e' → f ≡ f' → g ≡ g' → h ≡ h' → i ≡ i' → j ≡ j' → k ≡ k'
    → ◌≡◌ {A = List Rule}
    (7 unless a ∷ 8 unless b ∷ 9 unless c ∷ 10 unless d ∷ 11 unless e ∷ 12 unless f ∷ 13 unless g ∷ 14 unless h ∷ 15 unless i ∷ 16 unless j ∷ 17 unless k ∷ [])
    (7 unless a' ∷ 8 unless b' ∷ 9 unless c' ∷ 10 unless d' ∷ 11 unless e' ∷ 12 unless f' ∷ 13 unless g' ∷ 14 unless h' ∷ 15 unless i' ∷ 16 unless j' ∷ 17 unless k' ∷ [])
same_rules p1 p2 p3 p4 p5 p6 p7 p8 p9 p10 p11 = cc

no : (i : ℕ) → suc i ≡ 0 → ⊥
no i e = absurd (omega arith)

not_root : (i : ℕ) (b : Bool) → (eqb (suc i) 0 || b) ≡ true → b ≡ true
not_root i b e = rw (ne_eqb (suc i) 0 (no i)) at e

module _ (t u : Tree) (m : ℕ) (same-node : (j : ℕ) → j ≤ m → node t j ≡ node u j) where
  parent-same : (i : ℕ) → i ≤ m → parent t i ≡ parent u i
  unfolding parent
  parent-same i h = ap (λ (z : Node). z.parent) (same-node i h)

  lawful_same : (i : ℕ) → i ≤ m → parent_lawful t i ≡ parent_lawful u i
  unfolding parent_lawful
  lawful_same i h = rw (parent-same i h)

  -- above a node there are lower ones
  lower : (i : ℕ) → parent_lawful t (suc i) ≡ true → parent t (suc i) ≤ i
  lower i e = let h = parent-lower t (suc i) e (no i) in omega arith

  deeper_prefix : (d e i : ℕ) → i ≤ m → i ≤ e → line_lawful t e i ≡ true → deeper_than t d i ≡ deeper_than u d i
  unfolding deeper_than line_lawful
  deeper_prefix zero e i h l q = refl
  deeper_prefix (suc d) e zero h l q = refl
  deeper_prefix (suc d) zero (suc i) h l q = absurd (omega arith)
  deeper_prefix (suc d) (suc e) (suc i) h l q =
      let p = lower i (and_first (parent_lawful t (suc i)) _ q) in
      rw (← parent-same (suc i) h)
      (ap (λ (z : Bool). not (eqb (suc i) 0) && z) (deeper_prefix d e (parent t (suc i)) (omega arith) (omega arith) (not_root i _ (and_second (parent_lawful t (suc i)) _ q))))

  pub line_prefix : (e i : ℕ) → i ≤ m → i ≤ e → line_lawful t e i ≡ true → line_lawful u e i ≡ true
  unfolding line_lawful
  line_prefix zero i h l q = rw (← lawful_same i h) q
  line_prefix (suc e) zero h l q = rw (← lawful_same 0 h) q
  line_prefix (suc e) (suc i) h l q =
      let p = lower i (and_first (parent_lawful t (suc i)) _ q) in
      rw (← lawful_same (suc i) h, and_first (parent_lawful t (suc i)) _ q, ← parent-same (suc i) h)
      (or_right (eqb (suc i) 0) _ (line_prefix e (parent t (suc i)) (omega arith) (omega arith) (not_root i _ (and_second (parent_lawful t (suc i)) _ q))))

  module _ (line : line_lawful t m m ≡ true) (dims : dimensions t m ≡ dimensions u m) (words : t.word_total ≡ u.word_total) (bytes : t.byte_total ≡ u.byte_total) where
    here : node t m ≡ node u m
    here = same-node m (omega arith)

    pub rules_prefix : (w x : ℕ) → rules_after t w x m ≡ rules_after u w x m
    unfolding parent name label name_taken namesake sibling link data_type_of rank_lawful data_size_lawful width
    rules_prefix w x =
        same_rules (lawful_same m (omega arith)) (ap not (deeper_prefix 32 m m (omega arith) (omega arith) line)) (ap (λ (z : Node). name_lawful z.name) here)
        (ap (λ (z : Node). label_lawful z.label) here)
        (ap not (some_same (namesake t m) (namesake u m) m 0 (λ j l h. ap (λ (z : Node). eqb z.parent (node t m).parent && same z.name (node t m).name) (same-node j (omega arith)) ∙ ap (λ (z : Node). eqb (node u j).parent z.parent && same (node u j).name z.name) here)))
        (ap (λ (z : Node). not (same z.data_type (text "LK"))) here)
        (ap (λ (z : Node). ltb 0 (place_from 1 z.data_type data_types)) here)
        (ap (λ (z : Node). cond (eqb (place_from 1 z.data_type data_types) MT) (eqb z.rank 0) (leb 1 z.rank && leb z.rank 12)) here)
        (ap (λ (z : Node). eqb z.first_word w && leb (w + z.rank) t.word_total) here ∙ ap (λ (k : ℕ). eqb (node u m).first_word w && leb (w + (node u m).rank) k) words)
        (ap (λ (ds : List ℕ). not (among 0 ds) && eqb (product ds * get_or widths (place_from 1 (node t m).data_type data_types) 0) (node t m).data_size) dims
        ∙ ap (λ (z : Node). not (among 0 (dimensions u m)) && eqb (product (dimensions u m) * get_or widths (place_from 1 z.data_type data_types) 0) z.data_size) here)
        (ap (λ (z : Node). eqb z.data_at x && leb (x + z.data_size) t.byte_total) here ∙ ap (λ (k : ℕ). eqb (node u m).data_at x && leb (x + (node u m).data_size) k) bytes)
