-- Rules 7 to 18 read the records and the dimension words of a tree, and no data byte: two trees that agree there are judged alike.
use Prim.Native.Nat.{ℕ, zero, suc, ◌+◌, ◌*◌, ◌-◌, ◌≤◌}
use mathlib.Core.Path.{◌≡◌, refl, sym, ap, ◌∙◌}
use mathlib.Core.Bool.{Bool, true, false, not}
use mathlib.Core.List.{List, [], ◌∷◌, ◌++◌}
use native.Mathlib.Omega.{arith}
use lib.ListN.{take, drop}
use lib.Seq.{take-take}
use lib.Dec.{eqb, ltb}
use borrow.Author.Tests.{leb-true, eqb-true}
use Rattle.model.specs.Bytes.{numbers}
use Rattle.model.specs.Rules.{Rule, ◌unless◌, check, ◌then◌}
use Rattle.model.specs.Image.{Node, Tree, node, name, label, parent, dimensions, data_type_of, width}
use Rattle.model.specs.Records.{parent_lawful, deeper_than, name_lawful, label_lawful, name_taken, namesake, sibling, link, rank_lawful, words_before, words_lawful, data_size_lawful, bytes_before, data_at_lawful, record_rules, record_check_at, record_check, nothing_trails, trailing_check}
use Rattle.model.proofs.Logic.{and_first, and_second}
use Rattle.model.proofs.Passed.{check_from-same}
use Rattle.model.proofs.Reading.{le-take, drop-take}

-- a part of a front
part_front : (k n m : ℕ) (s : List ℕ) → k + n ≤ m → take n (drop k (take m s)) ≡ take n (drop k s)
part_front k n m s h = ap (take n) (drop-take k m s) ∙ take-take n (m - k) (drop k s) (omega arith)

part_same : (k n m : ℕ) (s u : List ℕ) → k + n ≤ m → take m s ≡ take m u → take n (drop k s) ≡ take n (drop k u)
part_same k n m s u h e = sym (part_front k n m s h) ∙ ap (λ (x : List ℕ). take n (drop k x)) e ∙ part_front k n m u h

-- a row of numbers in a front
numbers-front : (w n m : ℕ) (s : List ℕ) → w * n ≤ m → numbers w n (take m s) ≡ numbers w n s
unfolding numbers
numbers-front w zero m s h = refl
numbers-front w (suc n) m s h =
    let e : w * suc n ≡ w + w * n = omega arith in
    rw (le-take w m s (omega arith), drop-take w m s, numbers-front w n (m - w) (drop w s) (omega arith))

words_same : (n k m : ℕ) (s u : List ℕ) → k + n ≤ m → take (8 * m) s ≡ take (8 * m) u → numbers 8 n (drop (8 * k) s) ≡ numbers 8 n (drop (8 * k) u)
words_same n k m s u h e =
    sym (numbers-front 8 n (8 * n) (drop (8 * k) s) (omega arith)) ∙ ap (numbers 8 n) (part_same (8 * k) (8 * n) (8 * m) s u (omega arith) e)
    ∙ numbers-front 8 n (8 * n) (drop (8 * k) u) (omega arith)

-- a rule that is broken hides those after it
check_cut : (i rule : ℕ) (xs ys zs : List Rule) → check i (xs ++ (rule unless false) ∷ ys) ≡ check i (xs ++ (rule unless false) ∷ zs)
unfolding check
check_cut i rule [] ys zs = refl
check_cut i rule ((n unless holds) ∷ xs) ys zs = rw (check_cut i rule xs ys zs)

-- the same nodes and totals; other words and data
module _ (t : Tree) (ws bs : List ℕ) (area : ℕ) where
  abbrev pub other : Tree
  other = record { count = t.count; nodes = t.nodes; word_total = t.word_total; words = ws; area_at = area; byte_total = t.byte_total; bytes = bs }

  pub deeper_same : (d i : ℕ) → deeper_than other d i ≡ deeper_than t d i
  unfolding deeper_than parent node
  deeper_same zero i = refl
  deeper_same (suc d) i = rw (deeper_same d (parent t i))

  module _ (front : take (8 * t.word_total) ws ≡ take (8 * t.word_total) t.words) where
    pub dimensions-same : (i : ℕ) → words_lawful t i ≡ true → dimensions other i ≡ dimensions t i
    unfolding dimensions words_lawful node
    dimensions-same i e =
        let f = eqb-true (node t i).first_word (words_before t i) (and_first (eqb (node t i).first_word (words_before t i)) _ e) in
        let l = leb-true (words_before t i + (node t i).rank) t.word_total (and_second (eqb (node t i).first_word (words_before t i)) _ e) in
        words_same (node t i).rank (node t i).first_word t.word_total ws t.words (omega (arith, f, l)) front

    rules_to14 : Tree → ℕ → List Rule
    rules_to14 u i =
        7 unless parent_lawful u i
        ∷ 8 unless not (deeper_than u 32 i)
        ∷ 9 unless name_lawful (name u i)
        ∷ 10 unless label_lawful (label u i)
        ∷ 11 unless not (name_taken u i)
        ∷ 12 unless not (link u i)
        ∷ 13 unless ltb 0 (data_type_of u i)
        ∷ 14 unless rank_lawful u i
        ∷ []

    to14 : (i : ℕ) → rules_to14 other i ≡ rules_to14 t i
    unfolding rules_to14 parent_lawful parent node name label name_taken namesake sibling link data_type_of rank_lawful
    to14 i = rw (deeper_same 32 i)

    by_words : (i : ℕ) (w : Bool) → words_lawful t i ≡ w
        → check i (rules_to14 other i ++ (15 unless w) ∷ (16 unless data_size_lawful other i) ∷ (17 unless data_at_lawful t i) ∷ [])
        ≡ check i (rules_to14 t i ++ (15 unless w) ∷ (16 unless data_size_lawful t i) ∷ (17 unless data_at_lawful t i) ∷ [])
    unfolding data_size_lawful width data_type_of node
    by_words i true e = rw (to14 i, dimensions-same i e)
    by_words i false e = rw (to14 i) (check_cut i 15 (rules_to14 t i) _ _)

    record_same : (i : ℕ) → record_check_at other i ≡ record_check_at t i
    unfolding record_check_at record_rules rules_to14 words_lawful data_at_lawful words_before bytes_before node
    record_same i = by_words i (words_lawful t i) refl

    pub records_same : (record_check other then trailing_check other) ≡ (record_check t then trailing_check t)
    unfolding record_check trailing_check nothing_trails words_before bytes_before node
    records_same = rw (check_from-same (record_check_at other) (record_check_at t) t.count 0 (λ j l h p. record_same j))

-- a tree by its parts
pub same-tree : {n d x a n' d' x' a' : ℕ} {ns ns' : List Node} {ws bs : List ℕ} → n ≡ n' → ns ≡ ns' → d ≡ d' → a ≡ a' → x ≡ x'
    → ◌≡◌ {A = Tree} (record { count = n; nodes = ns; word_total = d; words = ws; area_at = a; byte_total = x; bytes = bs })
    (record { count = n'; nodes = ns'; word_total = d'; words = ws; area_at = a'; byte_total = x'; bytes = bs })
same-tree p q r s t = cc
