-- The tree against the image's bytes: what a reader of one field, one dimension word or one stored number needs.
use Prim.Native.Nat.{ℕ, zero, suc, ◌+◌, ◌*◌, ◌-◌, ◌≤◌, ◌<◌}
use mathlib.Core.Path.{◌≡◌, refl, ap, ◌∙◌}
use mathlib.Core.List.{List, [], ◌∷◌}
use native.Mathlib.Omega.{arith}
use native.Mathlib.Numerals.{add-one}
use lib.ListN.{length, get_or, take, drop}
use lib.Seq.{drop-drop, drop-nil, take-nil}
use Rattle.model.specs.Bytes.{le, numbers}
use Rattle.model.specs.Image.{Node, Tree, node_of, nodes_of, node, tree_of, node_count, record_at, name, label, parent, dimensions, stored, number, width}
use Rattle.model.specs.Image.{data_offset, dimension_offset}

-- the lowest byte, and the rest
pub le_step : (w : ℕ) (b : List ℕ) (p : ℕ) → le (suc w) (drop p b) ≡ get_or b p 0 + 256 * le w (drop (p + 1) b)
unfolding le
le_step zero [] p = rw drop-nil
le_step (suc w) [] p = simp drop-nil
le_step w (x ∷ b) zero = refl
le_step w (x ∷ b) (suc p) = rw add-one (rw add-one at (le_step w b p))

-- a number of w bytes lies in the first n of them
pub le-take : (w n : ℕ) (s : List ℕ) → w ≤ n → le w (take n s) ≡ le w s
unfolding le
le-take zero n s h = refl
le-take (suc w) zero s h = absurd (omega arith)
le-take (suc w) (suc n) [] h = refl
le-take (suc w) (suc n) (x ∷ s) h = rw (le-take w n s (omega arith))

-- the front of a list, past k
pub drop-take : {A : Type 0} (k n : ℕ) (s : List A) → drop k (take n s) ≡ take (n - k) (drop k s)
drop-take zero n s = let e : n - 0 ≡ n = omega arith in rw e
drop-take (suc k) zero s = let e : 0 - suc k ≡ 0 = omega arith in rw e
drop-take (suc k) (suc n) [] = rw take-nil
drop-take (suc k) (suc n) (x ∷ s) = let e : suc n - suc k ≡ n - k = omega arith in rw e (drop-take k n s)

-- node i of n records
pub nodes_of-at : (n : ℕ) (s : List ℕ) (i : ℕ) → i < n → get_or (nodes_of n s) i (node_of []) ≡ node_of (drop (84 * i) s)
unfolding nodes_of
nodes_of-at zero s i h = absurd (omega arith)
nodes_of-at (suc n) s zero h = refl
nodes_of-at (suc n) s (suc i) h =
    let e : 84 + 84 * i ≡ 84 * suc i = omega arith in
    nodes_of-at n (drop 84 s) i (omega arith) ∙ ap node_of (drop-drop (84 * i) 84 s ∙ ap (λ (k : ℕ). drop k s) e)

-- node i of an image, by its record
pub node_at_lem : (b : List ℕ) (i : ℕ) → i < node_count b → node (tree_of b) i ≡ node_of (drop (record_at i) b)
unfolding node tree_of
node_at_lem b i h = nodes_of-at (node_count b) (drop 32 b) i h ∙ ap node_of (drop-drop (84 * i) 32 b)

module _ (b : List ℕ) (i : ℕ) (h : i < node_count b) where
  pub name-at : name (tree_of b) i ≡ take 32 (drop (record_at i) b)
  unfolding name node_of
  name-at = ap (λ (x : Node). x.name) (node_at_lem b i h)

  pub label_at : label (tree_of b) i ≡ take 32 (drop (record_at i + 32) b)
  unfolding label node_of
  label_at = ap (λ (x : Node). x.label) (node_at_lem b i h) ∙ ap (take 32) (drop-drop 32 (record_at i) b)

  pub type_at : (node (tree_of b) i).data_type ≡ take 2 (drop (record_at i + 64) b)
  unfolding node_of
  type_at = ap (λ (x : Node). x.data_type) (node_at_lem b i h) ∙ ap (take 2) (drop-drop 64 (record_at i) b)

  pub rank-at : (node (tree_of b) i).rank ≡ le 2 (drop (record_at i + 66) b)
  unfolding node_of
  rank-at = ap (λ (x : Node). x.rank) (node_at_lem b i h) ∙ ap (le 2) (drop-drop 66 (record_at i) b)

  pub first_word_at : (node (tree_of b) i).first_word ≡ le 4 (drop (record_at i + 68) b)
  unfolding node_of
  first_word_at = ap (λ (x : Node). x.first_word) (node_at_lem b i h) ∙ ap (le 4) (drop-drop 68 (record_at i) b)

  pub parent-at : parent (tree_of b) i ≡ le 4 (drop (record_at i + 72) b)
  unfolding parent node_of
  parent-at = ap (λ (x : Node). x.parent) (node_at_lem b i h) ∙ ap (le 4) (drop-drop 72 (record_at i) b)

  pub data_at-at : (node (tree_of b) i).data_at ≡ le 4 (drop (record_at i + 76) b)
  unfolding node_of
  data_at-at = ap (λ (x : Node). x.data_at) (node_at_lem b i h) ∙ ap (le 4) (drop-drop 76 (record_at i) b)

  pub data_size-at : (node (tree_of b) i).data_size ≡ le 4 (drop (record_at i + 80) b)
  unfolding node_of
  data_size-at = ap (λ (x : Node). x.data_size) (node_at_lem b i h) ∙ ap (le 4) (drop-drop 80 (record_at i) b)

-- how many numbers a row has, and number k of it
pub numbers-length : (w n : ℕ) (s : List ℕ) → length (numbers w n s) ≡ n
unfolding numbers
numbers-length w zero s = refl
numbers-length w (suc n) s = ap suc (numbers-length w n (drop w s))

pub numbers-at : (w n k : ℕ) (s : List ℕ) → k < n → get_or (numbers w n s) k 0 ≡ le w (drop (w * k) s)
unfolding numbers
numbers-at w zero k s h = absurd (omega arith)
numbers-at w (suc n) zero s h = let e : w * 0 ≡ 0 = omega arith in rw e
numbers-at w (suc n) (suc k) s h =
    let e : w + w * k ≡ w * suc k = omega arith in
    numbers-at w n k (drop w s) (omega arith) ∙ ap (le w) (drop-drop (w * k) w s ∙ ap (λ (m : ℕ). drop m s) e)

-- a node has as many dimensions as its record says
pub rank_is : (t : Tree) (i : ℕ) → length (dimensions t i) ≡ (node t i).rank
unfolding dimensions
rank_is t i = numbers-length 8 (node t i).rank _

drops : (p q k : ℕ) (b : List ℕ) → drop k (drop q (drop p b)) ≡ drop (p + q + k) b
drops p q k b = ap (drop k) (drop-drop q p b) ∙ drop-drop k (p + q) b

-- dimension k of a node: the word at its place
pub dimension_at : (b : List ℕ) (i k : ℕ) → k < (node (tree_of b) i).rank
    → get_or (dimensions (tree_of b) i) k 0 ≡ le 8 (drop (dimension_offset b + 8 * (node (tree_of b) i).first_word + 8 * k) b)
unfolding dimensions tree_of
dimension_at b i k h = numbers-at 8 _ k _ h ∙ ap (le 8) (drops (dimension_offset b) (8 * (node (tree_of b) i).first_word) (8 * k) b)

-- stored number k of a node: the bytes at its place
pub number-at : (b : List ℕ) (i k : ℕ) → width (tree_of b) i * k + width (tree_of b) i ≤ (node (tree_of b) i).data_size
    → number (tree_of b) i k ≡ le (width (tree_of b) i) (drop (data_offset b + (node (tree_of b) i).data_at + width (tree_of b) i * k) b)
unfolding number stored tree_of
number-at b i k h =
    ap (le w) (drop-take (w * k) n (drop d (drop (data_offset b) b)))
    ∙ le-take w (n - w * k) (drop (w * k) (drop d (drop (data_offset b) b))) (omega arith)
    ∙ ap (le w) (drops (data_offset b) d (w * k) b)
  where
    w : ℕ
    w = width (tree_of b) i

    n : ℕ
    n = (node (tree_of b) i).data_size

    d : ℕ
    d = (node (tree_of b) i).data_at
