-- Sums over the siblings before a node.
use Prim.Native.Nat.{ℕ, zero, suc, ◌+◌, ◌-◌, ◌*◌, ◌≤◌, ◌<◌}
use mathlib.Core.Path.{◌≡◌, sym, ap, subst, ◌∙◌}
use mathlib.Core.Bool.{true}
use mathlib.Core.List.{List}
use native.Mathlib.Omega.{arith}
use native.Mathlib.Nat.{add-zero}
use native.Mathlib.Numerals.{add-one}
use lib.Dec.{eqb}
use lib.ListN.{drop}
use borrow.Author.Tests.{eqb-true}
use Rattle.model.specs.Lists.{sum_before}
use Rattle.model.specs.Rules.{passed}
use Rattle.model.specs.Image.{Tree, tree_of, node_count, node, parent, name}
use Rattle.model.specs.Records.{sibling, table_check}
use Rattle.model.specs.NameBytes.{first_difference, pair_bytes, bytes_with_earlier, name_bytes}
use Rattle.model.proofs.Bounds.{sound, table-laid}
use Rattle.model.proofs.Parents.{lawful_at}
use Rattle.model.proofs.SameNodes.{same_lawful, same_bytes_lem}
use Rattle.model.proofs.Walks.{sum_before_step}
use Rattle.records.specs.Table.{all_records, LawfulBefore}
use Rattle.records.proofs.Tables.{image-node}
use Rattle.texts.specs.Links.{LastOf}

-- a sum over numbers that give nothing
sum_skip : (f : ℕ → ℕ) (x d : ℕ) → ((m : ℕ) → x ≤ m → m < x + d → f m ≡ 0) → sum_before f (x + d) ≡ sum_before f x
unfolding sum_before
sum_skip f x zero h = ap (sum_before f) (add-zero x)
sum_skip f x (suc d) h =
    let q : x + suc d ≡ suc (x + d) = omega arith in
    let r = sum_skip f x d (λ m l k. h m l (omega arith)) in
    let g = h (x + d) (omega arith) (omega arith) in
    rw q (omega arith)

module _ (t : Tree) (i : ℕ) where
  -- from one sibling to the one before
  pairs_skip : {n x : ℕ} → LastOf (sibling t i) n x → sum_before (pair_bytes t i) n ≡ sum_before (pair_bytes t i) x
  unfolding pair_bytes
  pairs_skip {n} {x} l =
      let s = l.small in
      let q : x + (n - x) ≡ n = omega arith in
      rw q at (sum_skip (pair_bytes t i) x (n - x) (λ m k h. rw (l.none_after m k (omega arith))))

  siblings_of : (k : ℕ) {n x : ℕ} → sibling t i k ≡ true → LastOf (sibling t k) n x → LastOf (sibling t i) n x
  unfolding sibling
  siblings_of k {n} {x} e l = subst (λ (u : ℕ). LastOf (λ m. eqb (parent t m) u) n x) (eqb-true (parent t k) (parent t i) e) l

  -- the siblings before j are left
  pub record Left (j sum : ℕ) : Type 0 where
    pub below : j ≤ i
    pub few : sum + 33 * j ≤ 33 * i
    pub rest : sum + sum_before (pair_bytes t i) j ≡ bytes_with_earlier t i
    pub next : 0 < j → sibling t i (j - 1) ≡ true

  pub left_start : {j : ℕ} → LastOf (sibling t i) i j → Left j 0
  unfolding bytes_with_earlier
  left_start l =
      let s = l.small in
      record { below = s; few = omega arith; rest = (let q = pairs_skip l in omega arith); next = l.holds }

  module _ {j sum : ℕ} (w : Left j sum) where
    pub left-on : 0 < j → {d : ℕ} → d ≡ first_difference (name t (j - 1)) (name t i) → d ≤ 33 → {k : ℕ} → LastOf (sibling t (j - 1)) (j - 1) k → Left k (sum + d)
    unfolding pair_bytes
    left-on h {d} e m {k} l =
        let o = siblings_of (j - 1) (w.next h) l in
        let q : suc (j - 1) ≡ j = omega arith in
        let one : pair_bytes t i (j - 1) ≡ d = rw (w.next h) (sym e) in
        let s : sum_before (pair_bytes t i) j ≡ sum_before (pair_bytes t i) (j - 1) + pair_bytes t i (j - 1) = rw (add-one, q) at (sum_before_step (pair_bytes t i) (j - 1)) in
        let r = pairs_skip o in
        record { below = omega (arith, w.below, o.small); few = omega (arith, w.few, o.small); rest = omega (arith, w.rest); next = o.holds }

    pub left_end : j ≤ 0 → (sum ≡ bytes_with_earlier t i) × (sum ≤ 33 * i)
    unfolding sum_before
    left_end h =
        let q : j ≡ 0 = omega arith in
        let r = rw q at w.rest in
        (omega arith, omega (arith, w.few))

-- the nodes of an image, where s is its table
module _ (b : List ℕ) (ok : table_check b ≡ passed) {s : List ℕ} (e : s ≡ drop 32 b) where
  at-node : (i : ℕ) → i < node_count b → node (all_records s) i ≡ node (tree_of b) i
  at-node i h = image-node i (table-laid b ok, h) e

  pub image_lawful : LawfulBefore s (node_count b)
  image_lawful j h = same_lawful _ _ j (at-node j h) ∙ lawful_at b (sound b ok) j h

  pub image-bytes : sum_before (bytes_with_earlier (all_records s)) (node_count b) ≡ name_bytes (tree_of b)
  unfolding name_bytes tree_of
  image-bytes = same_bytes_lem (all_records s) (tree_of b) (node_count b) at-node
