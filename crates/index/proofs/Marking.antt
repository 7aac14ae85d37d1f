-- The kind of a node from its parent's; the table of the index, one node after the other; what it tells.
use Prim.Native.Nat.{ℕ, zero, suc, ◌+◌, ◌*◌, ◌/◌, ◌%◌, ◌≤◌, ◌<◌}
use mathlib.Core.Path.{◌≡◌, refl, sym, ◌∙◌}
use mathlib.Core.Logic.{◌⊎◌, inl, inr}
use mathlib.Core.Bool.{Bool, true, false, cond, not, ◌&&◌, ◌||◌, and-true, and-false}
use mathlib.Core.List.{List}
use native.Mathlib.Omega.{arith}
use native.Mathlib.Decide.{ℕ_discrete}
use lib.Dec.{eqb, ltb}
use lib.ListN.{length, get_or, set, length-set}
use lib.Seq.{get_or-set_same, get_or-set_other}
use borrow.Author.Tests.{eq-eqb, ne_eqb, eqb-true, lt-ltb, ltb-true}
use Rattle.std.proofs.Common.{Option, Some, None}
use Rattle.model.specs.Lists.{seek_from}
use Rattle.model.specs.Image.{Tree, tree_of, node_count, parent}
use Rattle.model.specs.Containment.{role, validated, validated_as, is_child, child, UserDefinedData}
use Rattle.model.specs.Given.{Sound}
use Rattle.model.specs.Found.{if_below}
use Rattle.model.proofs.Found.{is_some, is_none}
use Rattle.model.proofs.Logic.{untrue, and_first}
use Rattle.model.proofs.Loops.{seek_start, seek_stop, seek_done}
use Rattle.model.proofs.Children.{no_child}
use Rattle.model.proofs.Parents.{parent-lower, lawful_at}
use Rattle.model.proofs.Validated.{validated_step, validated_root}
use Rattle.index.specs.Keys.{key_role, key_name, is_key, SlotOf}
use Rattle.index.specs.Index.{kind, kind_below, is_slot_child, slot_child, slot_at, kind_at, put_at, First, Rows, RowBegun, Index}

-- kinds
pub no_kind : (above role : ℕ) → above ≡ 0 → 0 ≡ kind_below above role
unfolding kind_below
no_kind above role e = rw e

pub foreign_kind : (above role : ℕ) → above ≡ UserDefinedData → 0 ≡ kind_below above role
unfolding kind_below
foreign_kind above role e = rw e

pub own-kind : (above role : ℕ) → (above ≡ 0 → ⊥) → (above ≡ UserDefinedData → ⊥) → role ≡ kind_below above role
unfolding kind_below
own-kind above role e f = rw (ne_eqb above 0 e, ne_eqb above UserDefinedData f)

pub kind_root : (t : Tree) → 15 ≡ kind t 0
unfolding kind role
kind_root t = rw (← validated_root t 0 refl)

module _ (b : List ℕ) (s : Sound b) where
  -- a validated node has a known label
  known : (j : ℕ) → j < node_count b → validated (tree_of b) j ≡ true → 0 < role (tree_of b) j
  unfolding role
  known j h v =
      elim (ℕ_discrete j 0) [
        | yes q ↦ rw q (omega arith)
        | no z ↦ ltb-true 0 (role (tree_of b) j) (and_first _ _ (and_first _ _ (sym (validated_step b s j h z) ∙ v)))
      ]

  -- by whether node j is validated
  pub kind-validated : (j : ℕ) → j < node_count b → ltb 0 (kind (tree_of b) j) ≡ validated (tree_of b) j
  unfolding kind
  kind-validated j h = by_test (validated (tree_of b) j) refl
    where
      by_test : (c : Bool) → validated (tree_of b) j ≡ c → ltb 0 (cond c (role (tree_of b) j) 0) ≡ c
      by_test true e = lt-ltb 0 (role (tree_of b) j) (known j h e)
      by_test false e = refl

  pub kind_as : (j r : ℕ) → j < node_count b → 0 < r → eqb (kind (tree_of b) j) r ≡ validated_as (tree_of b) r j
  unfolding kind validated_as
  kind_as j r h k = by_test (validated (tree_of b) j)
    where
      by_test : (c : Bool) → eqb (cond c (role (tree_of b) j) 0) r ≡ (eqb (role (tree_of b) j) r && c)
      by_test true = sym (and-true (eqb (role (tree_of b) j) r))
      by_test false = ne_eqb 0 r (λ z. absurd (omega arith)) ∙ sym (and-false (eqb (role (tree_of b) j) r))

  pub the_kind : {j r : ℕ} → j < node_count b → 0 < r → validated_as (tree_of b) r j ≡ true → kind (tree_of b) j ≡ r
  the_kind {j} {r} h k e = eqb-true _ r (kind_as j r h k ∙ e)

  pub not_kind : {j r : ℕ} → j < node_count b → 0 < r → validated_as (tree_of b) r j ≡ false → kind (tree_of b) j ≡ r → ⊥
  not_kind {j} {r} h k e q = untrue (sym e ∙ sym (kind_as j r h k) ∙ eq-eqb _ r q)

  pub lower : (j : ℕ) → j < node_count b → 0 < j → parent (tree_of b) j < j
  lower j h z = parent-lower (tree_of b) j (lawful_at b s j h) (λ q. absurd (omega arith))

  -- the parent decides
  kind_step : (j : ℕ) → j < node_count b → 0 < j → kind_below (kind (tree_of b) (parent (tree_of b) j)) (role (tree_of b) j) ≡ kind (tree_of b) j
  unfolding kind kind_below
  kind_step j h z =
      let t = tree_of b in
      let p = parent t j in
      let l = lower j h z in
      rw (validated_step b s j h (λ q. absurd (omega arith)))
      (by_parent (validated t p) (role t p) (role t j) (λ v. known p (omega arith) v))
    where
      by_role : (r : ℕ) (c : Bool) → cond (false || c) 0 r ≡ cond (ltb 0 r && not c && true) r 0
      by_role r true = rw (and-false (ltb 0 r))
      by_role zero false = refl
      by_role (suc r) false = rw (lt-ltb 0 (suc r) (omega arith))

      by_parent : (v : Bool) (a r : ℕ) → (v ≡ true → 0 < a)
          → cond (eqb (cond v a 0) 0 || eqb (cond v a 0) UserDefinedData) 0 r ≡ cond (ltb 0 r && not (eqb a UserDefinedData) && v) r 0
      by_parent true a r k = let y = k refl in rw (ne_eqb a 0 (λ q. absurd (omega arith))) (by_role r (eqb a UserDefinedData))
      by_parent false a r k = rw (and-false (ltb 0 r && not (eqb a UserDefinedData)))

  pub kind_by : (j : ℕ) {up above r k : ℕ} → j < node_count b → 0 < j → up ≡ parent (tree_of b) j → above ≡ kind (tree_of b) up → r ≡ role (tree_of b) j
      → k ≡ kind_below above r
      → k ≡ kind (tree_of b) j
  kind_by j h z e f g i = i ∙ rw (f, e, g) (kind_step j h z)

-- the first where a test holds, one number more
module _ {p : ℕ → Bool} {n v : ℕ} (f : First p n v) where
  first_skip : p n ≡ false → First p (n + 1) v
  first_skip e =
      record {
        inside = λ z. let l = f.inside z in omega arith;
        at = f.at;
        before = λ j l k. elim (ℕ_discrete j n) [
          | yes q ↦ rw q e
          | no m ↦ f.before j (omega (arith, m)) k
        ];
      }

  first_stays : 0 < v → First p (n + 1) v
  first_stays z =
      record {
        inside = λ y. let l = f.inside z in omega arith;
        at = f.at;
        before = λ j l k. let m = k z in let o = f.inside z in f.before j (omega arith) k;
      }

  first_put : v ≡ 0 → 0 < n → p n ≡ true → First p (n + 1) n
  first_put q y e =
      record {
        inside = λ z. omega arith;
        at = λ z. e;
        before = λ j l k. let m = k y in f.before j m (λ w. absurd (omega arith));
      }

  -- the search of the model
  pub first_found : 0 < v → v ≡ seek_from p n 0
  first_found z =
      let l = f.inside z in
      seek_stop (seek_start p n v (omega arith) (λ j h. f.before j (omega arith) (λ y. h))) l (f.at z)

  pub first-none : v ≡ 0 → n ≡ seek_from p n 0
  first-none z = seek_done (seek_start p n n (omega arith) (λ j h. f.before j h (λ y. absurd (omega arith)))) (omega arith)

-- the kind of a validated node is its role
pub kind-role : (t : Tree) (j : ℕ) {r : ℕ} → validated t j ≡ true → role t j ≡ r → kind t j ≡ r
unfolding kind
kind-role t j v e = rw v e

pub kind_parts : (t : Tree) (j : ℕ) {r : ℕ} → kind t j ≡ r → 0 < r → (validated t j ≡ true) × (role t j ≡ r)
unfolding kind
kind_parts t j {r} e h = by_test (validated t j) e
  where
    by_test : (c : Bool) → cond c (role t j) 0 ≡ r → (c ≡ true) × (role t j ≡ r)
    by_test true q = (refl, q)
    by_test false q = absurd (omega arith)

-- a slot tells the model's look-up
module _ {b index : List ℕ} (x : Index b index) (p k : ℕ) (h : p < node_count b) (l : k < 4) where
  pub slot_found : (slot_at index p k ≡ 0 → ⊥) → Some (slot_at index p k) ≡ if_below (node_count b) (slot_child (tree_of b) p k)
  unfolding slot_child is_slot_child child tree_of
  slot_found z =
      let f = x.rows.slots p k h l in
      let y : 0 < slot_at index p k = omega (arith, z) in
      let u = f.inside y in
      rw (← first_found f y) (sym (is_some u))

  pub slot_empty : slot_at index p k ≡ 0 → None ≡ if_below (node_count b) (slot_child (tree_of b) p k)
  unfolding slot_child is_slot_child child tree_of
  slot_empty e = sym (is_none (omega (arith, first-none (x.rows.slots p k h l) e)))

-- which child a slot of a node of a kind is for
pub slot_for : (t : Tree) (p k n : ℕ) {r : ℕ} {x : Option ℕ} → x ≡ if_below n (slot_child t p k) → kind t p ≡ r
    → x ≡ if_below n (child t p (key_role r k) (key_name r k))
unfolding slot_child
slot_for t p k n f e = rw e at f

-- four writes
pub row_begun : (s : List ℕ) (j v : ℕ) → 4 * j + 4 ≤ length s
    → RowBegun s j v (set (set (set (set s (4 * j) (4096 * v)) (4 * j + 1) 0) (4 * j + 2) 0) (4 * j + 3) 0)
row_begun s j v h =
    let a = 4 * j in
    let s1 = set s a (4096 * v) in
    let s2 = set s1 (a + 1) 0 in
    let s3 = set s2 (a + 2) 0 in
    let l1 = length-set s a (4096 * v) in
    let l2 = length-set s1 (a + 1) 0 in
    let l3 = length-set s2 (a + 2) 0 in
    let past : (i : ℕ) → (i ≡ a → ⊥) → (i ≡ a + 1 → ⊥) → (i ≡ a + 2 → ⊥) → (i ≡ a + 3 → ⊥) → get_or (set s3 (a + 3) 0) i 0 ≡ get_or s i 0 =
    λ i n0 n1 n2 n3. get_or-set_other s3 (a + 3) i 0 0 n3 ∙ get_or-set_other s2 (a + 2) i 0 0 n2 ∙ get_or-set_other s1 (a + 1) i 0 0 n1 ∙ get_or-set_other s a i
    (4096 * v) 0 n0 in
    let z : 4 * j + 0 ≡ a = omega arith in
    record {
      long = length-set s3 (a + 3) 0 ∙ l3 ∙ l2 ∙ l1;
      first = rw z (get_or-set_other s3 (a + 3) a 0 0 (λ q. absurd (omega arith)) ∙ get_or-set_other s2 (a + 2) a 0 0 (λ q. absurd (omega arith))
          ∙ get_or-set_other s1 (a + 1) a 0 0 (λ q. absurd (omega arith)) ∙ get_or-set_same s a (4096 * v) 0 (omega arith));
      empty = λ k l m. elim (ℕ_discrete k 3) [
        | yes q ↦ rw q (get_or-set_same s3 (a + 3) 0 0 (omega arith))
        | no n ↦ get_or-set_other s3 (a + 3) (4 * j + k) 0 0 (λ w. n (omega arith)) ∙ elim (ℕ_discrete k 2) [
          | yes q ↦ rw q (get_or-set_same s2 (a + 2) 0 0 (omega arith))
          | no o ↦ let q : k ≡ 1 = omega (arith, n, o) in get_or-set_other s2 (a + 2) (4 * j + k) 0 0 (λ w. o (omega arith)) ∙ rw q
              (get_or-set_same s1 (a + 1) 0 0 (omega arith))
        ]
      ];
      others =
          λ i w. past i (λ q. apart i w 0 (omega arith) (omega arith)) (λ q. apart i w 1 (omega arith) q) (λ q. apart i w 2 (omega arith) q)
          (λ q. apart i w 3 (omega arith) q);
    }
  where
    apart : (i : ℕ) → (i < 4 * j) ⊎ (4 * j + 4 ≤ i) → (k : ℕ) → k < 4 → i ≡ 4 * j + k → ⊥
    apart i (inl w) k l q = absurd (omega arith)
    apart i (inr w) k l q = absurd (omega arith)

-- no row is begun
pub no_rows : (b index : List ℕ) → 4 * node_count b ≤ length index → Rows b index 0 0
no_rows b index h = record { long = h; kinds = λ j l. absurd (omega arith); few = λ j l. absurd (omega arith); slots = λ p k l m. absurd (omega arith) }

-- no node before j is a child of node j
no_children : {b : List ℕ} (j k v : ℕ) → Sound b → j < node_count b → v ≡ 0 → First (is_slot_child (tree_of b) j k) j v
unfolding is_slot_child is_child
no_children {b} j k v s h q =
    record { inside = λ y. absurd (omega arith); at = λ y. absurd (omega arith); before = λ i l m. rw (no_child b s j h i (omega arith)) }

-- row j begun, after those before it: no node up to j is its child
pub begin_row : {b index index' : List ℕ} {j v : ℕ} → Sound b → Rows b index j j → RowBegun index j v index' → j < node_count b → v ≡ kind (tree_of b) j → v < 16
    → Rows b index' (j + 1) j
begin_row {b} {index} {index'} {j} {v} s t r h e f =
    let z : 4096 * v / 4096 ≡ v = omega arith in
    let same : (i k : ℕ) → i < j → k < 4 → get_or index' (4 * i + k) 0 ≡ get_or index (4 * i + k) 0 = λ i k l m. r.others (4 * i + k) (inl (omega arith)) in
    record {
      long = rw r.long t.long;
      kinds = λ i m. elim (ℕ_discrete i j) [
        | yes q ↦ rw (q, r.first, z) e
        | no n ↦ let l : i < j = omega (arith, n) in rw (same i 0 l (omega arith)) (t.kinds i l)
      ];
      few = λ i m. elim (ℕ_discrete i j) [
        | yes q ↦ rw (q, r.first, z) f
        | no n ↦ let l : i < j = omega (arith, n) in rw (same i 0 l (omega arith)) (t.few i l)
      ];
      slots = λ p k m l. elim (ℕ_discrete p j) [
        | yes q ↦ rw q (no_children j k _ s h (empty k l))
        | no n ↦ let o : p < j = omega (arith, n) in rw (same p k o l) (t.slots p k o l)
      ];
    }
  where
    empty : (k : ℕ) → k < 4 → slot_at index' j k ≡ 0
    empty zero l = rw r.first (omega arith)
    empty (suc k) l = rw (r.empty (suc k) (omega arith) l) (omega arith)

-- the root is nobody's child
pub root_row : {b index : List ℕ} → Sound b → 1 ≤ node_count b → Rows b index 1 0 → Rows b index 1 1
unfolding is_slot_child is_child
root_row {b} s h t =
    record {
      long = t.long;
      kinds = t.kinds;
      few = t.few;
      slots = λ p k l m. first_skip (t.slots p k l m)
          (rw (no_child b s p (omega arith) 0 (omega arith)));
    }

-- node j, whose row is begun, and its parent up, of the kind above: it is for slot r
module _ {b index : List ℕ} {j up above r : ℕ} (s : Sound b) (t : Rows b index (j + 1) j) (z : 0 < j) (h : j < node_count b) (e : up ≡ parent (tree_of b) j)
    (a : above ≡ kind (tree_of b) up) (o : SlotOf (tree_of b) above j r) where
  looks : (p k : ℕ) → k < 4 → is_slot_child (tree_of b) p k j ≡ (eqb up p && eqb k r)
  unfolding is_slot_child is_child is_key
  looks p k l =
      elim (ℕ_discrete up p) [
        | yes q ↦ rw (← e, eq-eqb up p q, ← q, ← a) (o.is k l)
        | no n ↦ rw (← e, ne_eqb up p n)
      ]

  -- another slot stays
  stays : (p k : ℕ) → p < j + 1 → k < 4 → ((up ≡ p) × (k ≡ r) → ⊥) → First (is_slot_child (tree_of b) p k) (j + 1) (slot_at index p k)
  stays p k l m n = first_skip (t.slots p k l m) (looks p k m ∙ neither (eqb up p) (eqb k r) refl refl)
    where
      neither : (x y : Bool) → eqb up p ≡ x → eqb k r ≡ y → (x && y) ≡ false
      neither true true q w = absurd (n (eqb-true up p q, eqb-true k r w))
      neither true false q w = refl
      neither false y q w = refl

  pub no_mark : 4 ≤ r → Rows b index (j + 1) (j + 1)
  no_mark g = record { long = t.long; kinds = t.kinds; few = t.few; slots = λ p k l m. stays p k l m (λ q. absurd (omega (arith, q))) }

  up-lower : up < j
  up-lower = let l = lower b s j h z in omega arith

  pub mark_room : r < 4 → 4 * up + r < length index
  mark_room g = let u = up-lower in let l = t.long in omega arith

  is-child : r < 4 → is_slot_child (tree_of b) up r j ≡ true
  is-child g = looks up r g ∙ rw (eq-eqb up up refl, eq-eqb r r refl)

  -- the slot is filled: it stays
  mark_kept : r < 4 → (slot_at index up r ≡ 0 → ⊥) → Rows b index (j + 1) (j + 1)
  mark_kept g y =
      record {
        long = t.long;
        kinds = t.kinds;
        few = t.few;
        slots = λ p k l m. elim (ℕ_discrete (4 * p + k) (4 * up + r)) [
          | yes q ↦ first_stays (t.slots p k l m) (rw q (omega (arith, y)))
          | no n ↦ stays p k l m (λ q. n (omega (arith, q)))
        ];
      }

  -- the slot is empty: the kind above it stays
  mark_put : r < 4 → slot_at index up r ≡ 0 → Rows b (set index (4 * up + r) (get_or index (4 * up + r) 0 + j)) (j + 1) (j + 1)
  mark_put g y =
      let few = s.laid.few in
      let at = 4 * up + r in
      let old = get_or index at 0 in
      let new = set index at (old + j) in
      let here : get_or new at 0 ≡ old + j = get_or-set_same index at (old + j) 0 (mark_room g) in
      let slot : (old + j) % 4096 ≡ j = omega arith in
      let kind-stays : (i : ℕ) → kind_at new i ≡ kind_at index i =
      λ i. elim (ℕ_discrete (4 * i + 0) at) [
        | yes q ↦ rw (q, here) (let k : (old + j) / 4096 ≡ old / 4096 = omega arith in k)
        | no n ↦ rw (get_or-set_other index at (4 * i + 0) (old + j) 0 n)
      ] in
      record {
        long = rw (length-set index at (old + j)) t.long;
        kinds = λ i m. kind-stays i ∙ t.kinds i m;
        few = λ i m. rw (kind-stays i) (t.few i m);
        slots = λ p k l m. elim (ℕ_discrete (4 * p + k) at) [
          | yes q ↦
              let ep : p ≡ up = omega arith in
              let ek : k ≡ r = omega arith in
              rw (ep, ek, here, slot) (first_put (t.slots up r (let u = up-lower in omega arith) g) y z (is-child g))
          | no n ↦ rw (get_or-set_other index at (4 * p + k) (old + j) 0 n) (stays p k l m (λ q. n (omega (arith, q))))
        ];
      }

  pub mark : r < 4 → Rows b (put_at index (4 * up + r) j) (j + 1) (j + 1)
  mark g =
      elim (ℕ_discrete (slot_at index up r) 0) [
        | yes y ↦ rw (eq-eqb (slot_at index up r) 0 y) (mark_put g y)
        | no y ↦ rw (ne_eqb (slot_at index up r) 0 y) (mark_kept g y)
      ]
