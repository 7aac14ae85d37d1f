-- Laws of a line: how a walk up from a node meets rule 7 at it and at all above it.
use Prim.Native.Nat.{ℕ, zero, suc, ◌+◌, ◌-◌, ◌≤◌, ◌<◌}
use mathlib.Core.Path.{◌≡◌, refl, sym, ap, ◌∙◌}
use mathlib.Core.Bool.{Bool, true, false, not, ◌&&◌, ◌||◌}
use mathlib.Core.List.{List, [], ◌∷◌}
use native.Mathlib.Omega.{arith}
use lib.Dec.{eqb, ltb, lit<}
use lib.ListN.{drop}
use borrow.Author.Tests.{ne_eqb, eqb-false, lt-ltb, le-ltb}
use Rattle.model.specs.Bytes.{le}
use Rattle.model.specs.Image.{Tree, parent, record_at}
use Rattle.model.specs.Rules.{Check, check, ◌unless◌}
use Rattle.model.specs.Records.{parent_lawful, no_parent, deeper_than, max_depth}
use Rattle.model.proofs.Logic.{and_first, and-true}
use Rattle.model.proofs.Parents.{parent-lower}
use Rattle.model.proofs.Staging.{holds}
use Rattle.table.proofs.Laws.{deeper_root, deeper_none, deeper_up}
use Rattle.writer_model.specs.declared.Writer.{Writer}
use Rattle.writer_model.specs.Writer.{Addition, tree_with, line_lawful}
use Rattle.writer_model.proofs.TreeWith.{earlier-parent, added_parent}
use Rattle.writer_rules.specs.Groups.{line_rules}

module _ (t : Tree) where
  -- two joins by the same tests, where what follows agrees
  join : (i : ℕ) (x y : Bool) → (parent_lawful t i ≡ true → (i ≡ 0 → ⊥) → x ≡ y) → (parent_lawful t i && (eqb i 0 || x)) ≡ (parent_lawful t i && (eqb i 0 || y))
  join i x y f = by_tests (parent_lawful t i) (eqb i 0) refl refl
    where
      by_tests : (p z : Bool) → parent_lawful t i ≡ p → eqb i 0 ≡ z → (p && (z || x)) ≡ (p && (z || y))
      by_tests false z e g = refl
      by_tests true true e g = refl
      by_tests true false e g = f e (eqb-false i 0 g)

  -- a line has at most as many nodes as there are lower numbers: more make no difference
  enough : (k j i : ℕ) → i ≤ k → i ≤ j → line_lawful t k i ≡ line_lawful t j i
  unfolding line_lawful
  enough zero zero i h l = refl
  enough zero (suc j) i h l = let e : i ≡ 0 = omega arith in rw e (sym (and-true (parent_lawful t 0)))
  enough (suc k) zero i h l = let e : i ≡ 0 = omega arith in rw e (and-true (parent_lawful t 0))
  enough (suc k) (suc j) i h l =
      join i (line_lawful t k (parent t i)) (line_lawful t j (parent t i))
      (λ p z. let u = parent-lower t i p z in enough k j (parent t i) (omega arith) (omega arith))

  step : (i : ℕ) → (i ≡ 0 → ⊥) → line_lawful t i i ≡ (ltb (parent t i) i && line_lawful t (i - 1) (parent t i))
  unfolding line_lawful parent_lawful
  step zero z = absurd (z refl)
  step (suc i) z = let e : suc i - 1 ≡ i = omega arith in rw (e, ne_eqb (suc i) 0 z)

  -- the parent of node i was read as u
  module _ (i : ℕ) {u : ℕ} (e : u ≡ parent t i) where
    pub line_root : i ≤ 0 → eqb u no_parent ≡ line_lawful t i i
    unfolding line_lawful parent_lawful
    line_root h = let z : i ≡ 0 = omega arith in rw (e, z)

    pub line_off : (i ≡ 0 → ⊥) → i ≤ u → false ≡ line_lawful t i i
    line_off z h = rw (step i z, le-ltb (parent t i) i (omega arith))

    pub line_up : (i ≡ 0 → ⊥) → u < i → line_lawful t u u ≡ line_lawful t i i
    line_up z h = rw (step i z, lt-ltb (parent t i) i (omega arith), ← e) (enough u (i - 1) u (omega arith) (omega arith))

  -- where rule 7 holds at node i and all above it
  line_here : (i : ℕ) → line_lawful t i i ≡ true → parent_lawful t i ≡ true
  unfolding line_lawful
  line_here zero e = e
  line_here (suc i) e = and_first (parent_lawful t (suc i)) _ e

  line_above : (i : ℕ) → (i ≡ 0 → ⊥) → line_lawful t i i ≡ true → (parent t i < i) × (line_lawful t (parent t i) (parent t i) ≡ true)
  line_above i z e = let u = parent-lower t i (line_here i e) z in (u, line_up i refl z u ∙ e)

-- rule 7 holds for the whole line, so at node i itself, and rule 8 decides
pub line_holds : (t : Tree) (i : ℕ) {x : Check} → line_lawful t i i ≡ true → x ≡ check i (8 unless not (deeper_than t max_depth i) ∷ []) → x ≡ check i (line_rules t i)
line_holds t i l e = holds i 7 _ l (holds i 7 _ (line_here t i l) e)

-- whatever is added: the parent field of record i in the room is node i's parent, and the parent given is the next node's
module _ (s : Writer) (a : Addition) (room : List ℕ) {u : ℕ} where
  pub read_parent : {i : ℕ} → u ≡ le 4 (drop (record_at i + 72) room) → i < s.node → u ≡ parent (tree_with s a room) i
  read_parent {i} e h = e ∙ sym (earlier-parent s a room i h)

  pub given-parent : a.parent ≡ u → u ≡ parent (tree_with s a room) s.node
  given-parent e = sym e ∙ sym (added_parent s a room)

-- a walk up from node n, whose line is lawful, with 32: it is at a node below n, with so many left
pub record Climb (t : Tree) (n left at : ℕ) : Type 0 where
  pub below : at < n
  pub lawful : line_lawful t at at ≡ true
  pub rest : deeper_than t left at ≡ deeper_than t max_depth n

pub climb_start : (t : Tree) (n : ℕ) {p : ℕ} → p ≡ parent t n → (n ≡ 0 → ⊥) → line_lawful t n n ≡ true → Climb t n 31 p
climb_start t n e z l =
    let u = line_above t n z l in
    record { below = omega arith; lawful = rw e u.1; rest = rw e (sym (deeper_up t 32 n (lit< tt) z)) }

module _ {t : Tree} {n left at : ℕ} (c : Climb t n left at) where
  pub climb_root : at ≡ 0 → false ≡ deeper_than t max_depth n
  climb_root z = sym (deeper_root t left) ∙ ap (deeper_than t left) (sym z) ∙ c.rest

  pub climb_on : {u : ℕ} → u ≡ parent t at → 0 < left → (at ≡ 0 → ⊥) → Climb t n (left - 1) u
  climb_on e h z =
      let u = line_above t at z c.lawful in
      record { below = omega (arith, c.below); lawful = rw e u.1; rest = rw e (sym (deeper_up t left at h z)) ∙ c.rest }

  pub climb_end : left ≤ 0 → not (eqb at 0) ≡ deeper_than t max_depth n
  climb_end h = sym (deeper_none t left at h) ∙ c.rest
