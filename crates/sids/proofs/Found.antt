-- What a search for a child found.
use Prim.Native.Nat.{ℕ, ◌<◌}
use mathlib.Core.Path.{◌≡◌, sym, subst, ◌∙◌}
use mathlib.Core.Bool.{Bool, true, not, ◌&&◌, ◌||◌}
use mathlib.Core.List.{List}
use lib.Dec.{eqb, ltb}
use borrow.Author.Tests.{eqb-true, eq-eqb, ltb-true, not-true}
use Rattle.model.specs.Image.{tree_of, node_count, parent}
use Rattle.model.specs.Containment.{role, Zone, FlowSolution, Rind, Root, UserDefinedData, child, is_child, or_missing}
use Rattle.model.specs.Given.{Sound}
use Rattle.std.proofs.Common.{Option, Some, None}
use Rattle.std.specs.Option.{unwrap_or}
use Rattle.model.specs.Found.{if_below}
use Rattle.model.proofs.Found.{is_none}
use native.Mathlib.Omega.{arith}
use Rattle.types.proofs.Missing.{there, none_kept}
use Rattle.model.specs.Values.{zone_above, type_lawful, value_lawful, conforming}
use Rattle.model.proofs.Logic.{untrue, and_first, and_second, or_left, or_right}
use Rattle.model.proofs.Validated.{validated-child}
use Rattle.model.proofs.Sections.{not_root}
use Rattle.model.proofs.Conforming.{child-is}
use Rattle.types.specs.Given.{ZoneInBase, NodeContext}
use Rattle.index.specs.Index.{kind}
use Rattle.index.proofs.Marking.{kind_parts}

-- the child of role r of a node of kind k depends on the zone above that node
abbrev pub asks_zone : ℕ → ℕ → Bool
asks_zone k r = eqb r Rind || eqb k FlowSolution

-- a child of role r, but a zone, is looked up under a node of kind k
abbrev pub asked : ℕ → ℕ → Bool
asked k r = (ltb 0 k && not (eqb k UserDefinedData)) && (ltb 0 r && not (eqb r Root) && not (eqb r Zone))

module _ (b : List ℕ) (i r : ℕ) (n : List ℕ) (h : child (tree_of b) i r n < node_count b) where
  found-child : is_child (tree_of b) i r n (child (tree_of b) i r n) ≡ true
  unfolding tree_of
  found-child = child-is (tree_of b) i r n h

  pub child-parent : parent (tree_of b) (child (tree_of b) i r n) ≡ i
  unfolding is_child
  child-parent =
      let j = child (tree_of b) i r n in
      eqb-true _ _ (and_first (eqb (parent (tree_of b) j) i) _ (and_first (eqb (parent (tree_of b) j) i && eqb (role (tree_of b) j) r) _ found-child))

  pub child-role : role (tree_of b) (child (tree_of b) i r n) ≡ r
  unfolding is_child
  child-role =
      let j = child (tree_of b) i r n in
      eqb-true _ _ (and_second (eqb (parent (tree_of b) j) i) _ (and_first (eqb (parent (tree_of b) j) i && eqb (role (tree_of b) j) r) _ found-child))

  -- it has a known label, and stands under a validated node that is no UserDefinedData_t: it can be judged
  child_ready : Sound b → {k : ℕ} → kind (tree_of b) i ≡ k → asked k r ≡ true → (asks_zone k r ≡ true → ZoneInBase b (parent (tree_of b) i))
      → NodeContext b (child (tree_of b) i r n)
  unfolding zone_above
  child_ready s {k} e q f =
      let j = child (tree_of b) i r n in
      let p = kind_parts (tree_of b) i e (ltb-true 0 k (and_first (ltb 0 k) _ (and_first (ltb 0 k && not (eqb k UserDefinedData)) _ q))) in
      let l = and_second (ltb 0 k && not (eqb k UserDefinedData)) _ q in
      let known = and_first (ltb 0 r) _ (and_first (ltb 0 r && not (eqb r Root)) _ l) in
      let other : (x : ℕ) → not (eqb r x) ≡ true → r ≡ x → ⊥ = λ x g z. untrue (sym (not-true (eqb r x) g) ∙ eq-eqb r x z) in
      let root = not-true (eqb r Root) (and_second (ltb 0 r) _ (and_first (ltb 0 r && not (eqb r Root)) _ l)) in
      let foreign = not-true (eqb k UserDefinedData) (and_second (ltb 0 k) _ (and_first (ltb 0 k && not (eqb k UserDefinedData)) _ q)) in
      let zoned : ZoneInBase b (parent (tree_of b) i) → ZoneInBase b (parent (tree_of b) (parent (tree_of b) j))
      = λ x. subst (λ (p : ℕ). ZoneInBase b (parent (tree_of b) p)) (sym child-parent) x in
      record {
        inside = h;
        is-validated = validated-child b s j i h (not_root (tree_of b) j r child-role root) child-parent p.0 (rw p.1 foreign) ∙ rw child-role known;
        zone = λ z. absurd (other Zone (and_second (ltb 0 r && not (eqb r Root)) _ l) (sym child-role ∙ z));
        rind = λ z. zoned (f (or_left (eqb r Rind) (eqb k FlowSolution) (eq-eqb r Rind (sym child-role ∙ z))));
        flow = λ g z. zoned (f (or_right (eqb r Rind) (eqb k FlowSolution) (eq-eqb k FlowSolution (sym p.1 ∙ (rw child-parent at z)))));
      }

pub found_ready : (b : List ℕ) → Sound b → (i r : ℕ) (n : List ℕ) {o : Option ℕ} {k : ℕ} → kind (tree_of b) i ≡ k → asked k r ≡ true
    → (asks_zone k r ≡ true → ZoneInBase b (parent (tree_of b) i)) → o ≡ if_below (node_count b) (child (tree_of b) i r n)
    → (j : ℕ) → o ≡ Some j → NodeContext b j
found_ready b s i r n e q f g j h = let l = there (sym h ∙ g) in rw l.0 (child_ready b i r n (rw (← l.0) l.1) s e q f)

-- a looked_up child, or nothing, as rules 24 and 25 have it
pub conforming_by : (b : List ℕ) (i r : ℕ) (n : List ℕ) (o : Option ℕ) {x : Option ℕ} → o ≡ if_below (node_count b) (child (tree_of b) i r n)
    → (let j = unwrap_or o (node_count b) in x ≡ if_below (node_count b) (or_missing (tree_of b) (type_lawful (tree_of b) j && value_lawful (tree_of b) j) j))
    → x ≡ if_below (node_count b) (conforming (tree_of b) i r n)
unfolding conforming
conforming_by b i r n None e f =
    let p = λ (j : ℕ). type_lawful (tree_of b) j && value_lawful (tree_of b) j in
    f ∙ sym (none_kept b p (node_count b) (sym (is_none (omega arith)))) ∙ none_kept b p _ e
conforming_by b i r n (Some j) e f = rw (there e).0 at f
