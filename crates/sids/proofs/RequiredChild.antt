-- A required child of a node before which validation has come: its parent met rule 23, so it meets 24 and 25.
use Prim.Native.Nat.{ℕ}
use mathlib.Core.Path.{◌≡◌, refl, sym, ◌∙◌}
use mathlib.Core.Bool.{true, ◌&&◌}
use mathlib.Core.List.{List}
use native.Mathlib.Omega.{arith}
use native.Mathlib.Decide.{ℕ_discrete}
use borrow.Author.Tests.{eqb-true, eq-eqb, ne_eqb}
use Rattle.model.specs.Lists.{row}
use Rattle.model.specs.Bytes.{text}
use Rattle.model.specs.Rules.{check, passed}
use Rattle.model.specs.Image.{tree_of, parent}
use Rattle.model.specs.Given.{NodesTo}
use Rattle.model.specs.Containment.{role, child, found, Zone, ZoneType, Elements, IndexRange, DataArray}
use Rattle.model.specs.Values.{complete, type_lawful, value_lawful, zone_type_of, conforming, range_of, connectivity_of, sids_rules}
use Rattle.model.proofs.Logic.{untrue, and_first, and_second, or_cases}
use Rattle.model.proofs.Parents.{parent-lower, lawful_at}
use Rattle.model.proofs.Above.{earlier-rule}
use Rattle.model.proofs.Conforming.{or_missing_lem}
use Rattle.model.proofs.Staging.{kept, no_rule}
use Rattle.index.specs.Index.{kind}
use Rattle.index.proofs.Marking.{kind_parts}
use Rattle.sids.specs.Groups.{required_under, is_required, content_rules}
use Rattle.sids.proofs.Found.{child-role}

module _ (b : List ℕ) (i : ℕ) (g : NodesTo b i) where
  -- node i is the child r, n of its parent
  is-role : (r : ℕ) (n : List ℕ) → child (tree_of b) (parent (tree_of b) i) r n ≡ i → role (tree_of b) i ≡ r
  is-role r n e = rw e at (child-role b (parent (tree_of b) i) r n (rw e g.inside))

  all_kept : complete (tree_of b) i ≡ true → (type_lawful (tree_of b) i && value_lawful (tree_of b) i) ≡ true → passed ≡ check i (content_rules (tree_of b) i)
  all_kept c e = sym (kept _ 23 _ c ∙ kept _ 24 _ (and_first _ _ e) ∙ kept _ 25 _ (and_second (type_lawful (tree_of b) i) _ e) ∙ no_rule i)

  -- a zone's type
  of_zone : found (tree_of b) (zone_type_of (tree_of b) (parent (tree_of b) i)) ≡ true → child (tree_of b) (parent (tree_of b) i) ZoneType (text "ZoneType") ≡ i
      → passed ≡ check i (content_rules (tree_of b) i)
  unfolding zone_type_of complete type_lawful value_lawful row
  of_zone f e =
      let t = tree_of b in
      let q = is-role ZoneType (text "ZoneType") e in
      all_kept (rw q) (rw q (rw e at (or_missing_lem t _ _ f).1))

  -- a section's range or connectivity
  of_section : (r : ℕ) (n : List ℕ) → (role (tree_of b) i ≡ r → complete (tree_of b) i ≡ true)
      → found (tree_of b) (conforming (tree_of b) (parent (tree_of b) i) r n) ≡ true
      → child (tree_of b) (parent (tree_of b) i) r n ≡ i → passed ≡ check i (content_rules (tree_of b) i)
  unfolding conforming
  of_section r n c f e = all_kept (c (is-role r n e)) (rw e at (or_missing_lem (tree_of b) _ _ f).1)

  by_kind : (k : ℕ) → kind (tree_of b) (parent (tree_of b) i) ≡ k → (i ≡ 0 → ⊥) → required_under (tree_of b) k i ≡ true
      → passed ≡ check i (content_rules (tree_of b) i)
  unfolding sids_rules complete range_of connectivity_of row
  by_kind k q n e =
      let t = tree_of b in
      let p = parent t i in
      let l = parent-lower t i (lawful_at b g.sound i g.inside) n in
      elim (ℕ_discrete k Zone) [
        | yes z ↦
            let v = kind_parts t p (q ∙ z) (omega arith) in
            let f = rw v.1 at (earlier-rule b i g 23 p l v.0) in
            of_zone f (eqb-true _ i (rw z at e))
        | no y ↦ elim (ℕ_discrete k Elements) [
          | yes z ↦
              let v = kind_parts t p (q ∙ z) (omega arith) in
              let f = rw v.1 at (earlier-rule b i g 23 p l v.0) in
              or_cases _ _ (rw z at e) (λ h. of_section IndexRange (text "ElementRange") (λ r. rw r) (and_first _ _ f) (eqb-true _ i h))
              (λ h. of_section DataArray (text "ElementConnectivity") (λ r. rw r) (and_second (found t (range_of t p)) _ f) (eqb-true _ i h))
          | no w ↦ untrue (rw (ne_eqb k Zone y, ne_eqb k Elements w) at e)
        ]
      ]

  pub required_kept : is_required (tree_of b) i ≡ true → passed ≡ check i (content_rules (tree_of b) i)
  unfolding is_required
  required_kept e =
      elim (ℕ_discrete i 0) [
        | yes z ↦ untrue (rw (eq-eqb i 0 z) at e)
        | no n ↦ by_kind _ refl n (rw (ne_eqb i 0 n) at e)
      ]
