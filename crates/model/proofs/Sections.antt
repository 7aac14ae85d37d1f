-- The sections of a validated zone: its Elements_t children.
use Prim.Native.Nat.{ℕ, ◌≤◌, ◌<◌}
use mathlib.Core.Path.{◌≡◌, refl, sym, ◌∙◌}
use mathlib.Core.Bool.{Bool, true, false, ◌&&◌}
use mathlib.Core.List.{List}
use lib.Dec.{eqb, ltb}
use borrow.Author.Tests.{eqb-true, eq-eqb, ltb-true}
use Rattle.model.specs.Image.{Tree, tree_of, node_count, parent}
use Rattle.model.specs.Containment.{role, validated, validated_as, is_zone, section_of, Root, Zone, Elements, UserDefinedData}
use Rattle.model.specs.Given.{Sound}
use Rattle.model.proofs.Logic.{untrue, and_first, and_second}
use Rattle.model.proofs.Children.{no_child}
use Rattle.model.proofs.Validated.{validated-child}

-- a zone that a test found
pub record IsZone (b : List ℕ) (z : ℕ) : Type 0 where
  pub inside : z < node_count b
  pub zone : role (tree_of b) z ≡ Zone
  pub is-validated : validated (tree_of b) z ≡ true

pub zone-is : (b : List ℕ) (z : ℕ) → is_zone (tree_of b) z ≡ true → IsZone b z
unfolding is_zone validated_as tree_of
zone-is b z e =
    let v = and_second (ltb z (node_count b)) (eqb (role (tree_of b) z) Zone && validated (tree_of b) z) e in
    record {
      inside = ltb-true z (node_count b) (and_first (ltb z (node_count b)) _ e);
      zone = eqb-true (role (tree_of b) z) Zone (and_first (eqb (role (tree_of b) z) Zone) _ v);
      is-validated = and_second (eqb (role (tree_of b) z) Zone) _ v;
    }

-- node 0 is the root whatever its label
pub not_root : (t : Tree) (i r : ℕ) → role t i ≡ r → eqb r Root ≡ false → i ≡ 0 → ⊥
unfolding role
not_root t i r e n z = untrue (sym n ∙ eq-eqb r Root (sym e ∙ rw z))

-- no node up to the zone is a section of it
pub no_section : (b : List ℕ) → Sound b → (z : ℕ) → z < node_count b → (i : ℕ) → i ≤ z → section_of (tree_of b) z i ≡ false
unfolding section_of
no_section b s z h i l = rw (no_child b s z h i l)

module _ (b : List ℕ) (s : Sound b) (z : ℕ) (zone : role (tree_of b) z ≡ Zone) (v : validated (tree_of b) z ≡ true) where
  pub section-is-child : (i : ℕ) → i < node_count b → section_of (tree_of b) z i ≡ (eqb (parent (tree_of b) i) z && eqb (role (tree_of b) i) Elements)
  unfolding section_of validated_as
  section-is-child i h = by_test (eqb (parent t i) z) refl (eqb (role t i) Elements) refl
    where
      t : Tree
      t = tree_of b

      by_test : (p : Bool) → eqb (parent t i) z ≡ p → (r : Bool) → eqb (role t i) Elements ≡ r → (p && (r && validated t i)) ≡ (p && r)
      by_test false e r f = refl
      by_test true e false f = refl
      by_test true e true f =
          let q = eqb-true (role t i) Elements f in
          let n : i ≡ 0 → ⊥ = not_root t i Elements q refl in
          let u : eqb (role t z) UserDefinedData ≡ false = rw zone in
          rw (validated-child b s i z h n (eqb-true (parent t i) z e) v u, q)
