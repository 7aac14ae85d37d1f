-- Where validation has come to node i: what stands above a validated node that is placed as the table has it.
use Prim.Native.Nat.{ℕ, ◌≤◌, ◌<◌}
use mathlib.Core.Path.{◌≡◌, refl, sym, ap, ◌∙◌}
use mathlib.Core.Logic.{◌⊎◌, inl, inr}
use mathlib.Core.Bool.{Bool, true, false, ◌||◌, or-false}
use mathlib.Core.List.{List, [], ◌∷◌, ◌++◌}
use native.Mathlib.Omega.{arith}
use lib.Dec.{eqb}
use borrow.Author.Tests.{eqb-true}
use Rattle.model.specs.Lists.{among}
use Rattle.model.specs.Rules.{check, Check, ◌then◌}
use Rattle.model.specs.Image.{Tree, tree_of, node_count, parent}
use Rattle.model.specs.Given.{NodesTo}
use Rattle.model.specs.Containment.{role, validated, may_hold, containment, Base, Zone, Elements, Rind, GridCoordinates, FlowSolution, DataArray, Root}
use Rattle.model.specs.Values.{placed, type_lawful, value_lawful, zone_above, sids_rules, sized_array}
use Rattle.model.proofs.Logic.{untrue, and_first, and_second}
use Rattle.model.proofs.Parents.{parent-lower, lawful_at}
use Rattle.model.proofs.Staging.{check-append}
use Rattle.model.proofs.Sections.{not_root}
use Rattle.model.proofs.Above.{validated-above, earlier-rule, held_by, placed-held}
use Rattle.model.proofs.Walks.{not_of}
use Rattle.index.specs.Index.{kind}
use Rattle.index.proofs.Marking.{kind-role}
use Rattle.types.specs.Given.{ZoneInBase, NodeContext}
use Rattle.sids.specs.Given.{UnderZone, Sized}
use Rattle.sids.specs.Groups.{place_rules, content_rules, size_rules}

-- a list of one; what may hold a zone; what holds the three kinds of nodes under a zone
among_one : (x y : ℕ) → among x (y ∷ []) ≡ true → x ≡ y
unfolding among
among_one x y e = eqb-true x y (sym (or-false (eqb x y)) ∙ e)

base-holds : (above : ℕ) → may_hold above Zone ≡ true → above ≡ Base
unfolding containment among
base-holds above e = among_one above Base (held_by above Zone e)

zone-holds : (above r : ℕ) → among r (GridCoordinates ∷ FlowSolution ∷ Elements ∷ []) ≡ true → may_hold above r ≡ true → above ≡ Zone
unfolding containment among
zone-holds above r k e = by_test (eqb r 5) refl (eqb r 6) refl (eqb r 7) refl k
  where
    by_test : (x : Bool) → eqb r 5 ≡ x → (y : Bool) → eqb r 6 ≡ y → (z : Bool) → eqb r 7 ≡ z → (x || (y || (z || false))) ≡ true → above ≡ Zone
    by_test true p y q z s h = among_one above Zone (held_by above 5 (rw (← eqb-true r 5 p) e))
    by_test false p true q z s h = among_one above Zone (held_by above 6 (rw (← eqb-true r 6 q) e))
    by_test false p false q true s h = among_one above Zone (held_by above 7 (rw (← eqb-true r 7 s) e))
    by_test false p false q false s h = untrue h

pub section-zone : (above r : ℕ) → r ≡ Elements → may_hold above r ≡ true → above ≡ Zone
unfolding among
section-zone above r e h = zone-holds above r (rw e) h

rind_under : (above : ℕ) → may_hold above Rind ≡ true → among above (GridCoordinates ∷ FlowSolution ∷ Elements ∷ []) ≡ true
unfolding containment among
rind_under above e = held_by above Rind e

no_root : (t : Tree) (j r : ℕ) → among r (GridCoordinates ∷ FlowSolution ∷ Elements ∷ []) ≡ true → role t j ≡ r → j ≡ 0 → ⊥
unfolding among
no_root t j r k e = not_root t j r e (not_of (GridCoordinates ∷ FlowSolution ∷ Elements ∷ []) r Root k refl)

module _ (b : List ℕ) (i : ℕ) (g : NodesTo b i) where
  -- a validated node up to i, in its place
  record Placed (j : ℕ) : Type 0 where
    upto : j ≤ i
    is-validated : validated (tree_of b) j ≡ true
    place : placed (tree_of b) j ≡ true

  record Above (j : ℕ) : Type 0 where
    inside : parent (tree_of b) j < node_count b
    before : parent (tree_of b) j < i
    upper : Placed (parent (tree_of b) j)
    type : type_lawful (tree_of b) (parent (tree_of b) j) ≡ true
    value : value_lawful (tree_of b) (parent (tree_of b) j) ≡ true
    holds : may_hold (role (tree_of b) (parent (tree_of b) j)) (role (tree_of b) j) ≡ true

  above : (j : ℕ) → Placed j → (j ≡ 0 → ⊥) → Above j
  unfolding sids_rules
  above j p n =
      let t = tree_of b in
      let l = parent-lower t j (lawful_at b g.sound j (omega arith)) n in
      let v = validated-above b g.sound j (omega arith) n p.is-validated in
      let o : parent t j < i = omega arith in
      record {
        inside = omega arith;
        before = o;
        upper = record { upto = omega arith; is-validated = v; place = earlier-rule b i g 20 (parent t j) o v };
        type = earlier-rule b i g 24 (parent t j) o v;
        value = earlier-rule b i g 25 (parent t j) o v;
        holds = placed-held t j n p.place;
      }

  based : (j : ℕ) → Placed j → role (tree_of b) j ≡ Zone → ZoneInBase b j
  based j p e =
      let a = above j p (not_root (tree_of b) j Zone e refl) in
      record {
        inside = omega arith;
        zone = kind-role (tree_of b) j p.is-validated e;
        above = a.inside;
        base = base-holds (role (tree_of b) (parent (tree_of b) j)) (rw e at a.holds);
        type = a.type;
        value = a.value;
      }

  -- one of those three kinds stands under a zone that meets 24 and 25
  held : (j : ℕ) → Placed j → among (role (tree_of b) j) (GridCoordinates ∷ FlowSolution ∷ Elements ∷ []) ≡ true → UnderZone b j
  held j p k =
      let t = tree_of b in
      let a = above j p (no_root t j (role t j) k refl) in
      let z = zone-holds (role t (parent t j)) (role t j) k a.holds in
      record { inside = omega arith; zone = record { based = based (parent t j) a.upper z; zone = z; type = a.type }; value = a.value }

  module _ (v : validated (tree_of b) i ≡ true) (q : placed (tree_of b) i ≡ true) where
    here : Placed i
    here = record { upto = omega arith; is-validated = v; place = q }

    pub ready : NodeContext b i
    unfolding zone_above among
    ready =
        record {
          inside = g.inside;
          is-validated = v;
          zone = λ e. based i here e;
          rind = λ e. rind-based e;
          flow = λ n e. flow-based n e;
        }
      where
        flow-based : eqb (role (tree_of b) i) Root ≡ false → role (tree_of b) (parent (tree_of b) i) ≡ FlowSolution
            → ZoneInBase b (parent (tree_of b) (parent (tree_of b) i))
        flow-based n e = (held (parent (tree_of b) i) (above i here (not_root (tree_of b) i (role (tree_of b) i) refl n)).upper (rw e)).zone.based

        rind-based : role (tree_of b) i ≡ Rind → ZoneInBase b (parent (tree_of b) (parent (tree_of b) i))
        rind-based e =
            let n = not_root (tree_of b) i Rind e refl in
            let a = above i here n in
            (held (parent (tree_of b) i) a.upper (rind_under (role (tree_of b) (parent (tree_of b) i)) (rw e at a.holds))).zone.based

    -- a section stands under its zone
    pub section-held : role (tree_of b) i ≡ Elements → UnderZone b i
    unfolding among
    section-held e = held i here (rw e)

    -- the zone of a coordinate or flow array
    sized_held : sized_array (tree_of b) i ≡ true → UnderZone b (parent (tree_of b) i)
    unfolding sized_array among
    sized_held e =
        let t = tree_of b in
        let d = eqb-true (role t i) DataArray (and_first (eqb (role t i) DataArray) _ e) in
        let n = not_root t i DataArray d refl in
        held (parent t i) (above i here n).upper (three (eqb (role t (parent t i)) 5) (eqb (role t (parent t i)) 6) _
        (and_second (eqb (role t i) DataArray) _ e))
      where
        three : (x y z : Bool) → (x || (y || false)) ≡ true → (x || (y || z)) ≡ true
        three true y z h = refl
        three false true z h = refl
        three false false z h = untrue h

    pub sized : sized_array (tree_of b) i ≡ true → Sized b (parent (tree_of b) i)
    unfolding sized_array among
    sized e =
        let t = tree_of b in
        let d = eqb-true (role t i) DataArray (and_first (eqb (role t i) DataArray) _ e) in
        let n = not_root t i DataArray d refl in
        let u = (above i here n).upper.is-validated in
        record {
          held = sized_held e;
          kind-is = by_test u (eqb (role t (parent t i)) 5) refl (eqb (role t (parent t i)) 6) refl
              (and_second (eqb (role t i) DataArray) _ e);
        }
      where
        by_test : validated (tree_of b) (parent (tree_of b) i) ≡ true → (x : Bool) → eqb (role (tree_of b) (parent (tree_of b) i)) 5 ≡ x → (y : Bool)
            → eqb (role (tree_of b) (parent (tree_of b) i)) 6 ≡ y
            → (x || (y || false)) ≡ true → (kind (tree_of b) (parent (tree_of b) i) ≡ GridCoordinates) ⊎ (kind (tree_of b) (parent (tree_of b) i) ≡ FlowSolution)
        by_test u true p y q h = inl (kind-role _ _ u (eqb-true _ 5 p))
        by_test u false p true q h = inr (kind-role _ _ u (eqb-true _ 6 q))
        by_test u false p false q h = untrue h

-- the groups are the whole
pub sids_groups : (t : Tree) (i : ℕ) → check i (sids_rules t i) ≡ (check i (place_rules t i) then (check i (content_rules t i) then check i (size_rules t i)))
unfolding sids_rules
sids_groups t i =
    check-append i (place_rules t i) (content_rules t i ++ size_rules t i)
    ∙ ap (λ (c : Check). check i (place_rules t i) then c) (check-append i (content_rules t i) (size_rules t i))
