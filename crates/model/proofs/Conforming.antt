-- What a look-up found. A conforming child is a child with that label and name, and meets rules 24 and 25.
use Prim.Native.Nat.{ℕ, ◌<◌}
use mathlib.Core.Path.{◌≡◌, refl}
use mathlib.Core.Bool.{Bool, true, false, ◌&&◌}
use mathlib.Core.List.{List}
use native.Mathlib.Omega.{arith}
use native.Mathlib.Nat.{zero-add}
use lib.Dec.{eqb}
use borrow.Author.Tests.{ltb-true, eqb-true}
use Rattle.model.specs.Bytes.{spells}
use Rattle.model.specs.Image.{Tree, parent, name}
use Rattle.model.specs.Containment.{role, validated, validated_as, section_of, Elements, child, is_child, found, or_missing}
use Rattle.model.specs.Values.{conforming, type_lawful, value_lawful}
use Rattle.model.proofs.Logic.{and_first, and_second}
use Rattle.model.proofs.Walks.{seek_holds}

pub or_missing_lem : (t : Tree) (conforms : Bool) (j : ℕ) → found t (or_missing t conforms j) ≡ true → (or_missing t conforms j ≡ j) × (conforms ≡ true)
unfolding or_missing found
or_missing_lem t true j h = (refl, refl)
or_missing_lem t false j h = absurd (omega (arith, ltb-true t.count t.count h))

-- a child that a search found is a child with that label and name
pub child-is : (t : Tree) (i r : ℕ) (n : List ℕ) → child t i r n < t.count → is_child t i r n (child t i r n) ≡ true
unfolding child
child-is t i r n h = seek_holds (is_child t i r n) t.count 0 (rw zero-add h)

module _ (t : Tree) (i r : ℕ) (n : List ℕ) (h : found t (conforming t i r n) ≡ true) where
  pub conforming-inside : conforming t i r n < t.count
  unfolding found
  conforming-inside = ltb-true (conforming t i r n) t.count h

  pub conforming-is : conforming t i r n ≡ child t i r n
  unfolding conforming
  conforming-is = (or_missing_lem t (type_lawful t (child t i r n) && value_lawful t (child t i r n)) (child t i r n) h).0

  child_lawful : (type_lawful t (child t i r n) && value_lawful t (child t i r n)) ≡ true
  unfolding conforming
  child_lawful = (or_missing_lem t (type_lawful t (child t i r n) && value_lawful t (child t i r n)) (child t i r n) h).1

  lawful : (type_lawful t (conforming t i r n) && value_lawful t (conforming t i r n)) ≡ true
  lawful = rw conforming-is child_lawful

  pub conforming-type : type_lawful t (conforming t i r n) ≡ true
  conforming-type = and_first _ _ lawful

  pub conforming-value : value_lawful t (conforming t i r n) ≡ true
  conforming-value = and_second (type_lawful t (conforming t i r n)) _ lawful

  is-child : is_child t i r n (conforming t i r n) ≡ true
  is-child = rw conforming-is (child-is t i r n (rw conforming-is at conforming-inside))

  pub conforming-parent : parent t (conforming t i r n) ≡ i
  unfolding is_child
  conforming-parent = eqb-true _ _
      (and_first (eqb (parent t (conforming t i r n)) i) _
      (and_first (eqb (parent t (conforming t i r n)) i && eqb (role t (conforming t i r n)) r) _ is-child))

  pub conforming-role : role t (conforming t i r n) ≡ r
  unfolding is_child
  conforming-role = eqb-true _ _
      (and_second (eqb (parent t (conforming t i r n)) i) _
      (and_first (eqb (parent t (conforming t i r n)) i && eqb (role t (conforming t i r n)) r) _ is-child))

  pub conforming-name : spells (name t (conforming t i r n)) n ≡ true
  unfolding is_child
  conforming-name = and_second (eqb (parent t (conforming t i r n)) i && eqb (role t (conforming t i r n)) r) _ is-child

-- a section that a test found: it is a validated Elements_t child of the zone
pub record IsSection (t : Tree) (z s : ℕ) : Type 0 where
  pub parent_is : parent t s ≡ z
  pub elements : eqb (role t s) Elements ≡ true
  pub is-validated : validated t s ≡ true

pub section-is : (t : Tree) (z s : ℕ) → section_of t z s ≡ true → IsSection t z s
unfolding section_of validated_as
section-is t z s e =
    let v = and_second (eqb (parent t s) z) (eqb (role t s) Elements && validated t s) e in
    record {
      parent_is = eqb-true (parent t s) z (and_first (eqb (parent t s) z) _ e);
      elements = and_first (eqb (role t s) Elements) (validated t s) v;
      is-validated = and_second (eqb (role t s) Elements) (validated t s) v;
    }
