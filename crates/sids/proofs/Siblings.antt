-- A coordinate or flow array after another one under the same node: that one has the dimensions of DataSize.
use Prim.Native.Nat.{ℕ, ◌-◌, ◌<◌}
use mathlib.Core.Path.{◌≡◌, refl, ◌∙◌}
use mathlib.Core.Bool.{true, ◌&&◌}
use mathlib.Core.List.{List}
use native.Mathlib.Omega.{arith}
use lib.Dec.{eqb}
use borrow.Author.Tests.{eqb-true}
use Rattle.model.specs.Lists.{◌⊃◌}
use Rattle.model.specs.Image.{Tree, tree_of, parent, dimensions}
use Rattle.model.specs.Given.{NodesTo}
use Rattle.model.specs.Containment.{role, validated_as, DataArray}
use Rattle.model.specs.Values.{sized_array, sizes_lawful, data_sizes, sids_rules}
use Rattle.model.proofs.Logic.{and_first, and_second}
use Rattle.model.proofs.Sections.{not_root}
use Rattle.model.proofs.Above.{earlier-rule}
use Rattle.types.proofs.StoredNumbers.{shaped-is}

-- an array is not the root
pub array_after : (t : Tree) (i : ℕ) → sized_array t i ≡ true → 0 < i
unfolding sized_array
array_after t i e =
    omega (
      arith,
      not_root t i DataArray (eqb-true (role t i) DataArray (and_first (eqb (role t i) DataArray) _ e)) refl,
    )

pub sibling-sizes : (b : List ℕ) (i up : ℕ) → NodesTo b i → sized_array (tree_of b) i ≡ true → up ≡ parent (tree_of b) i
    → (eqb (parent (tree_of b) (i - 1)) up && validated_as (tree_of b) DataArray (i - 1)) ≡ true
    → dimensions (tree_of b) (i - 1) ≡ data_sizes (tree_of b) (parent (tree_of b) i)
unfolding sids_rules sizes_lawful sized_array validated_as ◌⊃◌
sibling-sizes b i up g e f h =
    let t = tree_of b in
    let j = i - 1 in
    let l = array_after t i e in
    let p : parent t j ≡ parent t i = eqb-true (parent t j) up (and_first (eqb (parent t j) up) _ h) ∙ f in
    let w = and_second (eqb (parent t j) up) _ h in
    let r = earlier-rule b i g 26 j (omega arith) (and_second (eqb (role t j) DataArray) _ w) in
    let s = rw (and_first (eqb (role t j) DataArray) _ w, p, and_second (eqb (role t i) DataArray) _ e) at r in
    shaped-is t j (data_sizes t (parent t i)) s
