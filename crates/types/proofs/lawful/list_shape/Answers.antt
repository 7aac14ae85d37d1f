-- The parent's role, then the number of dimensions, then their sizes.
use mathlib.Core.Path.{◌≡◌, ap, sym, ◌∙◌}
use mathlib.Core.Bool.{false, and-false}
use mathlib.Core.List.{[], ◌∷◌}
use lib.Dec.{eqb}
use native.Mathlib.Omega.{arith}
use borrow.Author.Tests.{ne_eqb}
use Rattle.model.specs.Image.{tree_of, parent, node, dimensions, I4, I8}
use Rattle.model.specs.Containment.{role}
use Rattle.model.specs.Values.{typed, shaped, index_dimension, zone_above, list_shape, list_count}
use Rattle.model.proofs.Bounds.{node-placed}
use Rattle.model.proofs.Reading.{rank_is}
use Rattle.labels.proofs.Fields.{same_not}
use Rattle.labels.specs.Roles.{role_number}
use Rattle.labels.specs.contracts.roles.Role.{the_type}
use denote.Enum.Bare.{differs_true, differs_false}
use borrow.Author.Rules.{rules}
use Rattle.labels.specs.declared.roles.Role.TheVariants as v
use Rattle.labels.proofs.Numbers.{not_role}
use Rattle.types.proofs.lawful.list_shape.Goals as goal
use Rattle.types.proofs.lawful.list_shape.Goals.{After-dimension-count, After-role_of-above, Else-read-ne2}

-- the role of the node above
module _ (c : After-role_of-above) where
  above-is : role_number c.role_of-above.result ≡ role (tree_of c.args.image.now) (parent (tree_of c.args.image.now) c.args.i)
  above-is = rw c.parent_of.ensures.0 at c.role_of-above.ensures

pub role_of-above-requires : goal.role_of-above-requires
role_of-above-requires c =
    let p = c.requires in
    rw c.parent_of.ensures.0 (record { index = (p.0.0, p.1.above); i_value = p.1.above-validated })

pub returns-then-ne : goal.returns-then-ne
unfolding list_shape
returns-then-ne c =
    let a = c.args in
    rw (← above-is (goal.at.returns-then-ne c).After-role_of-above, ne_eqb (role_number c.role_of-above.result) 6 (not_role _ v.FlowSolution (differs_true the_type _ _ (sym c.if-ne.ensures)))) (sym (and-false (typed (tree_of a.image.now) a.i (I4 ∷ I8 ∷ []))))

pub returns-then-read-ne2 : goal.returns-then-read-ne2
unfolding list_shape shaped
returns-then-read-ne2 c =
    let a = c.args in
    let t = tree_of a.image.now in
    let e : c.read.result.rank ≡ (node t a.i).rank = ap (λ r. r.rank) c.read.ensures in
    let n : shaped t a.i (index_dimension t (zone_above t a.i) ∷ list_count t a.i ∷ []) ≡ false =
    same_not (dimensions t a.i) _ (λ f. c.if-read-ne2.true (e ∙ sym (rank_is t a.i) ∙ f)) in
    rw (n, and-false (eqb (role t (parent t a.i)) 6)) (sym (and-false (typed t a.i (I4 ∷ I8 ∷ []))))

-- two dimensions
module _ (c : Else-read-ne2) where
  two : (node (tree_of c.args.image.now) c.args.i).rank ≡ 2
  two = sym (ap (λ r. r.rank) c.read.ensures) ∙ c.if-read-ne2.false

pub dimension-count-requires : goal.dimension-count-requires
dimension-count-requires c =
    let p = node-placed c.args.image.now c.requires.0.0.sound.table c.args.i c.requires.0.1 in
    record { laid = (c.requires.0.0.sound.laid, c.requires.0.1); k_bound = (rw (two c) (omega arith), p.words_in) }

pub dimension_above-requires : goal.dimension_above-requires
dimension_above-requires c =
    let k = (goal.at.dimension_above-requires c).After-role_of-above in
    let p = k.requires in
    ((p.0.0, p.1.above), (p.0.1, p.1.flow (sym (above-is k) ∙ ap role_number (differs_false the_type (search rules) _ v.FlowSolution (sym c.if-ne.ensures)))))

pub returns : goal.returns
unfolding list_shape list_count
returns c =
    let d = (goal.at.returns c).After-dimension-count in
    let k = (goal.at.returns c).After-role_of-above in
    rw (sym (above-is k) ∙ ap role_number (differs_false the_type (search rules) _ v.FlowSolution (sym d.if-ne.ensures)))
    (rw (c.dimension_above.ensures.0, d.dimension-count.ensures) at c.whole_shaped.ensures)
