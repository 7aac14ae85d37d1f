-- The node's role, then its parent's.
use mathlib.Core.Path.{◌≡◌, refl, sym, ap, ◌∙◌}
use mathlib.Core.Bool.{false, ◌||◌, or-false}
use lib.Dec.{eqb}
use borrow.Author.Tests.{eq-eqb, ne_eqb}
use Rattle.model.specs.Lists.{among}
use Rattle.model.specs.Values.{sized_array}
use Rattle.model.specs.Image.{tree_of}
use Rattle.model.proofs.Sections.{not_root}
use Rattle.model.proofs.Above.{validated-above}
use Rattle.types.proofs.Roles.{held-inside}
use Rattle.labels.specs.Roles.{role_number}
use Rattle.labels.specs.declared.roles.Role.TheVariants as v
use Rattle.labels.proofs.Numbers.{not_role, same_role}
use Rattle.labels.specs.contracts.roles.Role.{the_type}
use denote.Enum.Bare.{same_true, same_false, differs_true, differs_false}
use borrow.Author.Rules.{rules}
use Rattle.sids.proofs.stages.sized_array.Goals as goal
use Rattle.sids.proofs.stages.sized_array.Goals.{After-role_of-above}

pub returns-then-ne : goal.returns-then-ne
unfolding sized_array
returns-then-ne c = rw (← c.role_of.ensures, ne_eqb _ 11 (not_role _ v.DataArray (differs_true the_type _ _ (sym c.if-ne.ensures))))

pub role_of-above-requires : goal.role_of-above-requires
role_of-above-requires c =
    let b = c.args.image.now in
    let i = c.args.i in
    let r = sym c.role_of.ensures ∙ ap role_number (differs_false the_type (search rules) _ v.DataArray (sym c.if-ne.ensures)) in
    let v = validated-above b c.requires.index.0.sound i c.requires.index.1 (not_root (tree_of b) i 11 r refl) c.requires.i_value in
    rw c.parent_of.ensures.0 (record { index = (c.requires.index.0, held-inside b c.requires.index.0.sound i c.requires.index.1 11 r refl); i_value = v })

-- both roles are known
module _ (c : After-role_of-above) where
  by_parent : sized_array (tree_of c.args.image.now) c.args.i ≡ (eqb (role_number c.role_of-above.result) 5 || (eqb (role_number c.role_of-above.result) 6 || false))
  unfolding sized_array among
  by_parent =
      let r = c.role_of.ensures in
      let e = differs_false the_type (search rules) _ v.DataArray (sym c.if-ne.ensures) in
      rw (← r, eq-eqb _ 11 (ap role_number e), ← c.parent_of.ensures.0, ← c.role_of-above.ensures)

pub returns-then-eq : goal.returns-then-eq
returns-then-eq c =
    rw (by_parent (goal.at.returns-then-eq c).After-role_of-above, eq-eqb _ 5 (ap role_number (same_true the_type (search rules) _ v.GridCoordinates (sym c.if-eq.ensures))))
    c.if-eq.true

pub returns-else-eq : goal.returns-else-eq
returns-else-eq c =
    rw (by_parent (goal.at.returns-else-eq c).After-role_of-above, or-false _, ne_eqb _ 5 (not_role _ v.GridCoordinates (same_false the_type _ _ (sym c.if-eq.ensures))))
    (c.eq-else-eq.ensures ∙ same_role c.role_of-above.result v.FlowSolution)
