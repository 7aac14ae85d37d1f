-- The slot of the parent tells it.
use mathlib.Core.Path.{◌≡◌, sym, ap, ◌∙◌}
use Prim.Native.Nat.{ℕ}
use borrow.Author.Tests.{eq-eqb, ne_eqb}
use Rattle.model.specs.Lists.{row}
use Rattle.model.specs.Bytes.{text}
use Rattle.model.specs.Image.{tree_of}
use Rattle.labels.proofs.Nodes.{parent-inside}
use Rattle.types.proofs.Missing.{is_that}
use Rattle.sids.specs.Groups.{required_under, is_required}
use Rattle.labels.specs.Roles.{role_number, kind_number}
use Rattle.labels.specs.declared.roles.Role.TheVariants as v
use Rattle.labels.proofs.Numbers.{not_role}
use Rattle.sids.proofs.required.is_required.Goals as goal
use Rattle.sids.proofs.required.is_required.Goals.{After-kind_of, After-range}

pub returns-then-i-eq0 : goal.returns-then-i-eq0
unfolding is_required
returns-then-i-eq0 c = rw (eq-eqb _ 0 c.if-i-eq0.true)

pub kind_of-requires : goal.kind_of-requires
kind_of-requires c =
    (c.requires.0, parent-inside _ _ c.requires.0.sound c.requires.1 c.if-i-eq0.false c.parent_of-up.ensures.0)

-- the parent, and its kind
module _ (c : After-kind_of) where
  under : {k : ℕ} → kind_number c.kind_of.result ≡ k
      → is_required (tree_of c.args.image.now) c.args.i ≡ required_under (tree_of c.args.image.now) k c.args.i
  unfolding is_required
  under e = rw (ne_eqb _ 0 c.if-i-eq0.false, ← c.parent_of-up.ensures.0, sym c.kind_of.ensures ∙ e)

pub returns-in-Zone : goal.returns-in-Zone
unfolding row text
returns-in-Zone c =
    let k = (goal.at.returns-in-Zone c).After-kind_of in
    rw (under k (ap kind_number c.in-Some.is ∙ ap role_number c.in-Zone.is), ← k.parent_of-up.ensures.0) (c.eq.ensures ∙ is_that _ _ _ c.requires.1 c.zone_type.ensures)

pub returns-then-eq : goal.returns-then-eq
unfolding row text
returns-then-eq c =
    let r = (goal.at.returns-then-eq c).After-range in
    let k = (goal.at.returns-then-eq c).After-kind_of in
    rw (under k (ap kind_number r.in-Some.is ∙ ap role_number r.in-Elements.is), ← k.parent_of-up.ensures.0, sym (is_that _ _ _ c.requires.1 r.range.ensures) ∙ sym c.eq-in-Elements.ensures ∙ c.if-eq.true) c.if-eq.true

pub returns-else-eq : goal.returns-else-eq
unfolding row text
returns-else-eq c =
    let r = (goal.at.returns-else-eq c).After-range in
    let k = (goal.at.returns-else-eq c).After-kind_of in
    let u = k.parent_of-up.ensures.0 in
    rw (under k (ap kind_number r.in-Some.is ∙ ap role_number r.in-Elements.is), ← u, sym (is_that _ _ _ c.requires.1 r.range.ensures) ∙ sym c.eq-in-Elements.ensures ∙ c.if-eq.false) (c.eq-else-eq.ensures ∙ is_that _ _ _ c.requires.1 c.connectivity.ensures)

pub returns-in_default : goal.returns-in_default
unfolding row
returns-in_default c = rw (under (goal.at.returns-in_default c).After-kind_of (ap kind_number c.in_default.is))

pub returns-in_default-kind : goal.returns-in_default-kind
unfolding row
returns-in_default-kind c =
    let o = not_role c.in-Some.kind in
    let d = c.in_default-kind in
    rw (under (goal.at.returns-in_default-kind c).After-kind_of (ap kind_number c.in-Some.is), ne_eqb _ 3 (o v.Zone d.not-Zone), ne_eqb _ 7 (o v.Elements d.not-Elements))

pub zone_type-requires : goal.zone_type-requires
zone_type-requires c = record {
  index = (c.requires.0, parent-inside _ _ c.requires.0.sound c.requires.1 c.if-i-eq0.false c.parent_of-up.ensures.0);
  p_value = sym c.in-Some.ensures ∙ ap role_number c.in-Zone.is;
}

pub range-requires : goal.range-requires
range-requires c = record {
  index = (c.requires.0, parent-inside _ _ c.requires.0.sound c.requires.1 c.if-i-eq0.false c.parent_of-up.ensures.0);
  p_value = sym c.in-Some.ensures ∙ ap role_number c.in-Elements.is;
}

pub connectivity-requires : goal.connectivity-requires
connectivity-requires c = record {
  index = (c.requires.0, parent-inside _ _ c.requires.0.sound c.requires.1 c.if-i-eq0.false c.parent_of-up.ensures.0);
  p_value = sym c.in-Some.ensures ∙ ap role_number c.in-Elements.is;
}
