-- The root passes; below it the roles decide 20 and 21.
use Prim.Native.Nat.{ℕ}
use mathlib.Core.Path.{◌≡◌, refl, sym, ◌∙◌}
use mathlib.Core.Bool.{Bool, ◌&&◌}
use mathlib.Core.List.{List}
use borrow.Author.Tests.{ne_eqb}
use lib.Dec.{eqb}
use Rattle.model.specs.Lists.{◌⊃◌}
use Rattle.model.specs.Rules.{check, passed}
use Rattle.model.specs.Image.{Tree, tree_of, parent}
use Rattle.model.specs.Containment.{role, may_hold, Elements}
use Rattle.model.specs.Values.{unstructured, placed}
use Rattle.model.proofs.Staging.{broken, kept, no_rule}
use Rattle.model.proofs.Above.{validated-above}
use Rattle.labels.proofs.Nodes.{parent-inside}
use Rattle.labels.proofs.Grid.{named_root}
use Rattle.sids.specs.Groups.{place_rules}
use Rattle.sids.proofs.stages.place_stage.Goals as goal
use Rattle.sids.proofs.stages.place_stage.Goals.{After-parent_of-up, After-placed}

-- the root stands in its place, and has no fixed name
root-place : (b : List ℕ) (i : ℕ) → i ≡ 0 → passed ≡ check i (place_rules (tree_of b) i)
unfolding placed
root-place b i z = rw z (sym (kept 0 20 _ refl ∙ kept 0 21 _ (sym (named_root b 0 refl)) ∙ no_rule 0))

-- what the test of rule 20 tells
placed-is : (t : Tree) (i : ℕ) {up above below : ℕ} {r : Bool} → (i ≡ 0 → ⊥) → up ≡ parent t i → above ≡ role t up → below ≡ role t i
    → r ≡ (may_hold above below && (eqb below Elements ⊃ unstructured t up)) → placed t i ≡ r
unfolding placed
placed-is t i z e f g h = rw (ne_eqb i 0 z, ← e, ← f, ← g) (sym h)

module _ (c : After-placed) where
  place_is : placed (tree_of c.args.image.now) c.args.i ≡ c.placed.result
  place_is =
      placed-is _ _ c.if-i-eq0.false c.parent_of-up.ensures.0 c.role_of-above.ensures c.role_of-below.ensures
      c.placed.ensures

pub returns-then-i-eq0 : goal.returns-then-i-eq0
returns-then-i-eq0 c = root-place _ _ c.if-i-eq0.true

-- the parent is a validated node
pub role_of-above-requires : goal.role_of-above-requires
role_of-above-requires c =
    let b = c.args.image.now in
    let i = c.args.i in
    let e = c.parent_of-up.ensures.0 in
    let n = c.if-i-eq0.false in
    let s = c.requires.index.0.sound in
    record { index = (c.requires.index.0, parent-inside b i s c.requires.index.1 n e); i_value = rw e (validated-above b s i c.requires.index.1 n c.requires.i_value) }

pub placed-requires : goal.placed-requires
placed-requires c =
    let u = role_of-above-requires (goal.at.placed-requires c).After-parent_of-up in
    let r = c.role_of-above.ensures in
    record { index = u.index; up_value = (u.i_value, r) }

pub returns-then-not-placed : goal.returns-then-not-placed
returns-then-not-placed c = c.reject.ensures ∙ sym (broken _ 20 _ (place_is (goal.at.returns-then-not-placed c).After-placed ∙ c.if-not-placed.true))

pub named-requires : goal.named-requires
named-requires c =
    let r = c.role_of-above.ensures in
    let q = c.role_of-below.ensures in
    record { laid = (c.requires.index.0.sound.laid, c.requires.index.1); above_value = (rw (← c.parent_of-up.ensures.0) r, q) }

pub returns-then-not-named : goal.returns-then-not-named
returns-then-not-named c =
    let d = (goal.at.returns-then-not-named c).After-placed in
    c.reject-then-not-named.ensures ∙ sym (kept _ 20 _ (place_is d ∙ c.if-not-placed.false) ∙ broken _ 21 _
    (sym c.named.ensures ∙ c.if-not-named.true))

pub returns : goal.returns
returns c =
    let d = (goal.at.returns c).After-placed in
    let p = place_is d ∙ c.if-not-placed.false in
    let q = sym c.named.ensures ∙ c.if-not-named.false in
    sym (kept _ 20 _ p ∙ kept _ 21 _ q ∙ no_rule _)
