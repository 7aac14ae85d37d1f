-- Each node counts as one or as none; the nodes that are not validated are skipped.
use native.Mathlib.Omega.{arith}
use Prim.Native.Nat.{ℕ, ◌<◌}
use mathlib.Core.Path.{◌≡◌, refl, ap, ◌∙◌}
use lib.Dec.{eqb, ltb}
use Rattle.model.specs.Image.{tree_of, node_count}
use Rattle.model.specs.Containment.{validated_as, Zone, Elements}
use Rattle.index.proofs.Marking.{kind-validated, kind_as}
use Rattle.labels.specs.Roles.{kind_number}
use Rattle.labels.specs.declared.roles.Role.TheVariants as v
use Rattle.labels.proofs.Numbers.{some_kind, same_kind}
use Rattle.validation.proofs.Laws.{none_counted, more_counted, all_counted, counts_are}
use Rattle.validation.proofs.counted.Goals as goal

pub loop-i-init : goal.loop-i-init
loop-i-init c = (none_counted _ _, (none_counted _ _, none_counted _ _))

pub loop-i-preserved : goal.loop-i-preserved
loop-i-preserved c =
    let b = c.args.image.now in
    let i = c.loop-i.i in
    let h : i < node_count b = omega arith in
    let o = c.kind_of-kind.result in
    let e = c.kind_of-kind.ensures in
    let of : (r : ℕ) → 0 < r → eqb (kind_number o) r ≡ validated_as (tree_of b) r i = λ r z. ap (λ (x : ℕ). eqb x r) e ∙ kind_as b
    c.requires.sound i r h z in (
      more_counted c.loop-i.invariant.0 _ (omega arith) (c.is_some.ensures ∙ some_kind o ∙ ap (ltb 0) e ∙ kind-validated b c.requires.sound i h) c.from-validated.ensures,
      (
        more_counted c.loop-i.invariant.1.0 _ (omega arith) (c.eq.ensures ∙ same_kind (λ r s. refl) o v.Zone ∙ of Zone (omega arith)) c.from-zones.ensures,
        more_counted c.loop-i.invariant.1.1 _ (omega arith) (c.eq-in-loop-i.ensures ∙ same_kind (λ r s. refl) o v.Elements ∙ of Elements (omega arith))
            c.from-sections.ensures,
      ),
    )

pub returns : goal.returns
unfolding tree_of
returns c =
    let n = c.node_count-n.ensures.0 in
    let v = (all_counted c.loop-i.invariant.0 (omega arith)).0 in
    counts_are _ c.node_count-n.result _ _ _ _ n v refl (all_counted c.loop-i.invariant.1.0 (omega arith)).0
    (all_counted c.loop-i.invariant.1.1 (omega arith)).0
