-- The kind of a validated node is its role.
use Prim.Native.Nat.{ℕ}
use mathlib.Core.Path.{refl, ap, ◌∙◌}
use lib.Dec.{eqb}
use Rattle.labels.specs.Roles.{role_number}
use Rattle.labels.proofs.Numbers.{role_few, same_kind}
use Rattle.index.proofs.Marking.{kind_as}
use Rattle.index.proofs.tables.validated_as.Goals as goal

pub returns : goal.returns
returns c =
    let a = c.args in
    let p = c.requires in
    let n = role_number a.role in
    c.eq.ensures ∙ same_kind (λ r s. refl) c.kind_of.result a.role ∙ ap (λ (x : ℕ). eqb x n) c.kind_of.ensures ∙ kind_as _ p.0.sound a.i n p.1 (role_few a.role).0
