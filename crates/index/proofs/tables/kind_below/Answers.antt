-- Below no validated node, and below a UserDefinedData_t, nothing is validated.
use mathlib.Core.Path.{refl}
use native.Mathlib.Omega.{arith}
use Rattle.labels.specs.Roles.{role_number, kind_number}
use Rattle.labels.specs.declared.roles.Role.TheVariants as v
use Rattle.labels.proofs.Numbers.{role_few, not_role}
use Rattle.index.proofs.Marking.{no_kind, foreign_kind, own-kind}
use Rattle.index.proofs.tables.kind_below.Goals as goal

pub returns-in_err-above : goal.returns-in_err-above
returns-in_err-above c = rw (c.from_residual.ensures, c.in_err-above.was) (no_kind 0 (kind_number c.args.role) refl)

pub returns-in-UserDefinedData : goal.returns-in-UserDefinedData
returns-in-UserDefinedData c = rw (c.in_ok-above.was, c.in-UserDefinedData.is) (foreign_kind _ (kind_number c.args.role) refl)

pub returns-in_default : goal.returns-in_default
returns-in_default c =
    let f = role_few c.in_ok-above.field-0 in
    rw c.in_ok-above.was
    (own-kind (role_number c.in_ok-above.field-0) (kind_number c.args.role) (λ e. absurd (omega arith))
    (not_role c.in_ok-above.field-0 v.UserDefinedData c.in_default.not-UserDefinedData))
