-- The role decides, then the name.
use mathlib.Core.Path.{refl, ap, sym, ◌∙◌}
use native.Mathlib.Omega.{arith}
use borrow.Author.Rules.{rules}
use denote.Enum.Bare.{same_true, same_false}
use Rattle.labels.specs.Roles.{role_number}
use Rattle.labels.specs.contracts.roles.Role.{the_type}
use Rattle.labels.proofs.Numbers.{role_few, one_role}
use Rattle.index.specs.Keys.{key_roles}
use Rattle.index.proofs.Keyed.{key-off, key-on}
use Rattle.index.proofs.keys.is_key.Goals as goal

pub returns-in_default : goal.returns-in_default
unfolding key_roles
returns-in_default c =
    let f = role_few c.args.below in
    key-off _ _ _ _ {r = 16} (sym c.in_default.ensures) refl c.requires.below_value (λ q. absurd (omega arith))

pub returns-in_default-key_role : goal.returns-in_default-key_role
returns-in_default-key_role c =
    let f = role_few c.args.below in
    key-off _ _ _ _ (sym c.in-Some.ensures) (sym c.in_default-key_role.ensures) c.requires.below_value (λ q. absurd (omega arith))

pub returns-then-eq : goal.returns-then-eq
returns-then-eq c =
    key-on _ _ _ _ (sym c.in-Some.ensures) (sym c.in-Some-key_role.ensures) c.requires.below_value
    (ap role_number (same_true the_type (search rules) _ _ (sym c.if-eq.ensures))) c.name_is.ensures

pub returns-else-eq : goal.returns-else-eq
returns-else-eq c =
    c.if-eq.false
    ∙ key-off _ _ _ _ (sym c.in-Some.ensures) (sym c.in-Some-key_role.ensures) c.requires.below_value
    (λ q. same_false the_type _ _ (sym c.if-eq.ensures) (one_role _ _ q))
