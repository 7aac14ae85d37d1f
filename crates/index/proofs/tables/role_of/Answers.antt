-- The kind of a validated node is its role.
use mathlib.Core.Path.{refl, sym, ap, ◌∙◌}
use lib.Dec.{ltb}
use Rattle.labels.specs.Roles.{kind_number}
use Rattle.labels.proofs.Numbers.{some_kind}
use Rattle.index.proofs.Marking.{kind-role, kind-validated}
use Rattle.index.proofs.tables.role_of.Goals as goal

pub unwrap-requires : goal.unwrap-requires
unwrap-requires c =
    let p = c.requires in
    some_kind c.kind_of.result ∙ ap (ltb 0) c.kind_of.ensures ∙ kind-validated _ p.index.0.sound _ p.index.1 ∙ p.i_value

pub returns : goal.returns
returns c = ap kind_number (sym c.unwrap.ensures) ∙ c.kind_of.ensures ∙ kind-role _ _ c.requires.i_value refl
