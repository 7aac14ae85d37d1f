-- The kind of a validated node is not 0.
use mathlib.Core.Path.{ap, ◌∙◌}
use lib.Dec.{ltb}
use Rattle.labels.proofs.Numbers.{some_kind}
use Rattle.index.proofs.Marking.{kind-validated}
use Rattle.index.proofs.tables.is_validated.Goals as goal

pub returns : goal.returns
returns c =
    let p = c.requires in
    c.is_some.ensures ∙ some_kind c.kind_of.result ∙ ap (ltb 0) c.kind_of.ensures ∙ kind-validated _ p.0.sound _ p.1
