-- The data length is the product of the dimensions times the width.
use native.Mathlib.Omega.{arith}
use mathlib.Core.Path.{sym, ap, ◌∙◌}
use Rattle.words.proofs.Signed.{eight}
use Rattle.records.specs.declared.RecordNumbers.{RecordNumbers}
use Rattle.array_values.proofs.Laws.{array_size}
use Rattle.array_values.proofs.array_length.Goals as goal

pub returns-then-wide-eq4 : goal.returns-then-wide-eq4
returns-then-wide-eq4 c =
    let q = ap (λ (x : RecordNumbers). x.data_size) c.read-size.ensures in
    omega (arith, q, array_size _ c.requires.0.0 c.args.i c.requires.0.1 4 (sym c.if-wide-eq4.true ∙ c.requires.1.1))

pub returns-else-wide-eq4 : goal.returns-else-wide-eq4
returns-else-wide-eq4 c =
    let q = ap (λ (x : RecordNumbers). x.data_size) c.read-size.ensures in
    omega (arith, q, array_size _ c.requires.0.0 c.args.i c.requires.0.1 8 (sym (eight _ c.requires.1.0 c.if-wide-eq4.false) ∙ c.requires.1.1))
