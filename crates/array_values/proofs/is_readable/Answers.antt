-- One data type after the other.
use mathlib.Core.Path.{sym}
use lib.Dec.{eqb}
use borrow.Author.Tests.{eq-eqb, ne_eqb}
use Rattle.model.specs.Lists.{among}
use Rattle.model.proofs.Logic.{or-false}
use Rattle.array_values.proofs.is_readable.Goals as goal

pub returns-then-data_type-eq-I4 : goal.returns-then-data_type-eq-I4
unfolding among
returns-then-data_type-eq-I4 c = simp (eq-eqb _ 4 c.if-data_type-eq-I4.true)

pub returns-then-data_type-eq-I8 : goal.returns-then-data_type-eq-I8
unfolding among
returns-then-data_type-eq-I8 c = simp (ne_eqb _ 4 c.if-data_type-eq-I4.false, eq-eqb _ 7 c.if-data_type-eq-I8.true)

pub returns-then-data_type-eq-R4 : goal.returns-then-data_type-eq-R4
unfolding among
returns-then-data_type-eq-R4 c = simp (ne_eqb _ 4 c.if-data_type-eq-I4.false, ne_eqb _ 7 c.if-data_type-eq-I8.false, eq-eqb _ 6 c.if-data_type-eq-R4.true)

pub returns : goal.returns
unfolding among
returns c =
    let d = c.args.data_type in
    rw (ne_eqb d 4 c.if-data_type-eq-I4.false, ne_eqb d 7 c.if-data_type-eq-I8.false, ne_eqb d 6 c.if-data_type-eq-R4.false) (sym (or-false (eqb d 9)))
