-- An allowed 0, or the interval decides.
use Rattle.std.proofs.Common.{inl, inr}
use borrow.Author.Tests.{ne_eqb}
use Rattle.parents.specs.Parents.{is_known}
use Rattle.parents.proofs.columns.is_known.Goals as goal
use Rattle.parents.proofs.columns.is_known.Goals.{then-none, else-none}

pub returns-then-x-eq0 : goal.returns-then-x-eq0
unfolding is_known
returns-then-x-eq0 c =
    elim c.if-none.branch [
      | then-none w ↦ rw (w.t-5-is, c.if-x-eq0.true.0, c.if-x-eq0.true.1)
      | else-none w ↦ let e = c.if-x-eq0.true.0 in let f = w.if-none.false in cc
    ]

pub returns-else-x-eq0 : goal.returns-else-x-eq0
unfolding is_known
returns-else-x-eq0 c =
    elim c.if-x-eq0.either [
      | inl w ↦ rw (w.0, ne_eqb _ 0 w.1) c.within.ensures
      | inr w ↦ rw w c.within.ensures
    ]
