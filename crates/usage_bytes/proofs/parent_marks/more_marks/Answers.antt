-- The first parent where it can be matched, else the second.
use Prim.Native.Nat.{◌/◌, ◌%◌}
use mathlib.Core.Path.{sym, ◌∙◌}
use native.Mathlib.Omega.{arith}
use borrow.Author.Tests.{eqb-true}
use Rattle.model.proofs.Logic.{and_second}
use Rattle.usage_bytes.specs.ParentMarks.{matched}
use Rattle.usage_bytes.proofs.parent_marks.more_marks.Goals as goal

pub returns-then-takes : goal.returns-then-takes
unfolding matched
returns-then-takes c =
    let e = sym c.takes.ensures ∙ c.if-takes.true in
    let q = eqb-true (c.args.marks % 2) 0 (and_second c.args.first _ e) in
    (rw e, omega (arith, c.requires))

pub returns-then-takes-2 : goal.returns-then-takes-2
unfolding matched
returns-then-takes-2 c =
    let e = sym c.takes-2.ensures ∙ c.if-takes-2.true in
    let q = eqb-true (c.args.marks / 2 % 2) 0 (and_second c.args.second _ e) in
    (rw (sym c.takes.ensures ∙ c.if-takes.false, e), omega (arith, c.requires))

pub returns : goal.returns
unfolding matched
returns c =
    (rw (sym c.takes.ensures ∙ c.if-takes.false, sym c.takes-2.ensures ∙ c.if-takes-2.false), omega (arith, c.requires))

pub takes-requires : goal.takes-requires
takes-requires c = tt

pub takes-requires-2 : goal.takes-requires-2
takes-requires-2 c = tt
