-- The room after the offset, divided by the width, is compared with the count.
use Prim.Native.Nat.{◌+◌, ◌*◌}
use mathlib.Core.Bool.{and-false}
use native.Mathlib.Omega.{arith}
use borrow.Author.Tests.{ne_eqb, lt-leb}
use lib.ListN.{length}
use Rattle.model.specs.Corner.{inside, width_lawful}
use Rattle.rows.proofs.Rows.{inside_by_room}
use Rattle.rows.proofs.inside.Goals as goal

pub returns-then-length-at : goal.returns-then-length-at
unfolding inside
returns-then-length-at c = let a = c.args in rw (lt-leb (a.at + a.width * a.count) (length a.image.now) (omega arith), and-false)

pub returns-then-width-eq4 : goal.returns-then-width-eq4
returns-then-width-eq4 c = rw c.if-width-eq4.true (inside_by_room _ _ 4 _ tt c.if-length-at.false)

pub returns-then-width-eq8 : goal.returns-then-width-eq8
returns-then-width-eq8 c = rw c.if-width-eq8.true (inside_by_room _ _ 8 _ tt c.if-length-at.false)

pub returns : goal.returns
unfolding inside width_lawful
returns c = simp (ne_eqb _ 4 c.if-width-eq4.false, ne_eqb _ 8 c.if-width-eq8.false)
