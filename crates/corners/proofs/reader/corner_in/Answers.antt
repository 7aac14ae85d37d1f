-- The span tells the element's size, and its connectivity lies inside the image.
use native.Mathlib.Omega.{arith}
use mathlib.Core.Path.{ap}
use borrow.Author.Rules.{sfits_of}
use borrow.Author.Tests.{le-leb, lt-leb}
use mir.Syntax.{w64}
use mir.Facts.{to_z-of_z}
use Rattle.model.specs.Rules.{answer, check, ◌then◌, ◌gives◌}
use Rattle.corners.specs.Spans.{corner_in}
use Rattle.rows.proofs.Rows.{inside-numbers}
use Rattle.corners.proofs.reader.corner_in.Goals as goal
use Rattle.corners.proofs.reader.corner_in.Goals.{then-corner-lt1-via-then-corner-lt1, then-corner-lt1-via-else-corner-lt1+then-span-corner}

pub returns-then-corner-lt1 : goal.returns-then-corner-lt1
unfolding corner_in check ◌gives◌ ◌then◌
returns-then-corner-lt1 c =
    rw c.at.ensures
    elim c.then-corner-lt1.branch [
      | then-corner-lt1-via-then-corner-lt1 w ↦ simp (lt-leb _ _ w.if-corner-lt1.true)
      | then-corner-lt1-via-else-corner-lt1+then-span-corner w ↦ simp (le-leb _ _ w.if-corner-lt1.false, lt-leb _ _ w.if-span-corner.true)
    ]

pub signed_number_at-requires : goal.signed_number_at-requires
signed_number_at-requires c = rw c.connectivity_of.ensures (inside-numbers _ _ _ _ c.requires.2, omega (arith, c.requires))

pub returns : goal.returns
unfolding corner_in check ◌gives◌ ◌then◌
returns c =
    rw (
      to_z-of_z (sfits_of {w = w64} {z = c.signed_number_at.result} c.signed_number_at.type_inv),
      le-leb _ _ c.if-corner-lt1.false,
      le-leb _ _ c.if-span-corner.false,
    )
    (ap answer (rw c.connectivity_of.ensures at c.signed_number_at.ensures))
