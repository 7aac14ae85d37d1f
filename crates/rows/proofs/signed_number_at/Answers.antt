-- The signed number of the width at number k's place, which lies inside the bytes.
use borrow.Author.Rules.{sfits_of}
use mir.Syntax.{w64}
use mir.Facts.{to_z-of_z}
use Rattle.model.specs.Corner.{number_at}
use Rattle.rows.proofs.signed_number_at.Goals as goal
use Rattle.rows.proofs.signed_number_at.Goals.{After-shared_slice_known-1}

pub returns : goal.returns
unfolding number_at
returns c = rw (to_z-of_z (sfits_of {w = w64} {z = c.signed_at.result} c.signed_at.type_inv)) c.signed_at.ensures
