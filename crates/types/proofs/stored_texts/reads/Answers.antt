-- The data bytes against the text.
use native.Mathlib.Omega.{arith}
use mathlib.Core.Path.{◌≡◌, ap}
use Rattle.model.specs.Image.{tree_of, node}
use Rattle.model.specs.Values.{reads}
use Rattle.types.proofs.StoredNumbers.{stored_is}
use Rattle.types.proofs.stored_texts.reads.Goals as goal

pub same_at-requires : goal.same_at-requires
same_at-requires c =
    let a = c.args in
    let e : c.read.result.data_size ≡ (node (tree_of a.image.now) a.i).data_size = ap (λ r. r.data_size) c.read.ensures in
    omega arith

pub returns : goal.returns
unfolding reads
returns c =
    rw (stored_is _ _)
    (rw (c.data_start.ensures.0, ap (λ r. r.data_size) c.read.ensures) at c.same_at.ensures)
