-- A missing node has no data.
use native.Mathlib.Omega.{arith}
use mathlib.Core.Path.{sym}
use Rattle.model.specs.Image.{node_count}
use Rattle.types.proofs.Missing.{reads_past}
use Rattle.types.proofs.stored_texts.reads_if_found.Goals as goal

pub returns-in-None : goal.returns-in-None
returns-in-None c =
    let a = c.args in
    rw c.in-None.is (sym (reads_past a.image.now (node_count a.image.now) (omega arith) a.text.now))
