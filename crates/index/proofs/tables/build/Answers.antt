-- The rows of the nodes before j are there.
use Rattle.index.proofs.Marking.{no_rows, begin_row, root_row, kind_root}
use native.Mathlib.Omega.{arith}
use Rattle.index.proofs.tables.build.Goals as goal

pub loop-j-init : goal.loop-j-init
loop-j-init c =
    let p = c.requires in
    let s = p.0.laid.some in
    let f = p.0.laid.few in
    let r = begin_row p.0 (no_rows _ c.args.index.now (omega (arith, p.1))) c.begin_row.ensures s (kind_root _) (omega arith) in
    root_row p.0 s r
