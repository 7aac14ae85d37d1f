-- The slot tells the first child; 0 tells that there is none.
use Rattle.index.proofs.Marking.{slot_found, slot_empty}
use native.Mathlib.Omega.{arith}
use Rattle.index.proofs.tables.look_up.Goals as goal

pub returns-then-j-eq0 : goal.returns-then-j-eq0
returns-then-j-eq0 c =
    let p = c.requires in
    slot_empty p.0 c.args.p c.args.k p.1.0 p.1.1 c.if-j-eq0.true

pub returns : goal.returns
returns c =
    let p = c.requires in
    slot_found p.0 c.args.p c.args.k p.1.0 p.1.1 c.if-j-eq0.false

pub bounds-index-p : goal.bounds-index-p
bounds-index-p c = let p = c.requires in omega (arith, p.0.rows.long, p.1)
