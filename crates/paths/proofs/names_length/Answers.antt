-- Upward, one name with its slash at each turn; the node number falls.
use native.Mathlib.Omega.{arith}
use Rattle.paths.proofs.Laws.{sized, lower, longer, root}
use Rattle.paths.proofs.names_length.Goals as goal

pub loop-j-smaller : goal.loop-j-smaller
loop-j-smaller c =
    lower c.args.image.now c.requires.0 c.loop-j.j c.parent_of-j.result (omega arith) c.parent_of-j.ensures.0 c.loop-j-test.true

pub loop-j-preserved : goal.loop-j-preserved
loop-j-preserved c =
    let n = c.name_length.result in
    let z = sized c.args.image.now c.loop-j.j n c.name_length.ensures.0 (omega arith) in
    let l = longer c.args.image.now c.requires.0 c.loop-j.j c.parent_of-j.result (omega arith) c.parent_of-j.ensures.0
    c.loop-j-test.true in
    (omega (arith, loop-j-smaller c), omega (arith, z, l))

pub returns : goal.returns
returns c = let a = c.args in omega (arith, (root a.image.now c.loop-j.j a.image.now (omega arith)).0)
