-- From sibling to sibling: what is left gives the sum.
use native.Mathlib.Omega.{arith}
use Prim.Native.Nat.{◌+◌, ◌-◌}
use lib.ListN.{get_or}
use Rattle.model.specs.Records.{sibling}
use Rattle.records.specs.Table.{all_records}
use Rattle.texts.specs.Links.{LastOf}
use Rattle.table.proofs.Pairs.{left_start, left-on, left_end}
use Rattle.table.proofs.names.bytes_with_earlier.Goals as goal
use Rattle.table.proofs.names.bytes_with_earlier.Goals.{In-loop-j}

pub loop-j-init : goal.loop-j-init
unfolding sibling
loop-j-init c = left_start _ _ (c.requires.linked.before c.args.i (omega arith))

pub name_difference-requires : goal.name_difference-requires
name_difference-requires c = let b = c.loop-j.invariant.below in ((omega arith, omega arith), (omega arith, omega arith))

pub overflow_add-sum : goal.overflow_add-sum
overflow_add-sum c = omega (arith, c.loop-j.invariant.few, c.name_difference.ensures.1)

-- the sibling before the one that is looked at
earlier : (l : In-loop-j) → let j = l.loop-j.j in LastOf (sibling (all_records l.args.table.now) (j - 1)) (j - 1) (get_or l.args.siblings.now (4096 + (j - 1)) 0)
unfolding sibling
earlier l =
    let j = l.loop-j.j in
    let b = l.loop-j.invariant.below in
    l.requires.linked.before (j - 1) (omega arith)

pub loop-j-smaller : goal.loop-j-smaller
loop-j-smaller c = omega (arith, (earlier (goal.at.loop-j-smaller c).In-loop-j).small)

pub loop-j-preserved : goal.loop-j-preserved
loop-j-preserved c =
    let n = c.name_difference.ensures in
    left-on _ _ c.loop-j.invariant (omega arith) n.0 n.1.1 (earlier (goal.at.loop-j-preserved c).In-loop-j)

pub returns : goal.returns
returns c = left_end _ _ c.loop-j.invariant (omega arith)

pub overflow_cast-j : goal.overflow_cast-j
overflow_cast-j c = omega (arith, (c.requires.linked.before c.args.i (omega arith)).small)

pub overflow_add-j-in-loop-j : goal.overflow_add-j-in-loop-j
overflow_add-j-in-loop-j c = omega (arith, c.loop-j.invariant.below)

pub bounds-siblings-j : goal.bounds-siblings-j
bounds-siblings-j c = omega (arith, c.loop-j.invariant.below)

pub overflow_cast-j-in-loop-j : goal.overflow_cast-j-in-loop-j
overflow_cast-j-in-loop-j c = omega (arith, (earlier (goal.at.overflow_cast-j-in-loop-j c).In-loop-j).small)
