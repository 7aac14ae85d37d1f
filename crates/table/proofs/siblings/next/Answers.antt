-- In order already, put in order, or one node more that is marked and linked.
use native.Mathlib.Omega.{arith}
use Rattle.records.specs.Table.{all_records}
use Rattle.texts.specs.Keys.{Seen}
use Rattle.texts.proofs.Marks.{key_fits, seen_on}
use Rattle.table.proofs.siblings.next.Goals as goal
use Rattle.table.proofs.siblings.next.Goals.{In-ByKeys}

-- the keys of the nodes before i are marked
marked : (g : In-ByKeys) → let a = g.args in Seen (all_records a.table.now) a.i a.seen.now
marked g = rw g.in-ByKeys.is at g.requires.i_lt_count.1.1

pub search_length-steps-requires : goal.search_length-steps-requires
search_length-steps-requires c = (c.requires.count_bound.1, key_fits (marked c) c.requires.i_lt_count.1.0)

pub add_node-requires : goal.add_node-requires
add_node-requires c =
    ((c.requires.count_bound.1, omega (arith, c.requires.count_bound, c.requires.i_lt_count.0)), key_fits (marked (goal.at.add_node-requires c).In-ByKeys) c.requires.i_lt_count.1.0)

pub returns : goal.returns
returns c =
    rw c.add_node.ensures (seen_on (marked (goal.at.returns c).In-ByKeys) c.requires.i_lt_count.1.0 (omega (arith, c.requires.count_bound, c.requires.i_lt_count.0)))
