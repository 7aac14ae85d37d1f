-- The entries that begin later have moved up by one, and the place is before them.
use Rattle.ranges.proofs.Inserting.{inserted}
use Rattle.std.proofs.Common.{◌∙◌, arith}
use Rattle.ranges.proofs.Moving.{placed-rises}
use Rattle.ranges.proofs.insert.Goals as goal

pub begun-place-requires : goal.begun-place-requires
begun-place-requires c = (c.requires.ordered.firsts_rise, c.requires.n_in_bounds.2)

pub raise-requires : goal.raise-requires
raise-requires c =
    let q = c.put-2 in (
      omega (arith, q.auto.table),
      placed-rises q.ensures
          c.requires.ordered.reach_rises,
    )

pub returns : goal.returns
returns c =
    inserted _ c.requires.ordered c.begun-place.ensures c.put.ensures c.raised-here.ensures c.put-2.ensures c.raise.ensures c.requires.n_in_bounds.2
    (omega (arith, c.put.auto.table)) (omega (arith, c.raise.auto.table, c.put-2.auto.table))

pub shape_of-firsts : goal.shape_of-firsts
shape_of-firsts c = c.put.auto.table

pub shape_of-reach : goal.shape_of-reach
shape_of-reach c = c.raise.auto.table ∙ c.put-2.auto.table
