-- Where it does not hold the entry, the next one does.
use native.Mathlib.Omega.{arith}
use Rattle.agreement.proofs.CellLaws.{next-inside, next_cell}
use Rattle.agreement.proofs.cells.cell_at.Goals as goal

pub returns-then-k-cell : goal.returns-then-k-cell
returns-then-k-cell c = (c.requires.at_most, c.if-k-cell.true)

pub number_at-requires : goal.number_at-requires
number_at-requires c =
    (c.requires.numbers.0, next-inside c.requires.numbers.1.0 c.requires.numbers.1.1 c.requires.at_most (omega (arith, c.if-k-cell.false)))

pub returns : goal.returns
returns c =
    next_cell c.requires.numbers.1.0 c.requires.numbers.1.1 c.requires.at_most (omega (arith, c.if-k-cell.false)) c.number_at.ensures
