-- The dimensions from k on, and the product before them, decide.
use mathlib.Core.Path.{◌≡◌}
use lib.ListN.{drop}
use Rattle.records.specs.Table.{records_of}
use Rattle.model.specs.Image.{dimensions}
use Rattle.model.specs.Records.{data_size_lawful}
use Rattle.table.proofs.Laws.{sized}
use Rattle.table.proofs.sizes.data_size_lawful.Given as goal

abbrev pub invariant-loop-k : goal.invariant-loop-k
invariant-loop-k l = sized l.m l.size (drop l.k (dimensions (records_of l.table l.count) l.i)) ≡ data_size_lawful (records_of l.table l.count) l.i
