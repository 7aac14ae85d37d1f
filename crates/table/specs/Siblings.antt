-- What is known of names when the check comes to a node.
use Rattle.std.specs.Prelude.{ℕ, ◌≡◌, false, List, eqb, Some, None}
use Rattle.model.specs.Lists.{seek_from}
use Rattle.model.specs.Found.{if_below}
use Rattle.model.specs.Records.{name_taken}
use Rattle.records.specs.Table.{all_records}
use Rattle.texts.specs.Keys.{Seen}
use Rattle.table.specs.declared.siblings.Known.{Known}
use Rattle.table.specs.declared.siblings.Known.TheVariants.{ByKeys, InOrder}

-- the keys of the nodes before i are marked; or the names of n nodes are in order, and the first with the name of an earlier sibling is known
abbrev pub Names : List ℕ → ℕ → ℕ → Known → List ℕ → Type 0
Names s n i (ByKeys left) seen = Seen (all_records s) i seen
Names s n i (InOrder first) seen = first ≡ if_below n (seek_from (name_taken (all_records s)) n 0)

-- the same at node i, where rule 11 holds before it
abbrev pub NamesAt : List ℕ → ℕ → Known → List ℕ → Type 0
NamesAt s i (ByKeys left) seen = Seen (all_records s) i seen
NamesAt s i (InOrder (Some first)) seen = name_taken (all_records s) i ≡ eqb i first
NamesAt s i (InOrder None) seen = name_taken (all_records s) i ≡ false
