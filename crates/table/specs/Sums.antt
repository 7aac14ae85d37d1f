-- The running sums that are handed from node to node.
use Rattle.std.specs.Prelude.{ℕ, ◌≤◌, ◌≡◌, List}
use Rattle.model.specs.Records.{words_before, bytes_before}
use Rattle.records.specs.declared.TableSize.{TableSize}
use Rattle.records.specs.Table.{table_tree}

-- dimension words and data bytes of the nodes before i
pub record Sums (s : List ℕ) (size : TableSize) (i words bytes : ℕ) : Type 0 where
  pub words_are : words ≡ words_before (table_tree s size) i
  pub words_in : words ≤ size.words
  pub bytes_are : bytes ≡ bytes_before (table_tree s size) i
  pub bytes_in : bytes ≤ size.bytes
