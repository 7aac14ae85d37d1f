-- What is known of two runs of nodes: they lie in one half of the table, and what they give in one half.
use Rattle.std.specs.Prelude.{◌≤◌}
use Rattle.name_order.specs.declared.sort.Runs.{Runs}

pub record InHalves (r : Runs) : Type 0 where
  pub from : r.from ≤ 4096
  pub to : r.to ≤ 4096
  pub mid : r.mid ≤ 4096
  pub end : r.end ≤ 4096
