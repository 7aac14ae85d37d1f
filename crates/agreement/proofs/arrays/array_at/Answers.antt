-- The row that is at hand, or the one that the node's numbers make.
use mathlib.Core.Path.{◌≡◌, sym, ◌∙◌}
use lib.ListN.{get_or}
use Rattle.model.specs.Found.{if_below}
use Rattle.model.specs.Image.{node_count}
use Rattle.types.proofs.Missing.{there}
use Rattle.agreement.proofs.ArrayLaws.{read_back, read_as}
use Rattle.agreement.proofs.arrays.array_at.Goals as goal
use Rattle.agreement.proofs.arrays.array_at.Goals.{After-then_some}

pub returns-then-j-last : goal.returns-then-j-last
returns-then-j-last c = c.requires.stores_columns.1 c.if-j-last.true

-- the node, where there is one
is-node : (c : After-then_some) → c.then_some.result ≡ if_below (node_count c.args.image.now) (get_or c.args.arrays.now c.args.j 0)
is-node c = c.then_some.ensures ∙ rw c.node_count.ensures.0 (read_back _ _)

pub parents_row-requires : goal.parents_row-requires
parents_row-requires c =
    record {
      sound = c.requires.sound.0.0;
      columns = λ a q. let l = there (sym q ∙ is-node (goal.at.parents_row-requires c).After-then_some) in rw l.0 (c.requires.stores_columns.0 (rw (← l.0) l.1));
    }

pub returns : goal.returns
returns c = rw (read_as _ _ _ c.requires.sound.1 (is-node (goal.at.returns c).After-then_some)) at c.parents_row.ensures
