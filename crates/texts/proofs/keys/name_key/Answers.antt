-- The words of the name, and the parent by its factor.
use Rattle.texts.specs.Keys.{key_at, name_key}
use Rattle.texts.proofs.Laws.{name_in}
use Rattle.texts.proofs.keys.name_key.Goals as goal

pub returns : goal.returns
unfolding key_at name_key
returns c =
    rw (c.text_sum-sum.ensures.0, c.parent_of-up.ensures.0, name_in c.args.table.now c.args.i c.requires.0)
