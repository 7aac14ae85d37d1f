-- One place is written, with what the mark leaves of it.
use Rattle.texts.specs.Keys.{with_key}
use Rattle.texts.proofs.keys.add_key.Goals as goal

pub returns : goal.returns
unfolding with_key
returns c = rw c.joined.ensures
