-- The name is a text without a slash.
use Rattle.model.specs.Records.{name_lawful}
use Rattle.texts.proofs.Laws.{name_in}
use Rattle.texts.proofs.name_lawful.Goals as goal

pub returns : goal.returns
unfolding name_lawful
returns c = rw (name_in c.args.table.now c.args.i c.requires.0) at c.is_text.ensures
