-- The names are read in place.
use Rattle.texts.proofs.Laws.{name_in}
use Rattle.texts.proofs.name_difference.Goals as goal

pub returns : goal.returns
returns c =
    let s = c.args.table.now in
    rw (name_in s c.args.j c.requires.1.0, name_in s c.args.i c.requires.0.0) at c.first_difference.ensures
