-- The root's path is one slash, another's its names.
use Rattle.model.specs.Image.{tree_of}
use Rattle.paths.proofs.Laws.{path_root, path_names}
use Rattle.paths.proofs.path_length.Goals as goal

pub returns-then-i-eq0 : goal.returns-then-i-eq0
returns-then-i-eq0 c = let a = c.args in rw (path_root (tree_of a.image.now) a.i c.if-i-eq0.true)

pub returns : goal.returns
returns c =
    let a = c.args in
    rw (path_names (tree_of a.image.now) a.i c.if-i-eq0.false) c.names_length.ensures
