-- One slash for the root, the names for another node.
use native.Mathlib.Omega.{arith}
use mathlib.Core.Path.{ap}
use lib.ListN.{length}
use Rattle.model.specs.Image.{tree_of}
use Rattle.paths.proofs.Laws.{path_root, path_names, slash_alone}
use Rattle.paths.proofs.write_path.Goals as goal

pub bounds-out-0 : goal.bounds-out-0
bounds-out-0 c =
    let a = c.args in
    let e = path_root (tree_of a.image.now) a.i c.if-i-eq0.true in
    omega (arith, ap length e)

pub returns-then-i-eq0 : goal.returns-then-i-eq0
returns-then-i-eq0 c =
    let a = c.args in
    rw (path_root (tree_of a.image.now) a.i c.if-i-eq0.true) (slash_alone a.out.now (bounds-out-0 c))

pub write_names-requires : goal.write_names-requires
write_names-requires c =
    (c.requires.0, rw (path_names (tree_of c.args.image.now) c.args.i c.if-i-eq0.false) at c.requires.1)

pub returns : goal.returns
returns c =
    let a = c.args in
    rw (path_names (tree_of a.image.now) a.i c.if-i-eq0.false) c.write_names.ensures.1
