-- The parent's names come first, and they are as many fewer as its own step is long.
use Rattle.std.proofs.Common.{◌∙◌, arith}
use Rattle.paths.proofs.Laws.{root, lower, longer, onward}
use Rattle.paths.proofs.+write_names.Goals as goal

pub returns-then-i-eq0 : goal.returns-then-i-eq0
returns-then-i-eq0 t c = root _ _ _ c.if-i-eq0.true

pub write_names-k-requires : goal.write_names-k-requires
write_names-k-requires t c =
    let b = c.args.image.now in
    let l = lower b c.requires.0.0 c.args.i c.parent_of-p.result (omega arith) c.parent_of-p.ensures.0 c.if-i-eq0.false in
    let g = longer b c.requires.0.0 c.args.i c.parent_of-p.result (omega arith) c.parent_of-p.ensures.0 c.if-i-eq0.false in
    (omega (arith, l), ((c.requires.0.0, omega (arith, l)), omega (arith, g)))

pub write_name-requires : goal.write_name-requires
write_name-requires t c =
    let g = longer c.args.image.now c.requires.0.0 c.args.i c.parent_of-p.result (omega arith) c.parent_of-p.ensures.0 c.if-i-eq0.false in
    ((c.requires.0.0.laid, omega arith), omega (arith, g, c.write_names-k.ensures.0, c.write_names-k.auto.out))

pub returns : goal.returns
returns t c =
    let b = c.args.image.now in
    let n = c.write_name.ensures in
    let w = c.write_names-k.ensures in
    let g = longer b c.requires.0.0 c.args.i c.parent_of-p.result (omega arith) c.parent_of-p.ensures.0 c.if-i-eq0.false in (
      omega (arith, n.0, w.0, g),
      n.1 ∙ onward b c.requires.0.0 c.args.i c.parent_of-p.result (omega arith) c.parent_of-p.ensures.0 c.if-i-eq0.false _ _ _ w.0 w.1,
    )
