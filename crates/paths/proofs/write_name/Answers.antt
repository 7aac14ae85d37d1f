-- A slash, and the name's bytes after it.
use native.Mathlib.Omega.{arith}
use mathlib.Core.Path.{◌∙◌}
use lib.ListN.{length-set}
use Rattle.paths.proofs.Laws.{sized, part_length, named}
use Rattle.paths.proofs.write_name.Goals as goal

pub put_bytes-requires : goal.put_bytes-requires
put_bytes-requires c =
    let a = c.args in
    let n = c.name_length-n.result in
    let e = c.name_length-n.ensures.0 in
    let z = sized a.image.now a.i n e (omega arith) in
    simp length-set (omega (arith, z, part_length a.image.now a.i n e (omega arith) c.at-p.ensures))

pub shape_of-out : goal.shape_of-out
shape_of-out c = c.put_bytes.auto.out ∙ simp length-set

pub returns : goal.returns
returns c =
    let a = c.args in
    let b = a.image.now in
    let n = c.name_length-n.result in
    let e = c.name_length-n.ensures.0 in (
      omega (arith, sized b a.i n e (omega arith)),
      c.put_bytes.ensures ∙ named b a.i n e (omega arith) c.at-p.ensures a.out.now a.k (omega arith),
    )
