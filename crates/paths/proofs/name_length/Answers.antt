-- The name stands in front of the record.
use native.Mathlib.Omega.{arith}
use mathlib.Core.Path.{◌∙◌, ap}
use Prim.Native.Nat.{◌<◌}
use Rattle.model.specs.Image.{node_count}
use Rattle.model.proofs.Reading.{name-at}
use Rattle.model.specs.Path.{trimmed}
use Rattle.paths.proofs.name_length.Goals as goal

pub returns : goal.returns
returns c =
    let a = c.args in
    let b = a.image.now in
    let h : a.i < node_count b = omega arith in
    rw (← c.at.ensures) (ap trimmed (name-at b a.i h) ∙ rw (← c.at.ensures) c.text_length.ensures.0, omega arith)
