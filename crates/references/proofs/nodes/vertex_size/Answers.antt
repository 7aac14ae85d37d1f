-- VertexSize is the first number of the zone.
use mathlib.Core.Path.{◌∙◌, ap}
use Prim.Native.Nat.{ℕ}
use Rattle.model.specs.Image.{tree_of, number}
use Rattle.model.specs.Values.{vertex_size}
use Rattle.references.proofs.nodes.vertex_size.Goals as goal

pub whole-requires : goal.whole-requires
whole-requires c = let p = c.requires in (p.0, rw c.parent_of.ensures.0 p.1.zone)

pub returns : goal.returns
unfolding vertex_size
returns c =
    c.whole.ensures
    ∙ ap (λ (z : ℕ). number (tree_of c.args.image.now) z 0) c.parent_of.ensures.0
