-- The mark, then the link.
use mathlib.Core.Path.{◌∙◌}
use native.Mathlib.Omega.{arith}
use Rattle.texts.proofs.keys.add_node.Goals as goal

pub returns : goal.returns
returns c =
    rw (c.add_key.ensures, c.class_of.ensures.0) at c.add.ensures

pub add_key-requires : goal.add_key-requires
add_key-requires c = let p = c.requires in (p.0.0, p.1)

pub add-requires : goal.add-requires
add-requires c = let p = c.requires in ((p.0.1, c.class_of.ensures.1), omega (arith, p.0.0, c.add_key.auto.seen))

pub shape_of-seen : goal.shape_of-seen
shape_of-seen c = c.add.auto.links ∙ c.add_key.auto.seen
