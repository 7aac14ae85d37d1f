-- A missing ZoneType has no shape.
use mathlib.Core.Path.{refl, sym, ◌∙◌}
use Rattle.model.specs.Bytes.{text}
use Rattle.model.proofs.Found.{the_none}
use Rattle.model.proofs.Joins.{and_done, and_on}
use Rattle.types.proofs.Missing.{there, shape_past}
use Rattle.types.proofs.zones.zone_type_reads.Goals as goal

pub returns-in_default : goal.returns-in_default
unfolding text
returns-in_default c = and_done _ (sym (shape_past _ _ (the_none (sym c.zone_type.ensures ∙ c.in_default.is)))) refl

pub text_shape-requires : goal.text_shape-requires
text_shape-requires c = (c.requires.index.0.sound.laid, (there c.in-Some.ensures).1)

pub reads-requires : goal.reads-requires
reads-requires c = (c.requires.index.0.sound, (there c.in-Some.ensures).1)

pub returns-then-text_shape : goal.returns-then-text_shape
unfolding text
returns-then-text_shape c =
    rw (← (there c.in-Some.ensures).0) (and_on c.text_shape.ensures c.if-text_shape.true c.reads.ensures)

pub returns-else-text_shape : goal.returns-else-text_shape
unfolding text
returns-else-text_shape c =
    rw (← (there c.in-Some.ensures).0) (c.if-text_shape.false ∙ and_done _ c.text_shape.ensures c.if-text_shape.false)
