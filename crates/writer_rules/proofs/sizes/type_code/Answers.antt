-- Two bytes are read, the lower first; a text of another length has no field, as 0 has no type.
use native.Mathlib.Omega.{arith}
use mathlib.Core.Path.{refl}
use Rattle.writer_rules.proofs.RuleLaws.{no_field, field_of}
use Rattle.writer_rules.proofs.sizes.type_code.Goals as goal

pub returns-then-data_type-ne-TYPE_SIZE : goal.returns-then-data_type-ne-TYPE_SIZE
returns-then-data_type-ne-TYPE_SIZE c = (no_field _ c.if-data_type-ne-TYPE_SIZE.true, omega arith)

pub returns : goal.returns
returns c =
    let low = c.byte_at in
    let e = field_of c.args.data_type.now _ _ c.if-data_type-ne-TYPE_SIZE.false low.ensures.0 low.ensures.1 c.byte_at-2.ensures.0 in
    (rw e (refl, refl), omega arith)
