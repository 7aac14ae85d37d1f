-- The text is read in its field; a longer one has none.
use native.Mathlib.Omega.{arith}
use mathlib.Core.Path.{sym}
use lib.Seq.{take_all}
use Rattle.writer_model.specs.Writer.{padded}
use Rattle.writer_rules.proofs.RuleLaws.{long-text, field-length}
use Rattle.writer_rules.proofs.names.is_lawful.Goals as goal

pub returns-then-text-gt-TEXT_SIZE : goal.returns-then-text-gt-TEXT_SIZE
returns-then-text-gt-TEXT_SIZE c = sym (long-text _ _ c.if-text-gt-TEXT_SIZE.true)

pub returns : goal.returns
returns c =
    let s = c.args.text.now in
    let e = take_all 32 (padded s) (omega (arith, field-length s (omega arith))) in
    rw (c.padded-field.ensures, e) at c.is_text.ensures
