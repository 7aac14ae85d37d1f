-- A number that is not too great is a face of the zone where an entry holds its key.
use mathlib.Core.Path.{sym, ◌∙◌}
use native.Mathlib.Omega.{arith}
use Rattle.model.proofs.Logic.{untrue}
use Rattle.section_data.proofs.TableLaws.{held-is}
use Rattle.references.proofs.FaceLaws.{refers_by}
use Rattle.references.proofs.face_references.entry_refers.Goals as goal

pub key-requires : goal.key-requires
key-requires c =
    (omega (arith, c.requires.sound.1, c.requires.sound.0.laid.few), omega (arith, c.if-f-gt-MAX_NUMBER.false))

pub returns : goal.returns
returns c e =
    refers_by _ _ _ _ _ _ c.magnitude_at-f.ensures
    (held-is c.requires.numbers.1 _ _ (omega (arith, c.if-f-gt-MAX_NUMBER.false)) c.key.ensures.0 (sym c.entry_holds.ensures ∙ e))

pub returns-then-f-gt-MAX_NUMBER : goal.returns-then-f-gt-MAX_NUMBER
returns-then-f-gt-MAX_NUMBER c e = untrue e

pub entry_holds-requires : goal.entry_holds-requires
entry_holds-requires c = (c.requires.numbers.1.ordered.firsts_rise.rise.room, c.requires.numbers.1.ordered.reach_rises.room)
