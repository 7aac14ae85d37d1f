-- The range stores its two numbers.
use Rattle.section_data.proofs.Stored.{stores-has}
use Rattle.section_data.proofs.ArrayLaws.{first_by, last_by}
use Rattle.section_data.proofs.RangeLaws.{first_key_lem, last-key}
use native.Mathlib.Omega.{arith}
use Rattle.section_data.proofs.element_ranges.keys_of.Goals as goal

pub whole-requires : goal.whole-requires
whole-requires c = (c.requires.sound.0.0, rw c.requires.range_value.0 (stores-has c.requires.sound.0.0 c.requires.range_value.1.range 0 (omega arith)))

pub key-first-requires : goal.key-first-requires
key-first-requires c =
    (omega (arith, c.parent_of-zone.ensures.0, c.requires.sound.1), omega (arith, first_by _ _ _ _ c.requires.range_value.0 c.whole.ensures, c.requires.range_value.1.up, c.requires.range_value.1.most))

pub whole-requires-2 : goal.whole-requires-2
whole-requires-2 c = (c.requires.sound.0.0, rw c.requires.range_value.0 (stores-has c.requires.sound.0.0 c.requires.range_value.1.range 1 (omega arith)))

pub key-last-requires : goal.key-last-requires
key-last-requires c =
    (omega (arith, c.parent_of-zone.ensures.0, c.requires.sound.1), omega (arith, last_by _ _ _ _ c.requires.range_value.0 c.whole-2.ensures, c.requires.range_value.1.most))

pub returns : goal.returns
returns c =
    let z = c.parent_of-zone.ensures.0 in
    let f = c.key-first.ensures in
    let l = c.key-last.ensures in record {
      first_value = (
        first_key_lem _ _ z (first_by _ _ _ _ c.requires.range_value.0 c.whole.ensures) f.0,
        last-key _ _ z (last_by _ _ _ _ c.requires.range_value.0 c.whole-2.ensures) l.0,
      );
      first_bound = (f.1, l.1);
    }
