-- The two arrays are rows of the bytes, and rules 29 to 33 hold.
use mathlib.Core.Path.{refl, sym, ◌∙◌}
use borrow.Author.Tests.{lt-ltb}
use Rattle.types.proofs.Missing.{there, is_there}
use Rattle.section_data.proofs.ArrayLaws.{row_is}
use Rattle.section_data.proofs.ArrayLaws.{offsets_there, offsets-found}
use Rattle.references.proofs.MixedLaws.{offsets_counted}
use Rattle.references.proofs.mixed.mixed_stage.Goals as goal

pub unwrap-requires : goal.unwrap-requires
unwrap-requires c =
    is_there _ _ c.offsets_of.ensures
    ∙ lt-ltb _ _ (offsets-found _ _ _ _ refl (offsets_counted _ _ c.requires.row_of.1 c.requires.s_value))

pub row_of-offsets-requires : goal.row_of-offsets-requires
row_of-offsets-requires c =
    let l = there (sym c.unwrap.ensures ∙ c.offsets_of.ensures) in
    (c.requires.index.0.sound, offsets_there c.requires.index.1 l.0 l.1)

pub rows_stage-requires : goal.rows_stage-requires
rows_stage-requires c =
    record {
      sound = c.requires.index.0.sound;
      mixed = c.requires.row_of.1;
      shaped = c.requires.s_value;
      offsets = row_is (there (sym c.unwrap.ensures ∙ c.offsets_of.ensures)).0 c.row_of-offsets.ensures;
      connectivity = c.requires.row_of.0;
      vertices = c.vertex_size-vertices.ensures;
    }

pub returns : goal.returns
returns c = c.rows_stage.ensures
