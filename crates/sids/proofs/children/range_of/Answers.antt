-- What a section looks up has a known label: it can be judged.
use mathlib.Core.Path.{refl}
use Rattle.model.specs.Bytes.{text}
use Rattle.model.specs.Values.{range_of}
use Rattle.model.proofs.Logic.{untrue}
use Rattle.sids.proofs.Found.{found_ready, conforming_by}
use Rattle.sids.proofs.children.range_of.Goals as goal

pub conforming-requires : goal.conforming-requires
conforming-requires c =
    record { index = c.requires.index.0; node_context = found_ready _ c.requires.index.0.sound _ 8 (text "ElementRange") c.requires.s_value refl untrue c.range.ensures }

pub returns : goal.returns
unfolding range_of
returns c = conforming_by _ _ 8 (text "ElementRange") _ c.range.ensures c.conforming.ensures
