-- What a section looks up has a known label: it can be judged.
use mathlib.Core.Path.{refl}
use Rattle.model.specs.Bytes.{text}
use Rattle.model.specs.Values.{offsets_of}
use Rattle.model.proofs.Logic.{untrue}
use Rattle.sids.proofs.Found.{found_ready, conforming_by}
use Rattle.sids.proofs.children.offsets_of.Goals as goal

pub conforming-requires : goal.conforming-requires
conforming-requires c =
    record { index = c.requires.index.0; node_context = found_ready _ c.requires.index.0.sound _ 11 (text "ElementStartOffset") c.requires.s_value refl untrue c.offsets.ensures }

pub returns : goal.returns
unfolding offsets_of
returns c = conforming_by _ _ 11 (text "ElementStartOffset") _ c.offsets.ensures c.conforming.ensures
