-- What a section looks up has a known label: it can be judged.
use mathlib.Core.Path.{refl}
use Rattle.model.specs.Bytes.{text}
use Rattle.model.specs.Values.{connectivity_of}
use Rattle.model.proofs.Logic.{untrue}
use Rattle.sids.proofs.Found.{found_ready, conforming_by}
use Rattle.sids.proofs.children.connectivity_of.Goals as goal

pub conforming-requires : goal.conforming-requires
conforming-requires c =
    record { index = c.requires.index.0; node_context = found_ready _ c.requires.index.0.sound _ 11 (text "ElementConnectivity") c.requires.s_value refl untrue c.connectivity.ensures }

pub returns : goal.returns
unfolding connectivity_of
returns c = conforming_by _ _ 11 (text "ElementConnectivity") _ c.connectivity.ensures c.conforming.ensures
