-- What a flow solution looks up has a known label: it can be judged.
use mathlib.Core.Path.{refl}
use Rattle.model.specs.Bytes.{text}
use Rattle.model.specs.Values.{point_range_of}
use Rattle.sids.proofs.Found.{found_ready, conforming_by}
use Rattle.sids.proofs.children.point_range_of.Goals as goal

pub conforming-requires : goal.conforming-requires
conforming-requires c =
    record { index = c.requires.index.0; node_context = found_ready _ c.requires.index.0.sound _ 8 (text "PointRange") c.requires.p_value refl (λ z. c.requires.index.1.zone.based) c.point_range.ensures }

pub returns : goal.returns
unfolding point_range_of
returns c = conforming_by _ _ 8 (text "PointRange") _ c.point_range.ensures c.conforming.ensures

pub point_range-requires : goal.point_range-requires
point_range-requires c = record { index = (c.requires.index.0, c.requires.index.1.inside); p_value = c.requires.p_value }
