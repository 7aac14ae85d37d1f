-- What a flow solution looks up has a known label: it can be judged.
use mathlib.Core.Path.{refl}
use Rattle.model.specs.Bytes.{text}
use Rattle.model.specs.Values.{point_list_of}
use Rattle.sids.proofs.Found.{found_ready, conforming_by}
use Rattle.sids.proofs.children.point_list_of.Goals as goal

pub conforming-requires : goal.conforming-requires
conforming-requires c =
    record { index = c.requires.index.0; node_context = found_ready _ c.requires.index.0.sound _ 14 (text "PointList") c.requires.p_value refl (λ z. c.requires.index.1.zone.based) c.point_list.ensures }

pub returns : goal.returns
unfolding point_list_of
returns c = conforming_by _ _ 14 (text "PointList") _ c.point_list.ensures c.conforming.ensures

pub point_list-requires : goal.point_list-requires
point_list-requires c = record { index = (c.requires.index.0, c.requires.index.1.inside); p_value = c.requires.p_value }
