-- Only a flow solution has a PointRange or a PointList that conforms.
use mathlib.Core.Path.{sym, ap, ◌∙◌}
use mathlib.Core.Logic.{⊎_elim}
use native.Mathlib.Omega.{arith}
use Rattle.model.specs.Image.{tree_of}
use Rattle.model.specs.Values.{shaped}
use Rattle.index.proofs.Marking.{kind_parts, the_kind, not_kind}
use Rattle.sids.proofs.DataSizes.{coordinate_sizes}
use Rattle.sids.proofs.data_size.has_data_size.Goals as goal

pub returns-then-validated_as : goal.returns-then-validated_as
returns-then-validated_as c = c.flow_sized.ensures

pub returns : goal.returns
returns c =
    let t = tree_of c.args.image.now in
    c.zone_sized.ensures
    ∙ ap (shaped t c.args.i) (⊎_elim (λ q. sym (coordinate_sizes t c.args.p (kind_parts t c.args.p q (omega arith)).1))
    (λ q. absurd (not_kind _ c.requires.index.0.sound c.requires.index.1.held.inside (omega arith) (sym c.validated_as.ensures ∙ c.if-validated_as.false) q)) c.requires.index.1.kind-is)

pub validated_as-requires : goal.validated_as-requires
validated_as-requires c = (c.requires.index.0, c.requires.index.1.held.inside)

pub flow_sized-requires : goal.flow_sized-requires
flow_sized-requires c = record { index = c.requires.index; p_value = (the_kind _ c.requires.index.0.sound c.requires.index.1.held.inside (omega arith) (sym c.validated_as.ensures ∙ c.if-validated_as.true), c.requires.i_bound) }
