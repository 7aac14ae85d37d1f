-- Only a FlowSolution_t has a GridLocation.
use mathlib.Core.Path.{refl, sym, ◌∙◌}
use native.Mathlib.Omega.{arith}
use Rattle.model.specs.Bytes.{text}
use Rattle.model.specs.Values.{cell_centred}
use Rattle.index.proofs.Marking.{kind_parts, the_kind, not_kind}
use Rattle.types.proofs.Missing.{there, reads_by}
use Rattle.sids.proofs.Found.{found_ready, conforming_by}
use Rattle.sids.proofs.Sized.{not_centred}
use Rattle.sids.proofs.data_size.cell_centred.Goals as goal

pub returns-then-not-validated_as : goal.returns-then-not-validated_as
returns-then-not-validated_as c = not_centred c.requires.1 refl (not_kind _ c.requires.0.sound c.requires.1.held.inside (omega arith) (sym c.validated_as.ensures ∙ c.if-not-validated_as.true))

pub location-requires : goal.location-requires
location-requires c =
    let p = c.requires in
    record { index = (p.0, p.1.held.inside); p_value = the_kind _ c.requires.0.sound c.requires.1.held.inside (omega arith) (sym c.validated_as.ensures ∙ c.if-not-validated_as.false) }

pub conforming-requires : goal.conforming-requires
conforming-requires c =
    let p = c.requires in
    let k = the_kind _ c.requires.0.sound c.requires.1.held.inside (omega arith) (sym c.validated_as.ensures ∙ c.if-not-validated_as.false) in
    record { index = p.0; node_context = found_ready _ p.0.sound _ 10 (text "GridLocation") k refl (λ z. p.1.held.zone.based) c.location.ensures }

pub returns : goal.returns
unfolding cell_centred text
returns c =
    let k = (kind_parts _ _ (the_kind _ c.requires.0.sound c.requires.1.held.inside (omega arith) (sym c.validated_as.ensures ∙ c.if-not-validated_as.false)) (omega arith)).1 in
    rw k (reads_by _ _ _ (conforming_by _ _ 10 (text "GridLocation") _ c.location.ensures c.conforming.ensures) c.reads_if_found.ensures)

pub validated_as-requires : goal.validated_as-requires
validated_as-requires c = let p = c.requires in (p.0, p.1.held.inside)

pub reads_if_found-requires : goal.reads_if_found-requires
reads_if_found-requires c =
    (c.requires.0.sound, λ j q. (there (sym q ∙ conforming_by _ _ 10 (text "GridLocation") _ c.location.ensures c.conforming.ensures)).1)
