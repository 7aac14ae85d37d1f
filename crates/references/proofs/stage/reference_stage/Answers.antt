-- The type decides which of the rules is asked.
use mathlib.Core.Path.{sym, ◌∙◌}
use Rattle.references.proofs.RuleLaws.{types_fit}
use Rattle.references.proofs.stage.reference_stage.Goals as goal

pub mixed_stage-requires : goal.mixed_stage-requires
mixed_stage-requires c =
    record { index = c.requires.index; row_of = (c.requires.row_of.0, sym c.requires.row_of.1 ∙ c.if-element_type-eq-MIXED.true); s_value = c.requires.s_value }

pub face_stage-requires : goal.face_stage-requires
face_stage-requires c =
    record { index = c.requires.index; row_of = (c.requires.row_of.0, sym c.requires.row_of.1 ∙ c.if-element_type-eq-NFACE.true); faces = c.requires.faces }

pub returns-then-element_type-eq-NFACE : goal.returns-then-element_type-eq-NFACE
returns-then-element_type-eq-NFACE c =
    let e = c.requires.row_of.1 in
    types_fit _ _ (λ q. c.if-element_type-eq-MIXED.false (e ∙ q)) c.face_stage.ensures

pub node_stage-requires : goal.node_stage-requires
node_stage-requires c =
    let e = c.requires.row_of.1 in
    record { sound = (c.requires.index.0.sound, c.requires.index.1); row_of = c.requires.row_of.0; fact = (λ q. c.if-element_type-eq-MIXED.false (e ∙ q), λ q. c.if-element_type-eq-NFACE.false (e ∙ q)) }

pub returns : goal.returns
returns c =
    let e = c.requires.row_of.1 in
    types_fit _ _ (λ q. c.if-element_type-eq-MIXED.false (e ∙ q)) c.node_stage.ensures
