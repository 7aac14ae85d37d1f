-- The tests of shape and value, one after the other; a missing child stays missing.
use mathlib.Core.Path.{sym, ◌∙◌}
use Rattle.model.specs.Bytes.{text}
use mathlib.Core.Bool.{◌&&◌}
use Rattle.model.specs.Image.{tree_of}
use Rattle.model.specs.Values.{zone_type_of, zone_type_shape, zone_type_value}
use Rattle.model.proofs.Joins.{and_done, and_on}
use Rattle.types.proofs.Missing.{there, none_kept, kept}
use Rattle.types.proofs.zones.zone_type_of.Goals as goal

pub returns-in_err-j : goal.returns-in_err-j
unfolding zone_type_of text
returns-in_err-j c =
    c.from_residual.ensures ∙ none_kept _ (λ j. zone_type_shape (tree_of c.args.image.now) j && zone_type_value (tree_of c.args.image.now) j) _
    (sym c.in_err-j.was ∙ c.zone_type.ensures)

pub text_shape-requires : goal.text_shape-requires
text_shape-requires c = (c.requires.index.0.sound.laid, (there (sym c.in_ok-j.was ∙ c.zone_type.ensures)).1)

pub returns-then-not-text_shape : goal.returns-then-not-text_shape
unfolding zone_type_of text
returns-then-not-text_shape c =
    kept _ (λ j. zone_type_shape (tree_of c.args.image.now) j && zone_type_value (tree_of c.args.image.now) j) _
    (sym c.in_ok-j.was ∙ c.zone_type.ensures) (and_done _ c.text_shape.ensures c.if-not-text_shape.true)

pub zone_type_value-requires : goal.zone_type_value-requires
zone_type_value-requires c = (c.requires.index.0.sound, (there (sym c.in_ok-j.was ∙ c.zone_type.ensures)).1)

pub returns : goal.returns
unfolding zone_type_of text
returns c =
    c.then_some.ensures ∙ kept _ (λ j. zone_type_shape (tree_of c.args.image.now) j && zone_type_value (tree_of c.args.image.now) j) _
    (sym c.in_ok-j.was ∙ c.zone_type.ensures) (and_on c.text_shape.ensures c.if-not-text_shape.false c.zone_type_value.ensures)
