-- The start offsets are there where their count is n + 1, and are then a row of the bytes.
use mathlib.Core.Path.{◌≡◌, refl, sym, ap, ◌∙◌}
use borrow.Author.Tests.{lt-ltb}
use Rattle.model.specs.Image.{tree_of}
use Rattle.model.specs.Values.{size, offsets_of}
use Rattle.model.specs.Rules.{rejected}
use Rattle.types.proofs.Missing.{there, is_there}
use Rattle.section_data.proofs.ArrayLaws.{row-numbers, size_by, offsets_there, offsets-found}
use Rattle.elements.proofs.ShapeLaws.{count_small, offsets-short, offsets_fit}
use native.Mathlib.Omega.{arith}
use Rattle.elements.proofs.lengths.offset_shape.Goals as goal
use Rattle.elements.proofs.lengths.offset_shape.Goals.{After-size_of}

pub size_of-requires : goal.size_of-requires
size_of-requires c =
    record { sound = c.requires.index.0.sound; indexed = λ j q. let l = there (sym q ∙ c.offsets_of-offsets.ensures) in offsets_there c.requires.index.1 l.0 l.1 }

-- how many there are
counted : (c : After-size_of) → c.size_of.result ≡ size (tree_of c.args.image.now) (offsets_of (tree_of c.args.image.now) c.args.s)
counted c = size_by _ _ _ c.offsets_of-offsets.ensures c.size_of.ensures

pub returns-then-size_of-n : goal.returns-then-size_of-n
returns-then-size_of-n c =
    ap rejected c.at.ensures
    ∙ offsets-short _ _ c.requires.element_type_value.1 c.requires.n_value.0 c.requires.n_value.1 refl (counted (goal.at.returns-then-size_of-n c).After-size_of)
    c.if-size_of-n.true

pub least_size-least-requires : goal.least_size-least-requires
least_size-least-requires c = record { sound = (c.requires.index.0.sound, c.requires.index.1); element_type_value = c.requires.element_type_value.0 }

pub unwrap-requires : goal.unwrap-requires
unwrap-requires c =
    is_there _ _ c.offsets_of-offsets.ensures
    ∙ lt-ltb _ _ (offsets-found _ _ _ _ (counted (goal.at.unwrap-requires c).After-size_of) c.if-size_of-n.false)

pub row_of-requires : goal.row_of-requires
row_of-requires c =
    let l = there (sym c.unwrap.ensures ∙ c.offsets_of-offsets.ensures) in
    (c.requires.index.0.sound, offsets_there c.requires.index.1 l.0 l.1)

pub offsets_stage-requires : goal.offsets_stage-requires
offsets_stage-requires c =
    let a = c.row_of.ensures in
    let l = there (sym c.unwrap.ensures ∙ c.offsets_of-offsets.ensures) in
    let e = a.long ∙ ap (size (tree_of c.args.image.now)) l.0 ∙ sym (counted (goal.at.offsets_stage-requires c).After-size_of) ∙ c.if-size_of-n.false in
    ((row-numbers c.requires.index.0.sound a, omega (arith, e)), c.least_size-least.ensures.1)

pub returns : goal.returns
returns c =
    let a = c.row_of.ensures in
    let l = there (sym c.unwrap.ensures ∙ c.offsets_of-offsets.ensures) in
    let e = a.long ∙ ap (size (tree_of c.args.image.now)) l.0 ∙ sym (counted (goal.at.returns c).After-size_of) ∙ c.if-size_of-n.false in
    c.offsets_stage.ensures
    ∙ offsets_fit _ _ c.requires.element_type_value.1 c.requires.n_value.0 c.requires.n_value.1 l.0 c.requires.index.0.sound a e c.least_size-least.ensures.0

pub offsets_of-offsets-requires : goal.offsets_of-offsets-requires
offsets_of-offsets-requires c = record { index = (c.requires.index.0, c.requires.index.1.inside); s_value = c.requires.index.1.kind-is }

pub overflow_add-n : goal.overflow_add-n
overflow_add-n c = omega (arith, count_small c.requires.index.1 c.requires.n_value.0)
