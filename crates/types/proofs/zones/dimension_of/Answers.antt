-- CellDimension of the base, or 1.
use mathlib.Core.Path.{sym, ◌∙◌}
use borrow.Author.Rules.{rules}
use Rattle.model.specs.Values.{index_dimension, cell_dimension}
use Rattle.types.proofs.Roles.{based-has, cell_dimension_lem}
use Rattle.types.proofs.zones.dimension_of.Goals as goal

pub returns-then-not-structured : goal.returns-then-not-structured
unfolding index_dimension
returns-then-not-structured c = (rw (sym c.requires.structured_value ∙ c.if-not-structured.true), search rules, search rules)

pub whole-requires : goal.whole-requires
whole-requires c =
    (search rules, rw c.parent_of.ensures.0 (based-has c.args.image.now c.requires.sound.0 c.args.z c.requires.sound.1))

pub returns : goal.returns
unfolding index_dimension cell_dimension
returns c =
    let e = rw c.parent_of.ensures.0 at c.whole.ensures in
    let l = cell_dimension_lem c.args.image.now c.requires.sound.0 c.args.z c.requires.sound.1 in
    (rw (sym c.requires.structured_value ∙ c.if-not-structured.false) e, rw e l.0, rw e l.1)
