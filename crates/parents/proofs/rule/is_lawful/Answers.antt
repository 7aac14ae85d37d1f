-- Data type, dimensions, then the two columns.
use mathlib.Core.Path.{sym, ◌∙◌}
use native.Mathlib.Omega.{arith}
use borrow.Author.Tests.{lt-ltb}
use Rattle.types.proofs.Missing.{there, is_there}
use Rattle.section_data.proofs.RangeLaws.{ranged, zone-inside}
use Rattle.parents.proofs.ParentLaws.{faces_kind, not-typed, not-shaped, columns_decide, stores_columns}
use Rattle.parents.proofs.rule.is_lawful.Goals as goal

pub range_of-requires : goal.range_of-requires
range_of-requires c = record { index = c.requires.index.0; s_value = faces_kind c.requires.index.0.0.sound _ c.requires.index.1 }

pub unwrap-requires : goal.unwrap-requires
unwrap-requires c = let g = ranged c.requires.index.0.0.sound _ _ c.requires.index.1 in is_there _ _ c.range_of.ensures ∙ lt-ltb _ _ g.range.inside

pub element_count-n-requires : goal.element_count-n-requires
element_count-n-requires c =
    (c.requires.index.0.0.sound, ((there (sym c.unwrap.ensures ∙ c.range_of.ensures)).0, ranged c.requires.index.0.0.sound _ _ c.requires.index.1))

pub returns-then-not-typed_either : goal.returns-then-not-typed_either
returns-then-not-typed_either c =
    not-typed _ _ c.requires.j_value.0 c.element_count-n.ensures.0
    (sym c.typed_either.ensures ∙ c.if-not-typed_either.true)

pub returns-then-not-shaped : goal.returns-then-not-shaped
returns-then-not-shaped c =
    not-shaped _ _ c.requires.j_value.0 c.element_count-n.ensures.0
    (sym c.typed_either.ensures ∙ c.if-not-typed_either.false)
    (sym c.shaped.ensures ∙ c.if-not-shaped.true)

pub columns_lawful-requires : goal.columns_lawful-requires
columns_lawful-requires c =
    let g = c.requires.index.0.0.sound in
    let z = zone-inside g _ _ c.requires.index.1 c.requires.index.0.1 in record {
      sound = (
        (
          g,
          stores_columns g _ _ c.requires.j_value.1 (sym c.typed_either.ensures ∙ c.if-not-typed_either.false)
              (sym c.shaped.ensures ∙ c.if-not-shaped.false),
        ),
        omega (arith, c.parent_of-z.ensures.0, z, g.laid.few),
      );
      cells = c.requires.cells;
    }

pub returns : goal.returns
returns c =
    c.columns_lawful.ensures
    ∙ columns_decide _ _ c.requires.j_value.0 c.element_count-n.ensures.0
    (sym c.typed_either.ensures ∙ c.if-not-typed_either.false)
    (sym c.shaped.ensures ∙ c.if-not-shaped.false) c.parent_of-z.ensures.0
