-- Rules 24 and 25 of a section are three tests.
use mathlib.Core.Path.{sym, ◌∙◌}
use Rattle.types.proofs.StoredNumbers.{whole_four, has_pair}
use Rattle.section_data.proofs.RangeLaws.{lawful_is}
use Rattle.section_data.proofs.element_ranges.is_lawful.Goals as goal

pub returns-then-not-typed : goal.returns-then-not-typed
returns-then-not-typed c = rw (lawful_is _ _ c.requires.1, sym c.typed.ensures ∙ c.if-not-typed.true)

pub returns-then-not-shaped : goal.returns-then-not-shaped
returns-then-not-shaped c =
    rw (
      lawful_is _ _ c.requires.1,
      sym c.typed.ensures ∙ c.if-not-typed.false,
      sym c.shaped.ensures
          ∙ c.if-not-shaped.true,
    )

pub not_negative-requires : goal.not_negative-requires
not_negative-requires c = (
  c.requires.0.0,
  has_pair _ c.requires.0.0 _ c.requires.0.1 (whole_four _ _ (sym c.typed.ensures ∙ c.if-not-typed.false))
      (sym c.shaped.ensures ∙ c.if-not-shaped.false),
)

pub returns : goal.returns
returns c =
    rw (
      lawful_is _ _ c.requires.1,
      sym c.typed.ensures ∙ c.if-not-typed.false,
      sym c.shaped.ensures
          ∙ c.if-not-shaped.false,
    )
    c.not_negative.ensures
