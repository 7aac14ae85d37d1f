-- The ranges gathered are those of the earlier sections.
use mathlib.Core.Path.{◌≡◌, sym, ◌∙◌}
use mathlib.Core.Bool.{true}
use Rattle.model.specs.Image.{tree_of}
use Rattle.section_data.specs.Ranges.{is_ranged}
use Rattle.section_data.proofs.RangeLaws.{has-range, no_range, ranged, zone-inside, overlap_by, no_overlap}
use native.Mathlib.Omega.{arith}
use Rattle.section_data.proofs.element_ranges.meets_earlier.Goals as goal
use Rattle.section_data.proofs.element_ranges.meets_earlier.Goals.{In-Some}

pub returns-in_default : goal.returns-in_default
returns-in_default c =
    no_overlap _ _ (no_range _ _ _ (sym c.in_default.is ∙ c.range_if.ensures))

module _ (c : In-Some) where
  is-ranged : is_ranged (tree_of c.args.image.now) 0
      c.args.i ≡ true
  is-ranged = (has-range _ _ _ c.in-Some.ensures).0

pub keys_of-keys-requires : goal.keys_of-keys-requires
keys_of-keys-requires c =
    let s = c.requires.index.0.sound in
    let h = zone-inside s _ _ (is-ranged c) c.requires.index.1 in
    record { sound = ((s, c.requires.index.1), h); range_value = (sym (has-range _ _ _ c.in-Some.ensures).1, ranged s _ _ (is-ranged c)) }

pub returns : goal.returns
returns c =
    let d = (goal.at.returns c).In-Some in
    overlap_by d.requires.index.0.sound _ (is-ranged d) d.requires.gathered c.keys_of-keys.ensures.first_value.0 c.keys_of-keys.ensures.first_value.1 c.meets.ensures

pub meets-requires : goal.meets-requires
meets-requires c = (c.requires.gathered.ordered, omega (arith, c.keys_of-keys.ensures.first_bound))
