-- A section that counts is put in; the tables have room for all of them.
use mathlib.Core.Path.{◌≡◌, sym, ◌∙◌}
use mathlib.Core.Bool.{true}
use Rattle.model.specs.Image.{tree_of}
use Rattle.ranges.proofs.Gathering.{gathered_skip, gathered_more}
use Rattle.section_data.specs.Ranges.{is_ranged}
use Rattle.section_data.proofs.RangeLaws.{has-range, no_range, ranged, zone-inside, room}
use native.Mathlib.Omega.{arith}
use Rattle.section_data.proofs.element_ranges.gather_node.Goals as goal
use Rattle.section_data.proofs.element_ranges.gather_node.Goals.{In-Some}

pub returns-in_default : goal.returns-in_default
returns-in_default c =
    gathered_skip c.requires.gathered
    (no_range _ _ _ (sym c.in_default.is ∙ c.range_if.ensures))

module _ (c : In-Some) where
  is-ranged : is_ranged (tree_of c.args.image.now)
      c.args.element_type c.args.i ≡ true
  is-ranged = (has-range _ _ _ c.in-Some.ensures).0

pub keys_of-keys-requires : goal.keys_of-keys-requires
keys_of-keys-requires c =
    let s = c.requires.index.0.sound in
    let h = zone-inside s _ _ (is-ranged c) c.requires.index.1 in
    record { sound = ((s, c.requires.index.1), h); range_value = (sym (has-range _ _ _ c.in-Some.ensures).1, ranged s _ _ (is-ranged c)) }

pub insert-requires : goal.insert-requires
insert-requires c =
    let d = (goal.at.insert-requires c).In-Some in
    let l = room _ d.requires.index.0.sound d.requires.gathered d.requires.index.1 (is-ranged d) in
    record { ordered = d.requires.gathered.ordered; n_in_bounds = (omega (arith, d.requires.in_bounds), omega (arith, d.requires.in_bounds), omega (arith, c.keys_of-keys.ensures.first_bound)) }

pub returns : goal.returns
returns c =
    let d = (goal.at.returns c).In-Some in
    gathered_more d.requires.gathered (is-ranged d) c.keys_of-keys.ensures.first_value.0 c.keys_of-keys.ensures.first_value.1
    c.insert.ensures

pub overflow_add-result : goal.overflow_add-result
overflow_add-result c = let d = (goal.at.overflow_add-result c).In-Some in
    omega (arith, room _ d.requires.index.0.sound d.requires.gathered d.requires.index.1 (is-ranged d))

pub shape_of-firsts : goal.shape_of-firsts
shape_of-firsts c = c.insert.auto.firsts

pub shape_of-reach : goal.shape_of-reach
shape_of-reach c = c.insert.auto.reach
