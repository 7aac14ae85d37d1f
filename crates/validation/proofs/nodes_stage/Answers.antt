-- The overlaps, the parents and then the faces, each gathered in the same tables, before the nodes.
use mathlib.Core.Path.{◌∙◌}
use native.Mathlib.Omega.{arith}
use Rattle.validation.proofs.nodes_stage.Goals as goal

pub first_overlap-overlap-requires : goal.first_overlap-overlap-requires
first_overlap-overlap-requires c = record { index = c.requires.index.0; in_bounds = c.requires.in_bounds }

pub first_broken-parents-requires : goal.first_broken-parents-requires
first_broken-parents-requires c =
    let p = c.requires.in_bounds in
    let o = c.first_overlap-overlap.auto in
    record { index = c.requires.index.0; in_bounds = (omega (arith, o.firsts, p), omega (arith, o.reach, p)) }

pub gather_faces-faces-requires : goal.gather_faces-faces-requires
gather_faces-faces-requires c =
    let p = c.requires.in_bounds in
    let o = c.first_overlap-overlap.auto in
    let q = c.first_broken-parents.auto in
    record { index = c.requires.index.0; in_bounds = (omega (arith, q.firsts, o.firsts, p), omega (arith, q.reach, o.reach, p)) }

pub every_node-requires : goal.every_node-requires
every_node-requires c = record {
  index = c.requires.index.0;
  overlap_value = (c.first_overlap-overlap.ensures, c.first_broken-parents.ensures);
  faces = (c.gather_faces-faces.ensures, c.requires.index.1);
}

-- the tables have their lengths after all
pub shape_of-firsts : goal.shape_of-firsts
shape_of-firsts c = c.gather_faces-faces.auto.firsts ∙ (c.first_broken-parents.auto.firsts ∙ c.first_overlap-overlap.auto.firsts)

pub shape_of-reach : goal.shape_of-reach
shape_of-reach c = c.gather_faces-faces.auto.reach ∙ (c.first_broken-parents.auto.reach ∙ c.first_overlap-overlap.auto.reach)

pub shape_of-levels : goal.shape_of-levels
shape_of-levels c = c.every_node.auto.levels

pub returns : goal.returns
returns c = c.every_node.ensures
