-- Each turn stores the entry of the next section: what is written are the entries of the sections visited.
use mathlib.Core.Path.{◌≡◌, refl, ◌∙◌}
use lib.ListN.{length}
use Rattle.model.specs.Lists.{over}
use Rattle.model.specs.Image.{tree_of}
use Rattle.model.specs.Sections.{section_nodes, entries, all_numbers}
use Rattle.sections.proofs.Filling.{none_visited, some_left, next-entry, one_visited, store_numbers, all_taken}
use native.Mathlib.Omega.{arith}
use Rattle.sections.proofs.numbers.fill.Goals as goal

pub loop-k-init : goal.loop-k-init
unfolding over entries all_numbers
loop-k-init c = ((omega arith, none_visited _ c.requires.accepted.0.sound _ c.requires.accepted.1), (refl, refl))

pub entry_after-e-requires : goal.entry_after-e-requires
entry_after-e-requires c =
    let v = c.loop-k.invariant.0.1 in
    record { indexed = c.requires.index; accepted = c.requires.accepted.0; inside = v.inside; some = some_left v (omega arith) }

pub loop-k-preserved : goal.loop-k-preserved
loop-k-preserved c =
    let i = c.loop-k.invariant in
    let e = c.entry_after-e.ensures in (
      (omega arith, one_visited i.0.1 (omega arith) c.requires.accepted.0 e),
      (
        c.put_entry.auto.out ∙ i.1.0,
        c.put_entry.ensures ∙ store_numbers _ _ _ (omega arith) _ _ _ i.1.1 (next-entry i.0.1 (omega arith) e) (omega arith),
      ),
    )

pub shape_of-out : goal.shape_of-out
shape_of-out c = c.loop-k.invariant.1.0

pub returns : goal.returns
returns c =
    let a = c.args in
    let e : c.loop-k.k ≡ length (section_nodes (tree_of a.image.now) a.zone) = omega arith in
    rw (e, all_taken) at c.loop-k.invariant.1.1
