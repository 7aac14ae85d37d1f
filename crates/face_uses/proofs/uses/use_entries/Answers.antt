-- The whole run is the rest from entry k on, over the bytes that the uses before it left.
use Prim.Native.Nat.{◌+◌, ◌-◌}
use mathlib.Core.Path.{refl, sym, ap, ◌∙◌}
use Rattle.model.specs.Rules.{repetition}
use Rattle.model.specs.Image.{tree_of}
use Rattle.model.specs.FaceUsage.{use_entries}
use Rattle.section_data.proofs.TableLaws.{face-small}
use Rattle.face_places.proofs.Gathering.{face-there}
use Rattle.face_uses.proofs.Runs.{tables_kept, left_more, left_stop, left-done, entries_start, entries_step, entries-end}
use Rattle.face_uses.proofs.Runs.{entry-face, entry-used, entry_repeated}
use native.Mathlib.Omega.{arith}
use Rattle.face_uses.proofs.uses.use_entries.Goals as goal

pub references_of-row-requires : goal.references_of-row-requires
references_of-row-requires c = (c.requires.tables.accepted, c.requires.index.0)

pub loop-k-init : goal.loop-k-init
loop-k-init c = ((omega arith, refl), entries_start _ _ _ c.references_of-row.ensures.long _ _)

pub slice_bounds-entry_of-end : goal.slice_bounds-entry_of-end
slice_bounds-entry_of-end c = sym c.loop-k.invariant.0.1

pub entry_of-requires : goal.entry_of-requires
entry_of-requires c =
    let r = c.references_of-row.ensures in
    let h = c.loop-k-test.true in
    let m = face-small c.requires.tables.accepted.sound _ _ (entry-face (r.each c.loop-k.k h)) in
    record { numbers = (r.numbers, h); k_bound = omega arith; ordered = c.requires.tables.ranges.gathered.ordered; built = ((c.requires.tables.tree, c.requires.index.1), omega (arith, c.loop-k.invariant.0.1)) }

pub unwrap-j-requires : goal.unwrap-j-requires
unwrap-j-requires c =
    face-there c.requires.tables.accepted c.requires.tables.ranges _ _ (entry-face (c.references_of-row.ensures.each c.loop-k.k c.loop-k-test.true)) c.entry_of.ensures

pub use_entry-requires : goal.use_entry-requires
use_entry-requires c =
    let r = c.references_of-row.ensures in
    let h = c.loop-k-test.true in record { numbers = (r.numbers, h); tables = tables_kept c.requires.tables c.loop-k.invariant.1.long; found_for = rw c.unwrap-j.ensures at c.entry_of.ensures }

pub element_holding-e-requires : goal.element_holding-e-requires
element_holding-e-requires c =
    (c.references_of-row.ensures.each c.loop-k.k c.loop-k-test.true).cells

pub shape_of-out-then-not-use_entry : goal.shape_of-out-then-not-use_entry
shape_of-out-then-not-use_entry c =
    c.use_entry.auto.out ∙ c.loop-k.invariant.1.long

pub returns-then-not-use_entry : goal.returns-then-not-use_entry
returns-then-not-use_entry c =
    let a = c.args in
    let n = c.references_of-row in
    let h = c.loop-k-test.true in
    left_stop c.loop-k.invariant.1 (λ later. use_entries (tree_of a.image.now) a.s (n.result.n - (c.loop-k.k + 1)) (c.loop-k.k + 1) later)
    (entries_step _ _ _ _ _ h)
    (entry_repeated (n.ensures.each c.loop-k.k h) c.loop-k.out c.use_entry.ensures c.requires.tables.accepted (c.if-not-use_entry.true)
    (c.repeated.ensures ∙ ap (repetition a.s) c.element_holding-e.ensures)) refl

pub loop-k-preserved : goal.loop-k-preserved
loop-k-preserved c =
    let a = c.args in
    let n = c.references_of-row in
    let h = c.loop-k-test.true in (
      (omega arith, c.entry_of.auto.guesses ∙ c.loop-k.invariant.0.1),
      left_more c.loop-k.invariant.1 (λ later. use_entries (tree_of a.image.now) a.s (n.result.n - (c.loop-k.k + 1)) (c.loop-k.k + 1) later)
          (entries_step _ _ _ _ _ h)
          (entry-used (n.ensures.each c.loop-k.k h) c.loop-k.out c.use_entry.ensures c.requires.tables.accepted (c.if-not-use_entry.false))
          refl c.use_entry.auto.out,
    )

pub shape_of-out : goal.shape_of-out
shape_of-out c = c.loop-k.invariant.1.long

pub returns : goal.returns
returns c = left-done c.loop-k.invariant.1 (entries-end _ _ _ _ _ c.loop-k-test.false)
