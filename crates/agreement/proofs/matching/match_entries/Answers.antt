-- The run has come to entry k: the uses before it are matched.
use mathlib.Core.Path.{refl, sym, ◌∙◌}
use native.Mathlib.Omega.{arith}
use Rattle.section_data.proofs.TableLaws.{face-small}
use Rattle.face_places.proofs.Gathering.{few-ranges, face-there}
use Rattle.face_uses.proofs.Runs.{tables_kept, entry-face}
use Rattle.agreement.proofs.ArrayLaws.{array_is, array_stores, face-row}
use Rattle.agreement.proofs.CellLaws.{at_next}
use Rattle.agreement.proofs.EntryLaws.{found_at}
use Rattle.face_parents.proofs.Columns.{parents_most}
use Rattle.agreement.proofs.RunLaws.{users-end, cells_filled, element-is, start_none, no_uses, one_more}
use Rattle.agreement.proofs.Steps.{matched-then, matched-same, matched_stop}
use Rattle.agreement.proofs.matching.match_entries.Goals as goal

pub returns-then-row-eq0 : goal.returns-then-row-eq0
returns-then-row-eq0 c = no_uses c.requires.index.0.1 (sym c.references_of-row.ensures.long ∙ c.if-row-eq0.true)

pub span_of-span-requires : goal.span_of-span-requires
span_of-span-requires c = (c.references_of-row.ensures.each 0 (omega (arith, c.if-row-eq0.false))).cells.section

pub cell_offsets-offsets-requires : goal.cell_offsets-offsets-requires
cell_offsets-offsets-requires c = ((c.references_of-row.ensures.each 0 (omega (arith, c.if-row-eq0.false))).cells, c.span_of-span.ensures)

pub first_cell-cell-requires : goal.first_cell-cell-requires
first_cell-cell-requires c =
    let r = c.references_of-row in
    let w = c.cell_offsets-offsets.ensures in (w.numbers, (r.result.n, cells_filled r.ensures c.if-row-eq0.false c.span_of-span.ensures w))

pub loop-k-init : goal.loop-k-init
loop-k-init c =
    record {
      at = c.first_cell-cell.ensures;
      known = λ h. absurd (omega arith);
      done = start_none c.requires.index.0.1;
    }

pub cell_at-cell-requires : goal.cell_at-cell-requires
cell_at-cell-requires c =
    let w = c.cell_offsets-offsets.ensures in
    let f = cells_filled c.references_of-row.ensures c.if-row-eq0.false c.span_of-span.ensures w in
    record { numbers = (w.numbers, (f, c.loop-k-test.true)); at_most = c.loop-k.invariant.at }

pub entry_of-requires : goal.entry_of-requires
entry_of-requires c =
    let l = c.loop-k in
    let r = c.references_of-row.ensures in
    let h = c.loop-k-test.true in
    let m = face-small c.requires.tables.accepted.sound _ _ (entry-face (r.each l.k h)) in
    record { numbers = (r.numbers, h); k_bound = omega arith; ordered = c.requires.tables.ranges.gathered.ordered; built = ((c.requires.tables.tree, c.requires.index.1), omega arith) }

pub unwrap-j-requires : goal.unwrap-j-requires
unwrap-j-requires c =
    face-there c.requires.tables.accepted c.requires.tables.ranges _ _ (entry-face (c.references_of-row.ensures.each c.loop-k.k c.loop-k-test.true)) c.entry_of.ensures

pub array_at-array-requires : goal.array_at-array-requires
array_at-array-requires c =
    let l = c.loop-k in
    let a = c.requires.tables.accepted in
    let h = c.loop-k-test.true in
    let at = found_at c.requires.tables (rw c.unwrap-j.ensures at c.entry_of.ensures) in record { sound = ((a.sound, omega (arith, at.inside, c.requires.arrays.room)), rw (array_is a c.requires.arrays at) (parents_most _ _)); stores_columns = (array_stores a c.requires.arrays at, λ e. rw e (l.invariant.known (omega (arith, at.inside, few-ranges a c.requires.tables.ranges)))) }

pub match_entry-requires : goal.match_entry-requires
match_entry-requires c =
    let l = c.loop-k in
    let r = c.references_of-row.ensures in
    let h = c.loop-k-test.true in
    let e = rw c.unwrap-j.ensures at c.entry_of.ensures in
    record { numbers = (r.numbers, h); tables = tables_kept c.requires.tables l.invariant.done.kept.long; found_for = e; parent_row = face-row c.requires.tables.accepted c.requires.arrays (found_at c.requires.tables e) c.array_at-array.ensures }

pub returns-then-not-match_entry : goal.returns-then-not-match_entry
returns-then-not-match_entry c =
    let l = c.loop-k in
    let r = c.references_of-row.ensures in
    let h = c.loop-k-test.true in
    let q = element-is r c.if-row-eq0.false c.span_of-span.ensures c.cell_offsets-offsets.ensures c.cell_at-cell.ensures in
    let m = one_more (r.each l.k h) (omega (arith, h, r.long)) q c.match_entry.ensures in
    matched-then l.invariant.done (matched_stop (c.if-not-match_entry.true) m)

pub loop-k-preserved : goal.loop-k-preserved
loop-k-preserved c =
    let l = c.loop-k in
    let r = c.references_of-row.ensures in
    let h = c.loop-k-test.true in
    let q = element-is r c.if-row-eq0.false c.span_of-span.ensures c.cell_offsets-offsets.ensures c.cell_at-cell.ensures in
    let m = one_more (r.each l.k h) (omega (arith, h, r.long)) q c.match_entry.ensures in
    record {
      at = at_next c.cell_at-cell.ensures;
      known = λ _. c.array_at-array.ensures;
      done = matched-then l.invariant.done (rw c.if-not-match_entry.false at m);
    }

pub returns : goal.returns
returns c =
    let l = c.loop-k in
    matched-same (λ f. refl) (λ f. users-end _ _ _ f l.k (omega (arith, c.references_of-row.ensures.long))) l.invariant.done
