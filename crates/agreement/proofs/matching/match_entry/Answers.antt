-- The face's place, and its two parents, tell what the use is matched with.
use mathlib.Core.Path.{sym, ◌∙◌}
use native.Mathlib.Omega.{arith}
use Rattle.face_places.proofs.Gathering.{few-ranges}
use Rattle.agreement.proofs.EntryLaws.{found_at, unasked, first-inside, second-inside, matched_use}
use Rattle.agreement.proofs.matching.match_entry.Goals as goal

pub returns-then-array-eq0 : goal.returns-then-array-eq0
returns-then-array-eq0 c left =
    unasked c.requires.tables.accepted (found_at c.requires.tables c.requires.found_for) c.requires.parent_row c.if-array-eq0.true _ _ left

pub offset_bounds-firsts-j : goal.offset_bounds-firsts-j
offset_bounds-firsts-j c =
    omega (arith, (found_at c.requires.tables c.requires.found_for).inside, few-ranges c.requires.tables.accepted c.requires.tables.ranges)

pub bounds-firsts-j : goal.bounds-firsts-j
bounds-firsts-j c =
    omega (arith, (found_at c.requires.tables c.requires.found_for).inside, c.requires.tables.ranges.gathered.ordered.firsts_rise.rise.room)

pub overflow_sub-d : goal.overflow_sub-d
overflow_sub-d c = omega (arith, (found_at c.requires.tables c.requires.found_for).from, c.magnitude_at-f.ensures)

pub place_of-p-requires : goal.place_of-p-requires
place_of-p-requires c =
    let w = found_at c.requires.tables c.requires.found_for in
    let e = c.magnitude_at-f.ensures in record { j_in_bounds = (omega (arith, w.inside, c.requires.tables.ranges.gathered.ordered.firsts_rise.rise.room), omega (arith, w.inside, c.requires.tables.ranges.room)); j_bound = (omega (arith, w.from, e), omega (arith, w.small, e)) }

pub number_at-requires : goal.number_at-requires
number_at-requires c =
    let w = found_at c.requires.tables c.requires.found_for in
    (c.requires.parent_row.numbers, omega (arith, first-inside c.requires.tables.accepted w c.requires.parent_row c.if-array-eq0.false, c.magnitude_at-f.ensures))

pub overflow_add-array : goal.overflow_add-array
overflow_add-array c =
    let w = found_at c.requires.tables c.requires.found_for in
    omega (arith, second-inside c.requires.tables.accepted w c.requires.parent_row c.if-array-eq0.false, c.magnitude_at-f.ensures)

pub number_at-requires-2 : goal.number_at-requires-2
number_at-requires-2 c =
    let w = found_at c.requires.tables c.requires.found_for in
    (c.requires.parent_row.numbers, omega (arith, second-inside c.requires.tables.accepted w c.requires.parent_row c.if-array-eq0.false, c.magnitude_at-f.ensures))

pub match_parent-requires : goal.match_parent-requires
match_parent-requires c =
    let w = found_at c.requires.tables c.requires.found_for in
    omega (arith, c.place_of-p.ensures, w.place, w.below, c.requires.tables.room, c.magnitude_at-f.ensures)

pub returns : goal.returns
returns c =
    let e = c.magnitude_at-f.ensures in
    let w = found_at c.requires.tables c.requires.found_for in
    matched_use c.requires.tables.accepted w c.requires.parent_row c.if-array-eq0.false c.args.cell c.args.out.now (c.place_of-p.ensures ∙ rw e (sym w.place))
    (c.number_at.ensures ∙ rw e) (c.number_at-2.ensures ∙ rw e) c.requires.tables.room c.match_parent.ensures
