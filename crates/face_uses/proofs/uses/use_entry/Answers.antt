-- The entry that holds the face tells its place, and the use is made there.
use mathlib.Core.Path.{sym, ◌∙◌}
use native.Mathlib.Omega.{arith}
use Rattle.face_places.proofs.Gathering.{At, face-found}
use Rattle.face_uses.proofs.Runs.{use_is}
use Rattle.face_uses.proofs.uses.use_entry.Goals as goal
use Rattle.face_uses.proofs.uses.use_entry.Goals.{After-magnitude_at-f, After-place_of-p, After-use_face}

-- the entry that holds it
found : (m : After-magnitude_at-f) → let a = m.args in
    At a.image.now a.faces.zone a.firsts.now a.places.now a.faces.count m.magnitude_at-f.result a.j
found m =
    face-found m.requires.tables.accepted m.requires.tables.ranges (rw m.magnitude_at-f.ensures m.requires.found_for)

pub place_of-p-requires : goal.place_of-p-requires
place_of-p-requires c =
    let w = found c in
    record { j_in_bounds = (omega (arith, w.inside, c.requires.tables.ranges.gathered.ordered.firsts_rise.rise.room), omega (arith, w.inside, c.requires.tables.ranges.room)); j_bound = (w.from, w.small) }

pub use_face-requires : goal.use_face-requires
use_face-requires c =
    let p = (goal.at.use_face-requires c).After-place_of-p in
    let w = found (goal.at.use_face-requires c).After-magnitude_at-f in
    omega (arith, p.place_of-p.ensures, w.place, w.below, p.requires.tables.room)

pub returns : goal.returns
returns c =
    let s = (goal.at.returns c).After-use_face in
    let p = (goal.at.returns c).After-place_of-p in
    use_is _ _ _ _ _ p.magnitude_at-f.ensures (p.place_of-p.ensures ∙ sym (found (goal.at.returns c).After-magnitude_at-f).place) s.is_negative.ensures
    s.use_face.ensures
