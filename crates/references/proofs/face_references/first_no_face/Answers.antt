-- Every number before k refers to a face: numbers in the two intervals do, a number looked up where it is found, and so do those guessed.
use Rattle.ranges.proofs.Intervals.{none-covered}
use Rattle.section_data.proofs.TableLaws.{covered-is, missed_is}
use Rattle.section_data.proofs.Passing.{passed_none, passed_more, passed_on}
use Rattle.references.proofs.Failing.{failing_here, failing_none}
use Rattle.references.proofs.FaceLaws.{refers_by, known_faces}
use native.Mathlib.Omega.{arith}
use Rattle.references.proofs.face_references.first_no_face.Goals as goal

pub loop-k-init : goal.loop-k-init
loop-k-init c = (none-covered _ _ _ _, passed_none _ _ _ (omega arith))

pub returns-then-f-gt-MAX_NUMBER : goal.returns-then-f-gt-MAX_NUMBER
returns-then-f-gt-MAX_NUMBER c =
    failing_here c.loop-k.invariant.1 c.loop-k-test.true
    (refers_by _ _ _ _ _ _ c.magnitude_at-f.ensures (c.requires.numbers.1.small _ _ c.if-f-gt-MAX_NUMBER.true))

pub interval_around-requires : goal.interval_around-requires
interval_around-requires c =
    (c.requires.numbers.1.ordered, (omega (arith, c.requires.sound.1, c.requires.sound.0.laid.few), omega (arith, c.if-f-gt-MAX_NUMBER.false)))

pub returns-in_default : goal.returns-in_default
returns-in_default c =
    failing_here c.loop-k.invariant.1 c.loop-k-test.true
    (refers_by _ _ _ _ _ _ c.magnitude_at-f.ensures (missed_is c.requires.numbers.1 _ (omega (arith, c.if-f-gt-MAX_NUMBER.false))
    c.in_default.ensures))

pub first_outside-j-requires : goal.first_outside-j-requires
first_outside-j-requires c =
    record { numbers = (c.requires.numbers.0, omega (arith, c.loop-k-test.true)); size_bound = (c.in-Some.ensures.0.small, c.loop-k.invariant.0.small) }

pub overflow_add-k : goal.overflow_add-k
overflow_add-k c =
    omega (arith, c.loop-k-test.true, c.well_formed.1.1.0)

pub guessed_to-k-requires : goal.guessed_to-k-requires
guessed_to-k-requires c =
    record { sound = (c.requires.sound, c.jumps_to-end.ensures); numbers = c.requires.numbers; built = c.requires.built }

pub loop-k-smaller : goal.loop-k-smaller
loop-k-smaller c =
    let f = c.first_outside-j.ensures.from in
    omega (arith, c.loop-k-test.true, f, c.guessed_to-k.ensures.from)

pub loop-k-preserved : goal.loop-k-preserved
loop-k-preserved c =
    let g = c.requires.numbers.1 in
    let i = c.loop-k.invariant in (
      c.in-Some.ensures.0,
      passed_on (passed_on (passed_more i.1 (omega (arith, c.loop-k-test.true)) (refers_by _ _ _ _ _ _ c.magnitude_at-f.ensures
          (covered-is g _ c.in-Some.ensures.0 _ c.in-Some.ensures.1)))
          (known_faces _ g _ _ _ c.first_outside-j.ensures c.in-Some.ensures.0 i.0)) c.guessed_to-k.ensures,
    )

pub jumps_to-end-requires : goal.jumps_to-end-requires
jumps_to-end-requires c = (omega (arith, c.first_outside-j.ensures.from), c.first_outside-j.ensures.to)

pub returns : goal.returns
returns c = failing_none c.loop-k.invariant.1 (omega (arith, c.loop-k.invariant.1.to))
