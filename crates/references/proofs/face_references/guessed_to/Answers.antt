-- Every number before j refers to a face.
use Prim.Native.Nat.{◌-◌, ◌%◌}
use mathlib.Core.Path.{◌≡◌, refl, sym, ◌∙◌}
use Rattle.section_data.proofs.Passing.{passed_none, passed_on}
use native.Mathlib.Omega.{arith}
use Rattle.references.proofs.face_references.guessed_to.Goals as goal

pub loop-j-init : goal.loop-j-init
loop-j-init c = ((passed_none _ _ _ (omega arith), (omega arith, omega arith)), refl)

pub slice_bounds-guess_eight-end : goal.slice_bounds-guess_eight-end
slice_bounds-guess_eight-end c = sym c.loop-j.invariant.1

pub guess_eight-requires : goal.guess_eight-requires
guess_eight-requires c =
    record { numbers = (c.requires.numbers.0, omega (arith, c.requires.sound.1)); built = (c.requires.built, omega (arith, c.loop-j.invariant.1)) }

pub slice_bounds-eight_refer-end : goal.slice_bounds-eight_refer-end
slice_bounds-eight_refer-end c = sym (c.guess_eight.auto.entries ∙ c.loop-j.invariant.1)

pub eight_refer-requires : goal.eight_refer-requires
eight_refer-requires c =
    record { sound = c.requires.sound.0; numbers = ((c.requires.numbers.0, omega (arith, c.requires.sound.1)), c.requires.numbers.1); in_bounds = omega (arith, c.guess_eight.auto.entries, c.loop-j.invariant.1) }

pub returns-then-not-eight_refer : goal.returns-then-not-eight_refer
returns-then-not-eight_refer c = c.loop-j.invariant.0.0

pub loop-j-preserved : goal.loop-j-preserved
loop-j-preserved c =
    let l = c.loop-j in (
      (passed_on l.invariant.0.0 (c.eight_refer.ensures (c.if-not-eight_refer.false)), (omega arith, omega arith)),
      c.guess_eight.auto.entries ∙ l.invariant.1,
    )

pub returns : goal.returns
returns c = let e : c.loop-j.j ≡ c.args.end - (c.args.end - c.args.k) % 8 = omega arith in rw e at c.loop-j.invariant.0.0
