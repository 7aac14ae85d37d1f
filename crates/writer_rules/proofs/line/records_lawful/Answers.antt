-- The walk up: the line from here is lawful as that from record i is, whatever is added.
use native.Mathlib.Omega.{arith}
use mathlib.Core.Path.{◌≡◌, refl, ◌∙◌}
use Rattle.writer_rules.proofs.LineLaws.{line_root, line_off, line_up, read_parent}
use Rattle.writer_rules.proofs.line.records_lawful.Goals as goal

pub loop-at-init : goal.loop-at-init
loop-at-init c = (omega arith, λ s a h. refl)

pub returns-then-at-up : goal.returns-then-at-up
returns-then-at-up c =
    λ a. line_off _ _ (read_parent c.args.state a c.args.room.now c.parent_in-up.ensures.0 (omega (arith, c.requires.0)))
    (omega arith) (omega arith) ∙ c.loop-at.invariant.1 c.args.state a c.requires.0

pub loop-at-preserved : goal.loop-at-preserved
loop-at-preserved c = (
  omega arith,
  λ s a h. line_up _ _ (read_parent s a c.args.room.now c.parent_in-up.ensures.0 (omega arith)) (omega arith) (omega arith)
      ∙ c.loop-at.invariant.1 s a h,
)

pub returns : goal.returns
returns c =
    let z : c.loop-at.at ≡ 0 = omega arith in
    λ a. line_root _ _ (read_parent c.args.state a c.args.room.now c.parent_in.ensures.0 (omega (arith, c.requires.0))) (omega arith)
    ∙ rw z at (c.loop-at.invariant.1 c.args.state a c.requires.0)
