-- The walk up: from here with what is left is as from the node itself with 32, whatever is added where its line is lawful.
use native.Mathlib.Omega.{arith}
use Prim.Native.Nat.{◌+◌, ◌-◌}
use mathlib.Core.Path.{◌≡◌, refl, sym, ap, ◌∙◌}
use mathlib.Core.List.{[]}
use Rattle.model.specs.Records.{deeper_than}
use Rattle.table.proofs.Laws.{deeper_root}
use Rattle.writer_model.specs.Writer.{addition}
use Rattle.writer_rules.proofs.LineLaws.{read_parent, given-parent, climb_start, climb_root, climb_on, climb_end}
use Rattle.writer_rules.proofs.line.is_too_deep.Goals as goal

pub returns-then-state-eq0 : goal.returns-then-state-eq0
returns-then-state-eq0 c = λ a e. sym (deeper_root _ 32) ∙ ap (deeper_than _ 32) (sym c.if-state-eq0.true)

pub loop-init : goal.loop-init
loop-init c =
    λ s a e h y. climb_start _ _ (given-parent s a c.args.room.now e) (omega arith) y

pub returns-then-at-eq0 : goal.returns-then-at-eq0
returns-then-at-eq0 c =
    λ a e. climb_root (c.loop.invariant c.args.state a e (omega (arith, c.if-state-eq0.false)) (c.requires.node_value a e)) c.if-at-eq0.true

pub parent_in-at-requires : goal.parent_in-at-requires
parent_in-at-requires c =
    let a = addition [] [] [] [] c.args.parent [] in
    let b = (c.loop.invariant c.args.state a refl (omega (arith, c.if-state-eq0.false)) (c.requires.node_value a refl)).below in
    (omega (arith, b), omega (arith, b, c.requires.node_in_bounds))

pub loop-preserved : goal.loop-preserved
loop-preserved c =
    λ s a e h y.
    let k = c.loop.invariant s a e h y in
    let f : 32 - (c.loop.counter + 1) ≡ 32 - c.loop.counter - 1 = omega arith in
    rw f (climb_on k (read_parent s a c.args.room.now c.parent_in-at.ensures.0 k.below) (omega arith) c.if-at-eq0.false)

pub returns : goal.returns
returns c =
    λ a e. climb_end (c.loop.invariant c.args.state a e (omega (arith, c.if-state-eq0.false)) (c.requires.node_value a e)) (omega arith)
