-- The node itself, then the records above it.
use native.Mathlib.Omega.{arith}
use mathlib.Core.Path.{◌∙◌}
use Rattle.writer_rules.proofs.LineLaws.{line_root, line_off, line_up, given-parent}
use Rattle.writer_rules.proofs.line.line_lawful.Goals as goal

pub returns-then-node-eq0 : goal.returns-then-node-eq0
returns-then-node-eq0 c =
    let p = c.args in
    λ a e. line_root _ _ (given-parent p.state a p.room.now e) (omega arith)

pub returns-then-node-parent : goal.returns-then-node-parent
returns-then-node-parent c =
    let p = c.args in
    λ a e. line_off _ _ (given-parent p.state a p.room.now e) c.if-node-eq0.false (omega arith)

pub returns : goal.returns
returns c =
    let p = c.args in
    λ a e. c.records_lawful.ensures a
    ∙ line_up _ _ (given-parent p.state a p.room.now e) c.if-node-eq0.false (omega arith)
