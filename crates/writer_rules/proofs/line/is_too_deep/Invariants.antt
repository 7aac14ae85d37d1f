-- The walk up: from here with what is left is as from the node itself with 32, whatever is added where its line is lawful.
use Prim.Native.Nat.{◌-◌, ◌<◌}
use mathlib.Core.Path.{◌≡◌}
use mathlib.Core.Bool.{true}
use Rattle.writer_model.specs.declared.Writer.{Writer}
use Rattle.writer_model.specs.Writer.{Addition, tree_with, line_lawful}
use Rattle.writer_rules.proofs.LineLaws.{Climb}
use Rattle.writer_rules.proofs.line.is_too_deep.Given as goal

abbrev pub invariant-loop : goal.invariant-loop
invariant-loop l = (s : Writer) (a : Addition) → a.parent ≡ l.parent → 0 < s.node → line_lawful (tree_with s a l.room) s.node s.node ≡ true
    → Climb (tree_with s a l.room) s.node (32 - l.counter) l.at
