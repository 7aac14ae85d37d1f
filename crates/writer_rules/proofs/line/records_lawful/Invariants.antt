-- The walk up: the line from here is lawful as that from record i is, whatever is added.
use Prim.Native.Nat.{◌≤◌, ◌<◌}
use mathlib.Core.Path.{◌≡◌}
use Rattle.writer_model.specs.declared.Writer.{Writer}
use Rattle.writer_model.specs.Writer.{Addition, tree_with, line_lawful}
use Rattle.writer_rules.proofs.line.records_lawful.Given as goal

abbrev pub invariant-loop-at : goal.invariant-loop-at
invariant-loop-at l = (l.at ≤ l.i) × ((s : Writer) (a : Addition) → l.i < s.node → line_lawful (tree_with s a l.room) l.at l.at ≡ line_lawful (tree_with s a l.room) l.i l.i)

abbrev pub decreases-loop-at : goal.decreases-loop-at
decreases-loop-at l = l.at
