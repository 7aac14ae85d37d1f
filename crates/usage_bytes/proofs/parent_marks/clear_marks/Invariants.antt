-- The bytes up to here have no marks, and the others are as they were.
use Rattle.usage_bytes.specs.ParentMarks.{Unmarked}
use Rattle.usage_bytes.proofs.parent_marks.clear_marks.Given as goal

abbrev pub invariant-loop-byte : goal.invariant-loop-byte
invariant-loop-byte l = Unmarked l.byte-index l.initial.byte-items l.byte-items
