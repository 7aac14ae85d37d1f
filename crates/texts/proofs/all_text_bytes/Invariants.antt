-- How many of the bytes before x may not stand.
use Rattle.std.proofs.Common.{◌≡◌, ◌≤◌, take}
use Rattle.std.specs.List.{sum_by}
use Rattle.texts.specs.Texts.{bad_byte}
use Rattle.texts.proofs.all_text_bytes.Given as goal

abbrev pub invariant-loop-x : goal.invariant-loop-x
invariant-loop-x l = (l.n ≤ l.x-index) × (l.n ≡ sum_by (bad_byte l.barred) (take l.x-index l.text))
