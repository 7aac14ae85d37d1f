-- Each field is a word of the bytes, and so a number of the list that the words make.
use Prim.Native.Nat.{ℕ, ◌<◌, ◌*◌}
use mathlib.Core.Path.{◌≡◌, sym}
use native.Mathlib.Omega.{arith}
use lib.ListN.{get_or, drop}
use Rattle.model.specs.Bytes.{le, numbers}
use Rattle.model.specs.Sections.{entry_length}
use Rattle.model.specs.Reads.{section_at}
use Rattle.model.specs.Exports.{section_in}
use Rattle.model.proofs.Reading.{numbers-at}
use Rattle.entries.proofs.section_in.Goals as goal

pub returns : goal.returns
unfolding section_in section_at
returns c =
    let s = c.args.s.now in
    let w : (k : ℕ) → k < entry_length → le 8 (drop (8 * k) s) ≡ get_or (numbers 8 entry_length s) k 0 = λ k h. sym (numbers-at 8 entry_length k s h) in
    cc (
      w 0 (omega arith),
      w 1 (omega arith),
      w 2 (omega arith),
      w 3 (omega arith),
      w 4 (omega arith),
      w 5 (omega arith),
      w 6 (omega arith),
      w 7 (omega arith),
      w 8 (omega arith),
      w 9 (omega arith),
      w 10 (omega arith),
    )
