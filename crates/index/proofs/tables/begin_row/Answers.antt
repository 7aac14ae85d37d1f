-- Four writes; nothing else changes.
use Prim.Native.Nat.{ℕ, ◌+◌, ◌*◌}
use mathlib.Core.Path.{◌≡◌, ◌∙◌}
use mathlib.Core.List.{List}
use lib.ListN.{length, set, length-set}
use Rattle.labels.specs.Roles.{kind_number}
use Rattle.index.proofs.Marking.{row_begun}
use native.Mathlib.Omega.{arith}
use Rattle.index.proofs.tables.begin_row.Goals as goal

pub returns : goal.returns
returns c = rw c.kind_number.ensures (row_begun c.args.index.now c.args.j (kind_number c.args.kind) c.requires.1)

-- the lengths of the index after each write
module _ (s : List ℕ) (a v : ℕ) where
  one : length (set s a v) ≡ length s
  one = length-set s a v

  two : length (set (set s a v) (a + 1) 0) ≡ length s
  two = length-set (set s a v) (a + 1) 0 ∙ one

  three : length (set (set (set s a v) (a + 1) 0) (a + 2) 0) ≡ length s
  three = length-set (set (set s a v) (a + 1) 0) (a + 2) 0 ∙ two

pub bounds-index-j-2 : goal.bounds-index-j-2
bounds-index-j-2 c = rw (one c.args.index.now (4 * c.args.j) (4096 * c.kind_number.result)) (omega arith)

pub bounds-index-j-3 : goal.bounds-index-j-3
bounds-index-j-3 c = rw (two c.args.index.now (4 * c.args.j) (4096 * c.kind_number.result)) (omega arith)

pub bounds-index-j-4 : goal.bounds-index-j-4
bounds-index-j-4 c = rw (three c.args.index.now (4 * c.args.j) (4096 * c.kind_number.result)) (omega arith)
