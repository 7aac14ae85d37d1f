-- Each offset is its sum, and the data length is what the total leaves after the last of them.
use native.Mathlib.Omega.{arith}
use Prim.Native.Nat.{◌+◌}
use mathlib.Core.Path.{◌≡◌}
use borrow.Author.Tests.{eq-eqb, ne_eqb}
use Rattle.table.proofs.Laws.{rest-is}
use Rattle.table.proofs.header.laid_out.Goals as goal

pub returns-then-record_at-ne-HEADER_SIZE : goal.returns-then-record_at-ne-HEADER_SIZE
returns-then-record_at-ne-HEADER_SIZE c = simp (ne_eqb _ _ c.if-record_at-ne-HEADER_SIZE.true)

pub returns-then-words_at-nodes : goal.returns-then-words_at-nodes
returns-then-words_at-nodes c = simp (eq-eqb _ _ c.if-record_at-ne-HEADER_SIZE.false, ne_eqb _ _ c.if-words_at-nodes.true)

pub returns-then-data_at-nodes : goal.returns-then-data_at-nodes
returns-then-data_at-nodes c = simp (eq-eqb _ _ c.if-record_at-ne-HEADER_SIZE.false, eq-eqb _ _ c.if-words_at-nodes.false, ne_eqb _ _ c.if-data_at-nodes.true)

pub returns-then-total-data_at : goal.returns-then-total-data_at
returns-then-total-data_at c =
    let h = c.args.h in
    simp (
      eq-eqb _ _ c.if-record_at-ne-HEADER_SIZE.false,
      eq-eqb _ _ c.if-words_at-nodes.false,
      eq-eqb _ _ c.if-data_at-nodes.false,
      ne_eqb
          (h.data_offset + h.data_length) h.total_length (λ (e : h.data_offset + h.data_length ≡ h.total_length). absurd (omega arith)),
    )

pub returns : goal.returns
returns c =
    let h = c.args.h in
    rw (eq-eqb _ _ c.if-record_at-ne-HEADER_SIZE.false, eq-eqb _ _ c.if-words_at-nodes.false, eq-eqb _ _ c.if-data_at-nodes.false)
    (rest-is h.data_offset h.data_length h.total_length (omega arith))
