-- Four tests in order; nothing overflows, since the room without data is below the limit.
use native.Mathlib.Omega.{arith}
use Prim.Native.Nat.{ℕ, ◌≤◌}
use mathlib.Core.Path.{◌≡◌, sym, ◌∙◌}
use mathlib.Core.Bool.{true}
use mathlib.Core.List.{[], ◌∷◌}
use lib.Dec.{leb}
use borrow.Author.Tests.{le-leb, lt-leb, leb-true}
use Rattle.model.specs.Rules.{Check, check, ◌unless◌}
use Rattle.model.proofs.Logic.{and_second}
use Rattle.model.proofs.Staging.{holds, fails, no_rule}
use Rattle.table.specs.Groups.{is_within}
use Rattle.writer_model.specs.Writer.{room_for, start_check}
use Rattle.writer.proofs.start_stage.Goals as goal
use Rattle.writer.proofs.start_stage.Goals.{After-room_for-base, Else-base-bytes, Else-not-is_within}

pub returns-then-not-is_within : goal.returns-then-not-is_within
unfolding start_check
returns-then-not-is_within c = fails 0 4 _ (sym c.is_within.ensures ∙ c.if-not-is_within.true) c.reject.ensures

-- rule 4 holds
some : (g : Else-not-is_within) → is_within g.args.nodes 1 4096 ≡ true
some g = sym g.is_within.ensures ∙ g.if-not-is_within.false

few : (g : Else-not-is_within) → g.args.nodes ≤ 4096
few g = leb-true _ 4096 (and_second (leb 1 g.args.nodes) _ (some g))

pub returns-then-words-gt-MAX_WORDS : goal.returns-then-words-gt-MAX_WORDS
unfolding start_check
returns-then-words-gt-MAX_WORDS c = holds 0 4 _ (some (goal.at.returns-then-words-gt-MAX_WORDS c).Else-not-is_within) (fails 0 5 _ (lt-leb _ _ c.if-words-gt-MAX_WORDS.true) c.reject-then-words-gt-MAX_WORDS.ensures)

pub room_for-base-requires : goal.room_for-base-requires
room_for-base-requires c = (omega (arith, few (goal.at.room_for-base-requires c).Else-not-is_within), (omega (arith, c.if-words-gt-MAX_WORDS.false), omega arith))

-- the room without data
pub overflow_sub-base : goal.overflow_sub-base
unfolding room_for
overflow_sub-base c = omega (arith, c.room_for-base.ensures, few (goal.at.overflow_sub-base c).Else-not-is_within, c.if-words-gt-MAX_WORDS.false)

-- rules 4 and 5 hold
left : {x : Check} (r : After-room_for-base) → let a = r.args in
    x ≡ check 0 (1 unless leb (room_for a.nodes a.words a.bytes) 16777216 ∷ 46 unless leb (room_for a.nodes a.words a.bytes) a.room ∷ [])
    → x ≡ start_check a.nodes a.words a.bytes a.room
unfolding start_check
left r e = holds 0 4 _ (sym r.is_within.ensures ∙ r.if-not-is_within.false) (holds 0 5 _ (le-leb _ _ r.if-words-gt-MAX_WORDS.false) e)

abbrev room : After-room_for-base → ℕ
room r = r.args.room

abbrev total : After-room_for-base → ℕ
total r = let a = r.args in room_for a.nodes a.words a.bytes

pub returns-then-base-bytes : goal.returns-then-base-bytes
unfolding room_for
returns-then-base-bytes c =
    let r = (goal.at.returns-then-base-bytes c).After-room_for-base in
    left r (fails 0 1 _ (lt-leb (total r) 16777216 (omega (arith, r.room_for-base.ensures, c.if-base-bytes.true))) c.reject-then-base-bytes.ensures)

pub overflow_add-base : goal.overflow_add-base
overflow_add-base c = omega (arith, c.if-base-bytes.false)

pub returns-then-room-base : goal.returns-then-room-base
unfolding room_for
returns-then-room-base c =
    let g = (goal.at.returns-then-room-base c).Else-base-bytes in
    let r = (goal.at.returns-then-room-base c).After-room_for-base in
    left r (holds 0 1 _ (le-leb (total r) 16777216 (omega (arith, r.room_for-base.ensures, overflow_sub-base r, g.if-base-bytes.false))) (fails 0 46 _ (lt-leb (total r) (room r) (omega (arith, r.room_for-base.ensures, c.if-room-base.true))) c.reject-then-room-base.ensures))

pub returns : goal.returns
unfolding room_for
returns c =
    let g = (goal.at.returns c).Else-base-bytes in
    let r = (goal.at.returns c).After-room_for-base in
    left r (holds 0 1 _ (le-leb (total r) 16777216 (omega (arith, r.room_for-base.ensures, overflow_sub-base r, g.if-base-bytes.false))) (holds 0 46 _ (le-leb (total r) (room r) (omega (arith, r.room_for-base.ensures, c.if-room-base.false))) (sym (no_rule 0))))
