-- Runs of reads: every list of reads has one, and each read of a run finds and leaves the state that was given.
use Prim.Native.Nat.{ℕ, ◌≤◌, ◌<◌}
use mathlib.Core.Path.{◌≡◌, refl, sym, ◌∙◌}
use mathlib.Core.List.{List, [], ◌∷◌}
use lib.IntN.{ℤ}
use borrow.Author.Tests.{lt-ltb, le-ltb}
use Rattle.std.specs.Prelude.{Result, Ok, Err}
use Rattle.model.specs.declared.Rejection.{Rejection}
use Rattle.model.specs.Rules.{Answer, rejected, answer, rejection, check, ◌then◌}
use Rattle.model.specs.Corner.{corner_answer}
use Rattle.model.specs.Answers.{corner_tells}
use Rattle.model.specs.Reads.{CornerRead, EntryRead, entries_in, section_at, read_answer, ReadState, Request, ReadMade, IsRead, ReadRun, done, next, AllOf}
use Rattle.model.specs.Reads.{all_none, all_more}

-- a read with an entry of the list is the corner reader's
pub read_listed : (image entries : List ℕ) (k element corner : ℕ) → k < entries_in entries
    → read_answer image entries k element corner ≡ corner_answer image (section_at entries k) element corner
unfolding read_answer check ◌then◌
read_listed image entries k element corner h = rw (lt-ltb k (entries_in entries) h)

-- and 40 where the list has none
pub read_unlisted : (image entries : List ℕ) (k element corner : ℕ) → entries_in entries ≤ k
    → read_answer image entries k element corner ≡ rejected (rejection 40 0)
unfolding read_answer check ◌then◌
read_unlisted image entries k element corner h = rw (le-ltb k (entries_in entries) h)

-- so the corner reader's contract gives the contract of a read with an entry of a list
pub entry_read : {image entries image' entries' : List ℕ} {k element corner : ℕ} {r : Result ℤ Rejection} → k < entries_in entries
    → CornerRead image (section_at entries k) element corner r image' → entries' ≡ entries → EntryRead image entries k element corner r image' entries'
entry_read {image} {entries} {k = k} {element = element} {corner = corner} h c e =
    record { answers = c.answers ∙ sym (read_listed image entries k element corner h); image-kept = c.image-kept; entries-kept = e }

-- every answer is told by some case of the enum
corner_of : Answer ℤ → Result ℤ Rejection
corner_of (rejected r) = Err r
corner_of (answer n) = Ok n

tells : (a : Answer ℤ) → corner_tells (corner_of a) ≡ a
unfolding corner_of
tells (rejected r) = refl
tells (answer n) = refl

step_from : ReadState → Request → ReadMade
step_from s q =
    record {
      found = s;
      asked = q;
      answered = corner_of (read_answer s.image s.entries q.which q.element q.corner);
      left = s;
    }

pub run_exists : (s : ReadState) (qs : List Request) → (ms : List ReadMade) × ReadRun s qs ms s
unfolding step_from
run_exists s [] = ([], done)
run_exists s (q ∷ qs) =
    let later = run_exists s qs in
    (step_from s q ∷ later.0, next (record { answers = tells _; image-kept = refl; entries-kept = refl }) later.1)

same-state : (image entries image' entries' : List ℕ) → image' ≡ image → entries' ≡ entries
    → ◌≡◌ {A = ReadState} (record { image = image'; entries = entries' }) (record { image = image; entries = entries })
same-state image entries image' entries' p q = cc

-- a read leaves what it finds
pub read_leaves : (m : ReadMade) → IsRead m → m.left ≡ m.found
read_leaves m r = same-state m.found.image m.found.entries m.left.image m.left.entries r.image-kept r.entries-kept

pub run_leaves : {s end : ReadState} {qs : List Request} {ms : List ReadMade} → ReadRun s qs ms end → end ≡ s
run_leaves done = refl
run_leaves (next {m} r later) = run_leaves later ∙ read_leaves m r

first_of : {A : Type 0} {P : A → Type 0} {x : A} {xs : List A} → AllOf P (x ∷ xs) → P x
first_of (all_more h hs) = h

rest_of : {A : Type 0} {P : A → Type 0} {x : A} {xs : List A} → AllOf P (x ∷ xs) → AllOf P xs
rest_of (all_more h hs) = hs

-- a read from a state, with what it was asked: one step of a run of listed reads
pub record ReadKept (s : ReadState) (P : Request → Type 0) (m : ReadMade) : Type 0 where
  pub is_read : IsRead m
  pub finds : m.found ≡ s
  pub leaves : m.left ≡ s
  pub listed : P m.asked

pub run_kept : {s end : ReadState} {P : Request → Type 0} {qs : List Request} {ms : List ReadMade} → AllOf P qs → ReadRun s qs ms end → AllOf (ReadKept s P) ms
run_kept h done = all_none
run_kept h (next {m} r later) =
    all_more (record { is_read = r; finds = refl; leaves = read_leaves m r; listed = first_of h })
    (rw (read_leaves m r) at (run_kept (rest_of h) later))

pub all_of : {A : Type 0} {P Q : A → Type 0} {xs : List A} → ((x : A) → P x → Q x) → AllOf P xs → AllOf Q xs
all_of f all_none = all_none
all_of f (all_more {x} h hs) = all_more (f x h) (all_of f hs)
