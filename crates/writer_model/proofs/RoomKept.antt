-- No call changes the room past what is needed, on any state: the parts that are written end before it.
use Prim.Native.Nat.{ℕ, ◌+◌, ◌*◌, ◌≤◌, ◌<◌}
use mathlib.Core.Path.{◌≡◌, refl, ◌∙◌}
use mathlib.Core.List.{List, [], ◌∷◌}
use native.Mathlib.Omega.{arith}
use lib.ListN.{length, drop, replicate, length-append, length-replicate}
use lib.Dec.{leb, ltb}
use borrow.Author.Tests.{leb-true, ltb-true}
use Rattle.model.specs.Lists.{over, over_at}
use Rattle.model.specs.Bytes.{all_bytes}
use Rattle.model.specs.Rules.{◌unless◌, rejected, answer, Check, passed, check, leaves}
use Rattle.model.specs.Image.{record_at}
use Rattle.model.specs.Build.{header_words}
use Rattle.model.proofs.Passed.{check_pass, then-first, then-second}
use Rattle.model.proofs.LittleEndian.{length-le_bytes, length-all_bytes}
use Rattle.model.proofs.Overlays.{over-length, over-rest, over_at-length, over_at-beyond}
use Rattle.writer_model.specs.declared.Writer.{Writer}
use Rattle.writer_model.specs.Writer.{Addition, room_for, needed_room, start_check, blank_image, start_memory, added_node, tree_with, add_check, add_memory, record_bytes, words_place, bytes_place, with_node}
use Rattle.writer_model.specs.Claims.{RoomKept}
use Rattle.writer_model.proofs.Parts.{Parts, parts}
use Rattle.writer_model.proofs.TreeWith.{added_node_lem}

blank-length : (n d x : ℕ) → length (blank_image n d x) ≡ room_for n d x
unfolding blank_image room_for
blank-length n d x =
    rw (length-append (all_bytes 4 (header_words n d x)) (replicate (84 * n + 8 * d + x) 0), length-all_bytes 4 (header_words n d x), length-replicate {A = ℕ} (84 * n + 8 * d + x) 0)
    (omega arith)

-- a start
module _ (n d x : ℕ) (room : List ℕ) where
  start_room : start_check n d x (length room) ≡ passed → length (blank_image n d x) ≤ length room
  unfolding start_check
  start_room e = rw (blank-length n d x) (leb-true _ _ (check_pass 0 _ e).1.1.1.0)

  start_length : length (start_memory n d x room) ≡ length room
  unfolding start_memory leaves
  start_length = by_check (start_check n d x (length room)) refl
    where
      by_check : (c : Check) → start_check n d x (length room) ≡ c → length (leaves c room (over room (blank_image n d x))) ≡ length room
      by_check (rejected r) e = refl
      by_check (answer y) e = over-length room (blank_image n d x) (start_room e)

  start_rest : drop (room_for n d x) (start_memory n d x room) ≡ drop (room_for n d x) room
  unfolding start_memory leaves
  start_rest = by_check (start_check n d x (length room))
    where
      by_check : (c : Check) → drop (room_for n d x) (leaves c room (over room (blank_image n d x))) ≡ drop (room_for n d x) room
      by_check (rejected r) = refl
      by_check (answer y) = rw (← blank-length n d x) (over-rest room (blank_image n d x))

-- an addition that passes
module _ (s : Writer) (a : Addition) (room : List ℕ) (h : add_check s a room ≡ passed) where
  abbrev front : Check
  front = check 0 (46 unless leb (needed_room s) (length room) ∷ 50 unless ltb s.node s.nodes ∷ [])

  pub long : needed_room s ≤ length room
  unfolding add_check
  long = leb-true _ _ (check_pass 0 _ (then-first front _ h)).0

  pub below : s.node < s.nodes
  unfolding add_check
  below = ltb-true _ _ (check_pass 0 _ (then-first front _ h)).1.0

  pub has_parts : Parts s a
  unfolding add_check tree_with
  has_parts = parts (tree_with s a room) s a (added_node_lem s a room) refl refl (check_pass s.node _ (then-second front _ h))

  abbrev record_part : List ℕ
  record_part = record_bytes (added_node s a)

  record_size_lem : length record_part ≡ 84
  unfolding record_bytes added_node
  record_size_lem = simp (length-append, length-le_bytes) (omega (arith, has_parts.name-size, has_parts.label-size, has_parts.type-size))

  -- each part ends within what is needed
  pub record_end : record_at s.node + 84 ≤ needed_room s
  unfolding needed_room room_for
  record_end = omega (arith, below)

  pub words-end : words_place s + 8 * length a.dimensions ≤ needed_room s
  unfolding needed_room room_for words_place
  words-end = omega (arith, has_parts.words-room)

  pub bytes-end : bytes_place s + length a.bytes ≤ needed_room s
  unfolding needed_room room_for bytes_place
  bytes-end = omega (arith, has_parts.bytes-room)

  abbrev first : List ℕ
  first = over_at (record_at s.node) room record_part

  first-end : record_at s.node + length record_part ≤ needed_room s
  first-end = rw record_size_lem record_end

  abbrev second : List ℕ
  second = over_at (words_place s) first (all_bytes 8 a.dimensions)

  second-end : words_place s + length (all_bytes 8 a.dimensions) ≤ needed_room s
  second-end = rw (length-all_bytes 8 a.dimensions) words-end

  first-length : length first ≡ length room
  first-length = over_at-length (record_at s.node) room record_part (omega (arith, first-end, long))

  second-length : length second ≡ length room
  second-length = over_at-length (words_place s) first (all_bytes 8 a.dimensions) (omega (arith, first-length, second-end, long)) ∙ first-length

  with_length : length (with_node s a room) ≡ length room
  unfolding with_node
  with_length = over_at-length (bytes_place s) second a.bytes (omega (arith, second-length, bytes-end, long)) ∙ second-length

  with_rest : drop (needed_room s) (with_node s a room) ≡ drop (needed_room s) room
  unfolding with_node
  with_rest =
      over_at-beyond (needed_room s) (bytes_place s) second a.bytes bytes-end (omega (arith, second-length, long))
      ∙ over_at-beyond (needed_room s) (words_place s) first (all_bytes 8 a.dimensions) second-end (omega (arith, first-length, long))
      ∙ over_at-beyond (needed_room s) (record_at s.node) room record_part first-end long

module _ (s : Writer) (a : Addition) (room : List ℕ) where
  add-length : length (add_memory s a room) ≡ length room
  unfolding add_memory leaves
  add-length = by_check (add_check s a room) refl
    where
      by_check : (c : Check) → add_check s a room ≡ c → length (leaves c room (with_node s a room)) ≡ length room
      by_check (rejected r) e = refl
      by_check (answer y) e = with_length s a room e

  add-rest : drop (needed_room s) (add_memory s a room) ≡ drop (needed_room s) room
  unfolding add_memory leaves
  add-rest = by_check (add_check s a room) refl
    where
      by_check : (c : Check) → add_check s a room ≡ c → drop (needed_room s) (leaves c room (with_node s a room)) ≡ drop (needed_room s) room
      by_check (rejected r) e = refl
      by_check (answer y) e = with_rest s a room e

pub room-kept : RoomKept
room-kept = record { start_length = start_length; start_rest = start_rest; add-length = add-length; add-rest = add-rest }
