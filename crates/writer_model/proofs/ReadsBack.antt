-- The first theorem: all nodes, words and data added, the room is a finished image that passes rules 1 to 18 and reads back to exactly
-- the nodes added; a refused addition is as if it had not been.
use Prim.Native.Nat.{ℕ, ◌*◌, ◌≤◌, ◌<◌}
use mathlib.Core.Path.{◌≡◌, refl, sym, ap, subst, ◌∙◌}
use mathlib.Core.List.{List, [], ◌∷◌, ◌++◌, append_assoc, append-nil}
use native.Mathlib.Omega.{arith}
use native.Mathlib.Nat.{zero-add}
use lib.ListN.{length, take, drop, length-append, length-drop}
use lib.Seq.{take_at, drop_at}
use lib.Dec.{leb, ltb}
use borrow.Author.Tests.{leb-true, ltb-true, le-leb}
use Rattle.writer_model.specs.declared.Writer.{Writer}
use Rattle.model.specs.Rules.{◌unless◌, rejected, answer, Check, passed, check, ◌then◌, ◌gives◌, leaves}
use Rattle.model.specs.Records.{table_check}
use Rattle.model.specs.Bytes.{all_bytes}
use Rattle.writer_model.specs.After.{after}
use Rattle.writer_model.specs.Writer.{Addition, room_for, needed_room, next_state, add_answer, add_memory, with_node, start_check, started, start_answer, addition_rules, add_check, finish_check, finish_answer}
use Rattle.writer_model.specs.Claims.{Draft, start_draft, with_added, draft_of, added_of, IsWords, AllWords, draft, Written, Used, last_state, ReadsBack}
use Rattle.model.proofs.Logic.{and_first, and_second}
use Rattle.model.proofs.Passed.{Hold, check_pass, then-first, then-second, then-on}
use Rattle.model.proofs.LittleEndian.{length-all_bytes}
use Rattle.writer_model.proofs.RecordBytes.{Fits}
use Rattle.writer_model.proofs.Filled.{fill, fill_full}
use Rattle.writer_model.proofs.Drafts.{all_dims, all_data, node_for, recs, AllFit, fit_snoc, recs_length, form, state_after, draft_for, start_form, same-draft, draft_step}
use Rattle.writer_model.proofs.Additions.{tree_for, addition_judged, Limits, room_for_lem}
use Rattle.writer_model.proofs.Finished.{pass_check, Good, image_for, Full, image-length, table-passes}
use Rattle.writer_model.proofs.ReadBack.{read_back}

-- what the checks of a start say
limits : (n d x room : ℕ) → start_check n d x room ≡ passed → Limits n d x
unfolding start_check room_for
limits n d x room e =
    let h = check_pass 0 _ e in
    record {
      some = leb-true _ _ (and_first (leb 1 n) _ h.0);
      few = leb-true _ _ (and_second (leb 1 n) _ h.0);
      few_words = leb-true _ _ h.1.0;
      short = leb-true _ _ h.1.1.0;
    }

room-long : (n d x room : ℕ) → start_check n d x room ≡ passed → room_for n d x ≤ room
unfolding start_check
room-long n d x room e = leb-true _ _ (check_pass 0 _ e).1.1.1.0

-- a run that began after us: those added are vs
pub record Ran (n d x : ℕ) (us vs : List Addition) (rest : List ℕ) (end : Draft) : Type 0 where
  pub ends : end ≡ draft_for n d x (us ++ vs) rest
  pub fit : AllFit 0 0 (us ++ vs)
  pub good : Good n d x us vs

-- an addition that passed
module _ (n d x : ℕ) (rest : List ℕ) (us : List Addition) (a : Addition) (f : AllFit 0 0 us) (e : add_check (state_after n d x us) a (form n d x us rest) ≡ passed) where
  pub count-below : length us < n
  unfolding add_check
  count-below = ltb-true _ _ (check_pass 0 _ (then-first (check 0 (46 unless leb (needed_room (state_after n d x us)) (length (form n d x us rest)) ∷ 50 unless ltb (length us) n ∷ [])) _ e)).1.0

  pub rules_hold : Hold (addition_rules (tree_for d x (us ++ a ∷ [])) (state_after n d x us))
  unfolding add_check
  rules_hold =
      check_pass (length us) (addition_rules (tree_for d x (us ++ a ∷ [])) (state_after n d x us))
      (sym (addition_judged n d x us a rest f) ∙ then-second (check 0 (46 unless leb (needed_room (state_after n d x us)) (length (form n d x us rest)) ∷ 50 unless ltb (length us) n ∷ [])) _ e)

one_more : {n d x : ℕ} {us : List Addition} {a : Addition} {vs : List Addition} {rest : List ℕ} {end : Draft}
    → IsWords a.dimensions → Hold (addition_rules (tree_for d x (us ++ a ∷ [])) (state_after n d x us)) → Fits (node_for (length (all_dims us)) (length (all_data us)) a)
    → Ran n d x (us ++ a ∷ []) vs rest end → Ran n d x us (a ∷ vs) rest end
one_more {n} {d} {x} {us} {a} {vs} {rest} w h q r =
    let e : us ++ a ∷ [] ++ vs ≡ us ++ a ∷ vs = append_assoc us (a ∷ []) vs in
    record { ends = r.ends ∙ ap (λ (ws : List Addition). draft_for n d x ws rest) e; fit = subst (AllFit 0 0) e r.fit; good = (w, h, q, r.good) }

module _ (n d x : ℕ) (rest : List ℕ) (l : Limits n d x) where
  by_check : (us : List Addition) (a : Addition) (asked : List Addition) → IsWords a.dimensions → AllFit 0 0 us
      → Ran n d x us (added_of (draft_for n d x us rest) asked) rest (draft_of (draft_for n d x us rest) asked)
      → (AllFit 0 0 (us ++ a ∷ []) → Ran n d x (us ++ a ∷ []) (added_of (draft_for n d x (us ++ a ∷ []) rest) asked) rest (draft_of (draft_for n d x (us ++ a ∷ []) rest) asked))
      → (c : Check) → add_check (state_after n d x us) a (form n d x us rest) ≡ c
      → Ran n d x us (leaves c (added_of (draft_for n d x us rest) asked) (a ∷ added_of (with_added (draft_for n d x us rest) a) asked)) rest
      (after c (draft_of (draft_for n d x us rest) asked) (draft_of (with_added (draft_for n d x us rest) a) asked))
  unfolding leaves after
  by_check us a asked w f same more (rejected r) e = same
  by_check us a asked w f same more (answer y) e =
      let h = rules_hold n d x rest us a f e in
      let r = room_for_lem n d x us a rest l f (count-below n d x rest us a f e) h in
      rw (draft_step n d x us a rest r) (one_more w h r.fits (more (fit_snoc 0 0 us a f (rw (zero-add (length (all_dims us)), zero-add (length (all_data us))) r.fits))))

  run : (asked us : List Addition) → AllWords asked → AllFit 0 0 us → Ran n d x us (added_of (draft_for n d x us rest) asked) rest (draft_of (draft_for n d x us rest) asked)
  unfolding draft_of added_of AllWords
  run [] us w f = record { ends = rw (append-nil us); fit = rw (append-nil us) f; good = tt }
  run (a ∷ asked) us w f =
      by_check us a asked w.0 f (run asked us w.1 f) (λ q. run asked (us ++ a ∷ []) w.1 q) (add_check (state_after n d x us) a (form n d x us rest)) refl

-- nothing is left of the zeros
fill_exact : (m : ℕ) (s : List ℕ) → length s ≡ m → fill m s ≡ s
fill_exact m s e = rw (← e) (fill_full s)

pub full_form : (n d x : ℕ) (vs : List Addition) (rest : List ℕ) → Full n d x vs → form n d x vs rest ≡ image_for n d x vs ++ rest
full_form n d x vs rest f =
    rw (fill_exact (84 * n) (recs 0 0 vs) (recs_length 0 0 vs f.all_fit ∙ ap (λ (k : ℕ). 84 * k) f.nodes-used), fill_exact (8 * d) (all_bytes 8 (all_dims vs)) (length-all_bytes 8 (all_dims vs) ∙ ap (λ (k : ℕ). 8 * k) f.words-used), fill_exact x (all_data vs) f.bytes-used)
    (simp append_assoc)

-- finishing where all was added
pub finish_passes : (n d x : ℕ) (vs : List Addition) (room : List ℕ) → length vs ≡ n → room_for n d x ≤ length room → table_check (take (room_for n d x) room) ≡ passed
    → finish_answer (state_after n d x vs) room ≡ answer (room_for n d x)
unfolding finish_answer finish_check needed_room ◌gives◌
finish_passes n d x vs room k l e =
    ap (λ (c : Check). c then answer (room_for n d x))
    (then-on _ (pass_check 0 (46 unless leb (room_for n d x) (length room) ∷ 51 unless leb n (length vs) ∷ []) (le-leb _ _ l, (le-leb n (length vs) (omega (arith, k)), tt))) ∙ e)
    ∙ then-on _ refl

module _ (n d x : ℕ) (room : List ℕ) (asked : List Addition) (w : AllWords asked) (e : start_check n d x (length room) ≡ passed) (u : Used n d x room asked) where
  abbrev rest : List ℕ
  rest = drop (room_for n d x) room

  starts : start_draft n d x room ≡ draft_for n d x [] rest
  unfolding start_draft started
  starts = same-draft refl (start_form n d x room e)

  abbrev vs : List Addition
  vs = added_of (start_draft n d x room) asked

  ran : Ran n d x [] vs rest (draft n d x room asked)
  ran = rw starts (run n d x rest (limits n d x (length room) e) asked [] w tt)

  full : Full n d x vs
  full =
      let s = ran.ends in
      record {
        limits = limits n d x (length room) e;
        all_fit = ran.fit;
        nodes-used = sym (ap (λ (z : Draft). z.state.node) s) ∙ u.0;
        words-used = sym (ap (λ (z : Draft). z.state.word) s) ∙ u.1;
        bytes-used = sym (ap (λ (z : Draft). z.state.byte) s) ∙ u.2;
      }

  room-is : (draft n d x room asked).room ≡ image_for n d x vs ++ rest
  room-is = ap (λ (z : Draft). z.room) ran.ends ∙ full_form n d x vs rest full

  needed : length (image_for n d x vs) ≡ room_for n d x
  unfolding room_for
  needed = image-length n d x vs full

  image-is : take (room_for n d x) (draft n d x room asked).room ≡ image_for n d x vs
  image-is = rw room-is (take_at (image_for n d x vs) rest (room_for n d x) needed)

  passes : table_check (take (room_for n d x) (draft n d x room asked).room) ≡ passed
  passes = rw image-is (table-passes n d x vs full ran.good)

  length-kept : length (draft n d x room asked).room ≡ length room
  length-kept = let h = room-long n d x (length room) e in rw (room-is, length-append (image_for n d x vs) rest, needed, length-drop (room_for n d x) room) (omega arith)

  finishes : finish_answer (draft n d x room asked).state (draft n d x room asked).room ≡ answer (room_for n d x)
  finishes =
      let h = room-long n d x (length room) e in
      ap (λ (s : Writer). finish_answer s (draft n d x room asked).room) (ap (λ (z : Draft). z.state) ran.ends)
      ∙ finish_passes n d x vs (draft n d x room asked).room full.nodes-used (rw length-kept h) passes

  pub written : Written n d x room asked
  written =
      record {
        finishes = finishes;
        passes = passes;
        reads_back = rw image-is (read_back n d x vs full ran.good);
        length-kept = length-kept;
        rest-kept = rw room-is (drop_at (image_for n d x vs) rest (room_for n d x) needed);
      }

-- A run is made of the calls: the next one is given the state answered last, and the room as it was left.
draft-calls : (w : Draft) (a : Addition) (rest : List Addition)
    → draft_of w (a ∷ rest) ≡ draft_of (record { state = last_state (add_answer w.state a w.room) w.state; room = add_memory w.state a w.room }) rest
unfolding draft_of with_added add_answer add_memory last_state leaves after ◌gives◌ ◌then◌
draft-calls w a rest = by_check (add_check w.state a w.room)
  where
    by_check : (c : Check) → after c (draft_of w rest) (draft_of (with_added w a) rest)
        ≡ draft_of (record { state = last_state (c gives next_state w.state a) w.state; room = leaves c w.room (with_node w.state a w.room) }) rest
    by_check (rejected r) = refl
    by_check (answer x) = refl

pub reads_back : ReadsBack
unfolding draft_of added_of leaves after start_answer start_draft ◌gives◌
reads_back = record { starts = λ n d x room e. then-on _ e; calls = draft-calls; written = written; as_if_not-asked = λ w a r rest e. (rw e, rw e) }
