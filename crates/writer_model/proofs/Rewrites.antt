-- The second theorem: an image that passes rules 1 to 18, read node by node and written again, gives equal bytes.
use Prim.Native.Nat.{ℕ, zero, suc, ◌+◌, ◌*◌, ◌≤◌, ◌<◌}
use mathlib.Core.Path.{◌≡◌, refl, sym, ap, subst, ◌∙◌}
use mathlib.Core.Bool.{◌&&◌}
use mathlib.Core.List.{List, [], ◌∷◌, ◌++◌, append_assoc, append-nil}
use native.Mathlib.Omega.{arith}
use lib.ListN.{length, take, drop, length-append, length-drop, take-append-drop}
use lib.Seq.{drop-drop, take_all, take_at}
use lib.Dec.{eqb}
use borrow.Author.Tests.{le-leb, eqb-true}
use Rattle.writer_model.specs.declared.Writer.{Writer}
use Rattle.model.specs.Lists.{over}
use Rattle.model.specs.Bytes.{numbers}
use Rattle.model.specs.Rules.{answer, passed, leaves}
use Rattle.model.specs.Image.{tree_of, header_word, form as formWord, total_length, node_count, record_offset, dimension_offset, word_count, data_offset, data_length}
use Rattle.model.specs.Header.{header_rules, laid_out}
use Rattle.model.specs.Records.{words_before, bytes_before, nothing_trails, table_check}
use Rattle.model.specs.Bounds.{Laid}
use Rattle.model.specs.Bytes.{all_bytes}
use Rattle.model.specs.Build.{header_words}
use Rattle.model.specs.ReadList.{values_from}
use Rattle.writer_model.specs.After.{after}
use Rattle.writer_model.specs.Writer.{Addition, room_for, start_check, started, finish_answer}
use Rattle.writer_model.specs.Claims.{Draft, start_draft, with_added, draft_of, added_of, node_read, nodes_read, IsBytes, blank_draft, second_draft, Rewritten, Rewrites}
use Rattle.model.proofs.Logic.{and_first, and_second, and_both}
use Rattle.model.proofs.Accepted.{header_holds, nothing_trails_lem}
use Rattle.model.proofs.Bounds.{table-laid}
use Rattle.writer_model.proofs.WrittenNumbers.{written-numbers}
use Rattle.writer_model.proofs.Drafts.{all_dims, all_data, head, draft_for, start_form, same-draft, draft_step}
use Rattle.writer_model.proofs.Finished.{pass_check, image_for, Full}
use Rattle.writer_model.proofs.ReadsBack.{full_form, finish_passes}
use Rattle.writer_model.proofs.Reread.{limits, Came, none_came, addition-passes, room-here, one_came}

module _ (b : List ℕ) (bytes : IsBytes b) (ok : table_check b ≡ passed) where
  abbrev n : ℕ
  n = node_count b

  abbrev d : ℕ
  d = word_count b

  abbrev x : ℕ
  x = data_length b

  abbrev left : ℕ → ℕ → List Addition
  left k i = values_from (node_read (tree_of b)) k i

  -- k nodes from i on, after us
  pub record Done (k i : ℕ) (us : List Addition) (rest : List ℕ) : Type 0 where
    pub came : Came b bytes ok (i + k) (us ++ left k i)
    pub drafted : draft_of (draft_for n d x us rest) (left k i) ≡ draft_for n d x (us ++ left k i) rest
    pub added : added_of (draft_for n d x us rest) (left k i) ≡ left k i

  module _ (i : ℕ) (us : List Addition) (rest : List ℕ) (h : i < n) (c : Came b bytes ok i us) (later : List Addition) where
    abbrev a : Addition
    a = node_read (tree_of b) i

    next-draft : with_added (draft_for n d x us rest) a ≡ draft_for n d x (us ++ a ∷ []) rest
    next-draft = draft_step n d x us a rest (room-here b bytes ok i us rest h c)

    draft-on : draft_of (draft_for n d x us rest) (a ∷ later) ≡ draft_of (draft_for n d x (us ++ a ∷ []) rest) later
    unfolding draft_of after
    draft-on = rw (addition-passes b bytes ok i us rest h c) (ap (λ (w : Draft). draft_of w later) next-draft)

    added_on : added_of (draft_for n d x us rest) (a ∷ later) ≡ a ∷ added_of (draft_for n d x (us ++ a ∷ []) rest) later
    unfolding added_of leaves
    added_on = rw (addition-passes b bytes ok i us rest h c) (ap (λ (w : Draft). a ∷ added_of w later) next-draft)

  rerun : (k i : ℕ) (us : List Addition) (rest : List ℕ) → i + k ≤ n → Came b bytes ok i us → Done k i us rest
  unfolding values_from draft_of added_of
  rerun zero i us rest h c = let e : i + 0 ≡ i = omega arith in record { came = rw (e, append-nil us) c; drafted = rw (append-nil us); added = refl }
  rerun (suc k) i us rest h c =
      let g : i < n = omega arith in
      let y = node_read (tree_of b) i in
      let r = rerun k (suc i) (us ++ y ∷ []) rest (omega arith) (one_came b bytes ok i us rest g c) in
      let e : us ++ y ∷ [] ++ left k (suc i) ≡ us ++ y ∷ left k (suc i) = append_assoc us (y ∷ []) (left k (suc i)) in
      let f : suc i + k ≡ i + suc k = omega arith in
      record {
        came = subst (λ (j : ℕ). Came b bytes ok j (us ++ y ∷ left k (suc i))) f (subst (Came b bytes ok (suc i + k)) e r.came);
        drafted = draft-on i us rest g c (left k (suc i)) ∙ r.drafted ∙ ap (λ (ws : List Addition). draft_for n d x ws rest) e;
        added = added_on i us rest g c (left k (suc i)) ∙ ap (λ (ws : List Addition). y ∷ ws) r.added;
      }

  abbrev all : List Addition
  all = left n 0

  module _ (rest : List ℕ) where
    done : Done n 0 [] rest
    done = rerun n 0 [] rest (omega arith) (none_came b bytes ok)

    came_all : Came b bytes ok n all
    came_all = let e : 0 + n ≡ n = omega arith in rw e at done.came

  l : Laid b
  l = table-laid b ok

  words_all : words_before (tree_of b) n ≡ d
  unfolding nothing_trails tree_of
  words_all = eqb-true _ _ (and_first (eqb (words_before (tree_of b) n) d) _ (nothing_trails_lem b ok))

  bytes_all : bytes_before (tree_of b) n ≡ x
  unfolding nothing_trails tree_of
  bytes_all = eqb-true _ _ (and_second (eqb (words_before (tree_of b) n) d) _ (nothing_trails_lem b ok))

  full : Full n d x all
  full =
      let c = came_all [] in
      record { limits = limits b bytes ok; all_fit = c.fit; nodes-used = c.count; words-used = c.words_so_far ∙ words_all; bytes-used = c.bytes_so_far ∙ bytes_all }

  -- the header's words are those that a start writes
  numbers_step : (m k : ℕ) → numbers 4 (suc m) (drop (4 * k) b) ≡ header_word b k ∷ numbers 4 m (drop (4 * suc k) b)
  unfolding numbers header_word
  numbers_step m k = let e : 4 * k + 4 ≡ 4 * suc k = omega arith in ap (λ (s : List ℕ). header_word b k ∷ numbers 4 m s) (drop-drop 4 (4 * k) b ∙ ap (λ (j : ℕ). drop j b) e)

  numbers-none : (s : List ℕ) → numbers 4 0 s ≡ []
  unfolding numbers
  numbers-none s = refl

  form-is : header_word b 0 ≡ 1
  unfolding header_rules formWord
  form-is = eqb-true _ _ (header_holds b ok).1.0

  total-is : header_word b 1 ≡ 32 + 84 * n + 8 * d + x
  unfolding header_rules total_length
  total-is = eqb-true _ _ (header_holds b ok).1.1.0 ∙ sym l.whole ∙ ap (λ (k : ℕ). k + x) l.data_at_lem

  record_is : header_word b 3 ≡ 32
  unfolding header_rules laid_out record_offset
  record_is = eqb-true _ _ (and_first (eqb (record_offset b) 32) _ (and_first (eqb (record_offset b) 32 && eqb (dimension_offset b) (32 + 84 * n)) _ (and_first (eqb (record_offset b) 32 && eqb (dimension_offset b) (32 + 84 * n) && eqb (data_offset b) (32 + 84 * n + 8 * d)) _ (header_holds b ok).1.1.1.1.1.0)))

  words-is : header_word b 4 ≡ 32 + 84 * n
  unfolding dimension_offset
  words-is = l.words-at

  data_is : header_word b 6 ≡ 32 + 84 * n + 8 * d
  unfolding data_offset
  data_is = l.data_at_lem

  eight : numbers 4 8 b ≡ header_word b 0 ∷ header_word b 1 ∷ header_word b 2 ∷ header_word b 3 ∷ header_word b 4 ∷ header_word b 5 ∷ header_word b 6 ∷ header_word b 7 ∷ []
  eight = rw (numbers_step 7 0, numbers_step 6 1, numbers_step 5 2, numbers_step 4 3, numbers_step 3 4, numbers_step 2 5, numbers_step 1 6, numbers_step 0 7, numbers-none (drop 32 b))

  same_eight : {a₁ a₂ a₄ a₅ a₇ b₁ b₂ b₄ b₅ b₇ c e f : ℕ} → a₁ ≡ b₁ → a₂ ≡ b₂ → a₄ ≡ b₄ → a₅ ≡ b₅ → a₇ ≡ b₇
      → ◌≡◌ {A = List ℕ} (a₁ ∷ a₂ ∷ c ∷ a₄ ∷ a₅ ∷ e ∷ a₇ ∷ f ∷ []) (b₁ ∷ b₂ ∷ c ∷ b₄ ∷ b₅ ∷ e ∷ b₇ ∷ f ∷ [])
  same_eight p q r s t = cc

  header_words_lem : numbers 4 8 b ≡ header_words n d x
  unfolding node_count word_count data_length
  header_words_lem = eight ∙ same_eight form-is total-is record_is words-is data_is

  head_is : head n d x ≡ take 32 b
  unfolding head
  head_is = ap (all_bytes 4) (sym header_words_lem) ∙ written-numbers 4 8 b bytes (omega (arith, l.data_at_lem, l.whole))

  -- a part and what follows it
  cut : (k m : ℕ) → take m (drop k b) ++ drop (k + m) b ≡ drop k b
  cut k m = ap (λ (s : List ℕ). take m (drop k b) ++ s) (sym (drop-drop m k b)) ∙ take-append-drop m (drop k b)

  image-is : image_for n d x all ≡ b
  image-is =
      let c = came_all [] in
      let w : all_bytes 8 (all_dims all) ≡ take (8 * d) (drop (32 + 84 * n) b) = c.dims_are ∙ ap (λ (k : ℕ). take (8 * k) (drop (dimension_offset b) b)) words_all ∙ ap (λ (k : ℕ). take (8 * d) (drop k b)) l.words-at in
      let z : all_data all ≡ drop (32 + 84 * n + 8 * d) b = c.data_are ∙ ap (λ (k : ℕ). take k (drop (data_offset b) b)) bytes_all ∙ take_all x (drop (data_offset b) b) (rw (length-drop (data_offset b) b) (omega (arith, l.whole))) ∙ ap (λ (k : ℕ). drop k b) l.data_at_lem in
      rw (head_is, c.recs_are, w, z, cut (32 + 84 * n) (8 * d), cut 32 (84 * n)) (take-append-drop 32 b)

  needed : room_for n d x ≡ length b
  unfolding room_for
  needed = omega (arith, l.data_at_lem, l.whole)

  module _ (room : List ℕ) (h : length b ≤ length room) where
    starts : start_check n d x (length room) ≡ passed
    unfolding start_check
    starts =
        pass_check 0 _ (and_both _ _ (le-leb 1 n l.some) (le-leb n 4096 l.few), (le-leb d 49152 l.few_words, (rw needed (le-leb (length b) 16777216 l.short), (rw needed (le-leb (length b) (length room) h), tt))))

    blank-is : blank_draft b room ≡ draft_for n d x [] (drop (room_for n d x) room)
    unfolding start_draft started
    blank-is = same-draft refl (start_form n d x room starts)

    second_is : second_draft b room ≡ draft_for n d x all (drop (room_for n d x) room)
    unfolding nodes_read tree_of
    second_is = rw blank-is (done (drop (room_for n d x) room)).drafted

    room-is : (second_draft b room).room ≡ b ++ drop (length b) room
    room-is =
        ap (λ (w : Draft). w.room) second_is ∙ full_form n d x all (drop (room_for n d x) room) full
        ∙ ap (λ (s : List ℕ). s ++ drop (room_for n d x) room) image-is
        ∙ ap (λ (k : ℕ). b ++ drop k room) needed

    pub rewritten : Rewritten b room
    unfolding over nodes_read tree_of
    rewritten =
        record {
          starts = starts;
          none_refused = rw blank-is (done (drop (room_for n d x) room)).added;
          equal_bytes = room-is;
          finishes = finishes;
        }
      where
        finishes : finish_answer (second_draft b room).state (second_draft b room).room ≡ answer (length b)
        finishes =
            ap (λ (s : Writer). finish_answer s (second_draft b room).room) (ap (λ (w : Draft). w.state) second_is)
            ∙ finish_passes n d x all (second_draft b room).room full.nodes-used (rw (room-is, length-append b (drop (length b) room), needed) (omega arith)) (rw (room-is, take_at b (drop (length b) room) (room_for n d x) (sym needed)) ok)
            ∙ ap answer needed

pub rewrites : Rewrites
rewrites = rewritten
