-- the nodes read from an image that passes rules 1 to 18 are added one by one, none refused.
use Prim.Native.Nat.{ℕ, zero, suc, ◌+◌, ◌*◌, ◌-◌, ◌≤◌, ◌<◌}
use mathlib.Core.Path.{◌≡◌, refl, sym, ap, subst, ◌∙◌}
use mathlib.Core.Bool.{true}
use mathlib.Core.List.{List, [], ◌∷◌, ◌++◌, append-nil}
use native.Mathlib.Omega.{arith}
use native.Mathlib.Decide.{ℕ_discrete}
use native.Mathlib.Nat.{zero-add}
use native.Mathlib.Numerals.{add-one}
use lib.ListN.{length, take, drop, get_or, length-append, length-drop, get_or-append}
use lib.Seq.{drop-drop, take-add, length-take-le}
use lib.Dec.{eqb}
use borrow.Author.Tests.{le-leb, lt-ltb, eq-eqb}
use Rattle.model.specs.Lists.{sum_before}
use Rattle.model.specs.Bytes.{numbers}
use Rattle.model.specs.Rules.{passed}
use Rattle.model.specs.Image.{Node, Tree, tree_of, node_of, node, name, label, parent, dimensions, stored, node_count, dimension_offset, word_count, data_offset, data_length, record_at}
use Rattle.model.specs.Records.{parent_lawful, words_before, words_lawful, bytes_before, data_at_lawful, record_rules, table_check}
use Rattle.model.specs.Bounds.{Laid, Placed}
use Rattle.model.specs.Bytes.{all_bytes}
use Rattle.writer_model.specs.Writer.{Addition, room_for, needed_room, padded, type_field, line_lawful, addition_rules, add_check, record_bytes}
use Rattle.writer_model.specs.Claims.{node_read, Below, IsBytes, IsWords}
use Rattle.model.proofs.Logic.{or_right}
use Rattle.model.proofs.Passed.{Hold, then-on}
use Rattle.model.proofs.Accepted.{record_holds}
use Rattle.model.proofs.Bounds.{table-laid, node-placed, sound}
use Rattle.model.proofs.Parents.{lawful_at, parent-lower}
use Rattle.model.proofs.Reading.{node_at_lem, name-at, label_at, type_at}
use Rattle.model.proofs.LittleEndian.{length-all_bytes}
use Rattle.writer_model.proofs.WrittenNumbers.{le-small, bytes_drop, written-numbers}
use Rattle.writer_model.proofs.RecordBytes.{same-node, record_read}
use Rattle.writer_model.proofs.Filled.{fill, fill_length}
use Rattle.writer_model.proofs.Drafts.{all_dims, all_data, node_for, placed, recs, AllFit, dims_join, data_join, recs_snoc, all_bytes_join, fit_snoc, recs_length, head, head_length, form, state_after, Room}
use Rattle.writer_model.proofs.Additions.{tree_for, placed-length, placed_snoc, addition_judged, Limits, room_for_lem}
use Rattle.writer_model.proofs.AddedNodes.{node_there, dimensions_there}
use Rattle.writer_model.proofs.Prefix.{rules_prefix, line_prefix}
use Rattle.writer_model.proofs.Finished.{pass_check}

-- a text of 32 bytes needs no padding
pub padded_full : (s : List ℕ) → length s ≡ 32 → padded s ≡ s
unfolding padded
padded_full s e = let z : 32 - length s ≡ 0 = omega arith in rw (le-leb (length s) 32 (omega arith), z) (append-nil s)

pub type_full : (s : List ℕ) → length s ≡ 2 → type_field s ≡ s
unfolding type_field
type_full s e = rw (eq-eqb (length s) 2 e)

numbers-length : (w n : ℕ) (s : List ℕ) → length (numbers w n s) ≡ n
unfolding numbers
numbers-length w zero s = refl
numbers-length w (suc n) s = rw (numbers-length w n (drop w s))

numbers-words : (n : ℕ) (s : List ℕ) → IsBytes s → IsWords (numbers 8 n s)
unfolding numbers Below
numbers-words zero s h = tt
numbers-words (suc n) s h = (le-small 8 s h, numbers-words n (drop 8 s) (bytes_drop 8 s h))

-- where every node up to i is lawful, so are all above it
line_lawful_lem : (t : Tree) (m : ℕ) → ((j : ℕ) → j ≤ m → parent_lawful t j ≡ true) → (e i : ℕ) → i ≤ m → line_lawful t e i ≡ true
unfolding line_lawful
line_lawful_lem t m h zero i l = h i l
line_lawful_lem t m h (suc e) zero l = rw (h 0 l)
line_lawful_lem t m h (suc e) (suc i) l =
    let p = parent-lower t (suc i) (h (suc i) l) (λ (z : suc i ≡ 0). absurd (omega arith)) in
    rw (h (suc i) l) (or_right (eqb (suc i) 0) _ (line_lawful_lem t m h e (parent t (suc i)) (omega arith)))

module _ (b : List ℕ) (bytes : IsBytes b) (ok : table_check b ≡ passed) where
  abbrev t : Tree
  t = tree_of b

  l : Laid b
  l = table-laid b ok

  pub limits : Limits (node_count b) (word_count b) (data_length b)
  limits =
      record { some = l.some; few = l.few; few_words = l.few_words; short = omega (arith, l.data_at_lem, l.whole, l.short) }

  -- the node that is read at i is written as it was
  module _ (i : ℕ) (h : i < node_count b) where
    p : Placed b i
    p = node-placed b ok i h

    inside : record_at i + 84 ≤ length b
    inside = omega (arith, l.data_at_lem, l.whole)

    pub words_inside : dimension_offset b + 8 * (node t i).first_word + 8 * (node t i).rank ≤ length b
    words_inside = omega (arith, l.words-at, l.data_at_lem, l.whole, p.words_in)

    pub read_is : node_for (words_before t i) (bytes_before t i) (node_read t i) ≡ node t i
    unfolding node_read name label parent dimensions stored tree_of
    read_is =
        same-node (padded_full (name t i) (ap length (name-at b i h) ∙ length-take-le 32 (drop (record_at i) b) (rw (length-drop (record_at i) b) (omega (arith, inside)))))
        (padded_full (label t i) (ap length (label_at b i h) ∙ length-take-le 32 (drop (record_at i + 32) b) (rw (length-drop (record_at i + 32) b) (omega (arith, inside)))))
        (type_full (node t i).data_type (ap length (type_at b i h) ∙ length-take-le 2 (drop (record_at i + 64) b) (rw (length-drop (record_at i + 64) b) (omega (arith, inside)))))
        (numbers-length 8 (node t i).rank _)
        (sym p.words-from)
        refl
        (sym p.data_from)
        (length-take-le (node t i).data_size (drop (node t i).data_at (drop (data_offset b) b)) (rw (length-drop (node t i).data_at (drop (data_offset b) b), length-drop (data_offset b) b) (omega (arith, l.whole, p.data_in))))

    pub dims_words : IsWords (node_read t i).dimensions
    unfolding node_read dimensions tree_of
    dims_words = numbers-words (node t i).rank _ (bytes_drop (8 * (node t i).first_word) (drop (dimension_offset b) b) (bytes_drop (dimension_offset b) b bytes))

  -- so many were added, and the room holds as much of the image
  pub record Came (i : ℕ) (us : List Addition) : Type 0 where
    pub count : length us ≡ i
    pub words_so_far : length (all_dims us) ≡ words_before t i
    pub bytes_so_far : length (all_data us) ≡ bytes_before t i
    pub nodes-same : (j : ℕ) → j < i → node (tree_for (word_count b) (data_length b) us) j ≡ node t j
    pub fit : AllFit 0 0 us
    pub recs_are : recs 0 0 us ≡ take (84 * i) (drop 32 b)
    pub dims_are : all_bytes 8 (all_dims us) ≡ take (8 * words_before t i) (drop (dimension_offset b) b)
    pub data_are : all_data us ≡ take (bytes_before t i) (drop (data_offset b) b)

  pub none_came : Came 0 []
  unfolding words_before bytes_before sum_before
  none_came =
      record { count = refl; words_so_far = refl; bytes_so_far = refl; nodes-same = λ j h. absurd (omega arith); fit = tt; recs_are = refl; dims_are = refl; data_are = refl }

  words-next : (i : ℕ) → words_before t (suc i) ≡ words_before t i + (node t i).rank
  unfolding words_before sum_before
  words-next i = refl

  bytes_next : (i : ℕ) → bytes_before t (suc i) ≡ bytes_before t i + (node t i).data_size
  unfolding bytes_before sum_before
  bytes_next i = refl

  -- one more
  module _ (i : ℕ) (us : List Addition) (rest : List ℕ) (h : i < node_count b) (c : Came i us) where
    abbrev a : Addition
    a = node_read t i

    abbrev u : Tree
    u = tree_for (word_count b) (data_length b) (us ++ a ∷ [])

    last-is : node_for (length (all_dims us)) (length (all_data us)) a ≡ node t i
    last-is = rw (c.words_so_far, c.bytes_so_far) (read_is i h)

    same-to : (j : ℕ) → j ≤ i → node t j ≡ node u j
    unfolding node
    same-to j q =
        elim (ℕ_discrete i j) [
          | yes r ↦ subst (λ (k : ℕ). node t k ≡ node u k) r (sym last-is ∙ sym (ap (λ (k : ℕ). node u k) (sym c.count) ∙ node_there (word_count b) (data_length b) us a []))
          | no r ↦ sym (c.nodes-same j (omega (arith, r))) ∙ sym (ap (λ (ns : List Node). get_or ns j (node_of [])) (placed_snoc us a) ∙ get_or-append (placed 0 0 us) _ (node_of []) j (rw (placed-length 0 0 us, c.count) (omega (arith, r))))
        ]

    dims_same : dimensions t i ≡ dimensions u i
    unfolding node_read
    dims_same = sym (ap (λ (k : ℕ). dimensions u k) (sym c.count) ∙ dimensions_there (word_count b) (data_length b) us a [] (dims_words i h))

    line : line_lawful t i i ≡ true
    line = line_lawful_lem t i (λ j q. lawful_at b (sound b ok) j (omega arith)) i i (omega arith)

    pub rules_hold : Hold (addition_rules u (state_after (node_count b) (word_count b) (data_length b) us))
    unfolding addition_rules record_rules words_lawful data_at_lawful tree_of
    rules_hold =
        rw (c.count, c.words_so_far, c.bytes_so_far)
        (line_prefix t u i same-to i i (omega arith) (omega arith) line, subst Hold (rules_prefix t u i same-to line dims_same refl refl (words_before t i) (bytes_before t i)) (record_holds b ok i h))

    pub room-here : Room (node_count b) (word_count b) (data_length b) us a rest
    room-here = room_for_lem (node_count b) (word_count b) (data_length b) us a rest limits c.fit (rw c.count h) rules_hold

    room_enough : needed_room (state_after (node_count b) (word_count b) (data_length b) us) ≤ length (form (node_count b) (word_count b) (data_length b) us rest)
    unfolding needed_room room_for
    room_enough =
        let r = room-here in
        let n = node_count b in
        let d = word_count b in
        let x = data_length b in
        let e1 : length (fill (84 * n) (recs 0 0 us)) ≡ 84 * n = fill_length (84 * n) (recs 0 0 us) (rw (recs_length 0 0 us c.fit) (omega (arith, r.node-room))) in
        let e2 : length (fill (8 * d) (all_bytes 8 (all_dims us))) ≡ 8 * d = fill_length (8 * d) (all_bytes 8 (all_dims us)) (rw (length-all_bytes 8 (all_dims us)) (omega (arith, r.words-room))) in
        let e3 : length (fill x (all_data us)) ≡ x = fill_length x (all_data us) (omega (arith, r.bytes-room)) in
        rw (length-append (head n d x) (fill (84 * n) (recs 0 0 us) ++ (fill (8 * d) (all_bytes 8 (all_dims us)) ++ (fill x (all_data us) ++ rest))), length-append (fill (84 * n) (recs 0 0 us)) (fill (8 * d) (all_bytes 8 (all_dims us)) ++ (fill x (all_data us) ++ rest)), length-append (fill (8 * d) (all_bytes 8 (all_dims us))) (fill x (all_data us) ++ rest), length-append (fill x (all_data us)) rest, head_length n d x, e1, e2, e3) (omega arith)

    pub addition-passes : add_check (state_after (node_count b) (word_count b) (data_length b) us) a (form (node_count b) (word_count b) (data_length b) us rest) ≡ passed
    unfolding add_check
    addition-passes =
        then-on _ (pass_check 0 _ (le-leb _ _ room_enough, (lt-ltb (length us) (node_count b) (rw c.count h), tt)))
        ∙ addition_judged (node_count b) (word_count b) (data_length b) us a rest c.fit
        ∙ pass_check (length us) (addition_rules u (state_after (node_count b) (word_count b) (data_length b) us)) rules_hold

    dims_list : all_dims (us ++ a ∷ []) ≡ all_dims us ++ a.dimensions
    dims_list = dims_join us (a ∷ []) ∙ ap (λ (s : List ℕ). all_dims us ++ s) (append-nil a.dimensions)

    data_list : all_data (us ++ a ∷ []) ≡ all_data us ++ a.bytes
    data_list = data_join us (a ∷ []) ∙ ap (λ (s : List ℕ). all_data us ++ s) (append-nil a.bytes)

    rank_is : length a.dimensions ≡ (node t i).rank
    rank_is = ap (λ (z : Node). z.rank) last-is

    size_is : length a.bytes ≡ (node t i).data_size
    size_is = ap (λ (z : Node). z.data_size) last-is

    words_step : length (all_dims us) + length a.dimensions ≡ words_before t (suc i)
    unfolding words_before sum_before
    words_step = rw (c.words_so_far, rank_is)

    bytes_step : length (all_data us) + length a.bytes ≡ bytes_before t (suc i)
    unfolding bytes_before sum_before
    bytes_step = rw (c.bytes_so_far, size_is)

    recs_step : recs 0 0 (us ++ a ∷ []) ≡ take (84 * suc i) (drop 32 b)
    recs_step =
        let e : 84 * suc i ≡ 84 * i + 84 = omega arith in
        let q : record_bytes (node t i) ≡ take 84 (drop (84 * i) (drop 32 b)) = ap record_bytes (node_at_lem b i h) ∙ record_read (drop (record_at i) b) (bytes_drop (record_at i) b bytes) (rw (length-drop (record_at i) b) (omega (arith, inside i h))) ∙ ap (take 84) (sym (drop-drop (84 * i) 32 b)) in
        recs_snoc us a ∙ rw (last-is, c.recs_are, q, e) (sym (take-add (84 * i) 84 (drop 32 b)))

    dims_step : all_bytes 8 (all_dims us) ++ all_bytes 8 a.dimensions ≡ take (8 * words_before t (suc i)) (drop (dimension_offset b) b)
    unfolding node_read dimensions tree_of
    dims_step =
        let w = words-next i in
        let e : 8 * words_before t i + 8 * (node t i).rank ≡ 8 * words_before t (suc i) = omega (arith, w) in
        let q : 8 * (node t i).rank ≤ length (drop (8 * (node t i).first_word) X) = rw (length-drop (8 * (node t i).first_word) X, length-drop (dimension_offset b) b) (omega (arith, words_inside i h)) in
        let own : all_bytes 8 a.dimensions ≡ take (8 * (node t i).rank) (drop (8 * words_before t i) X) = written-numbers 8 (node t i).rank (drop (8 * (node t i).first_word) X) (bytes_drop (8 * (node t i).first_word) X (bytes_drop (dimension_offset b) b bytes)) q ∙ ap (λ (k : ℕ). take (8 * (node t i).rank) (drop (8 * k) X)) (p i h).words-from in
        ap (λ (s : List ℕ). s ++ all_bytes 8 a.dimensions) c.dims_are ∙ ap (λ (s : List ℕ). take (8 * words_before t i) X ++ s) own
        ∙ sym (take-add (8 * words_before t i) (8 * (node t i).rank) X)
        ∙ ap (λ (k : ℕ). take k X) e
      where
        X : List ℕ
        X = drop (dimension_offset b) b

    data_step : all_data us ++ a.bytes ≡ take (bytes_before t (suc i)) (drop (data_offset b) b)
    unfolding node_read stored tree_of
    data_step =
        let w = bytes_next i in
        let own : a.bytes ≡ take (node t i).data_size (drop (bytes_before t i) (drop (data_offset b) b)) = ap (λ (k : ℕ). take (node t i).data_size (drop k (drop (data_offset b) b))) (p i h).data_from in
        ap (λ (s : List ℕ). s ++ a.bytes) c.data_are ∙ ap (λ (s : List ℕ). take (bytes_before t i) (drop (data_offset b) b) ++ s) own
        ∙ sym (take-add (bytes_before t i) (node t i).data_size (drop (data_offset b) b))
        ∙ ap (λ (k : ℕ). take k (drop (data_offset b) b)) (sym w)

    pub one_came : Came (suc i) (us ++ a ∷ [])
    one_came =
        record {
          count = length-append us (a ∷ []) ∙ add-one (length us) ∙ ap suc c.count;
          words_so_far = ap length dims_list ∙ length-append (all_dims us) a.dimensions ∙ words_step;
          bytes_so_far = ap length data_list ∙ length-append (all_data us) a.bytes ∙ bytes_step;
          nodes-same = λ j q. sym (same-to j (omega arith));
          fit = fit_snoc 0 0 us a c.fit (rw (zero-add (length (all_dims us)), zero-add (length (all_data us))) room-here.fits);
          recs_are = recs_step;
          dims_are = ap (all_bytes 8) dims_list ∙ all_bytes_join 8 (all_dims us) a.dimensions ∙ dims_step;
          data_are = data_list ∙ data_step;
        }
