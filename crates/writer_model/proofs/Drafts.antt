-- what a room holds after additions, as one list: the header; records, words and data, each filled up with zeros; the rest of the room.
use Prim.Native.Nat.{ℕ, ◌+◌, ◌*◌, ◌-◌, ◌≤◌, ◌<◌}
use mathlib.Core.Path.{◌≡◌, refl, sym, ap, ◌∙◌}
use mathlib.Core.List.{List, [], ◌∷◌, ◌++◌, append_assoc, append-nil}
use native.Mathlib.Omega.{arith}
use native.Mathlib.Nat.{add_assoc, zero-add}
use native.Mathlib.Numerals.{add-one}
use lib.ListN.{length, drop, replicate, length-append, length-replicate, replicate-append-replicate}
use lib.Seq.{drop_at}
use Rattle.writer_model.specs.declared.Writer.{Writer}
use Rattle.model.specs.Lists.{over, over_at}
use Rattle.model.specs.Rules.{passed, leaves}
use Rattle.model.specs.Image.{Node, nodes_of}
use Rattle.model.specs.Bytes.{le_bytes, all_bytes}
use Rattle.model.specs.Build.{header_words}
use Rattle.writer_model.specs.Writer.{Addition, room_for, padded, type_field, added_node, next_state, record_bytes, words_place, bytes_place, with_node, start_check, blank_image, start_memory}
use Rattle.writer_model.specs.Claims.{Draft, with_added}
use Rattle.model.proofs.LittleEndian.{length-all_bytes}
use Rattle.writer_model.proofs.RecordBytes.{Fits, record_length, node-written}
use Rattle.writer_model.proofs.Filled.{fill, fill_length, part_more}

abbrev pub all_dims : List Addition → List ℕ
all_dims [] = []
all_dims (a ∷ us) = a.dimensions ++ all_dims us

abbrev pub all_data : List Addition → List ℕ
all_data [] = []
all_data (a ∷ us) = a.bytes ++ all_data us

-- a node after w words and x bytes
abbrev pub node_for : ℕ → ℕ → Addition → Node
node_for w x a =
    record {
      name = padded a.name;
      label = padded a.label;
      data_type = type_field a.data_type;
      rank = length a.dimensions;
      first_word = w;
      parent = a.parent;
      data_at = x;
      data_size = length a.bytes;
    }

abbrev pub placed : ℕ → ℕ → List Addition → List Node
placed w x [] = []
placed w x (a ∷ us) = node_for w x a ∷ placed (w + length a.dimensions) (x + length a.bytes) us

abbrev pub recs : ℕ → ℕ → List Addition → List ℕ
recs w x [] = []
recs w x (a ∷ us) = record_bytes (node_for w x a) ++ recs (w + length a.dimensions) (x + length a.bytes) us

abbrev pub AllFit : ℕ → ℕ → List Addition → Type 0
AllFit w x [] = Unit {0}
AllFit w x (a ∷ us) = Fits (node_for w x a) × AllFit (w + length a.dimensions) (x + length a.bytes) us

-- lists joined
pub dims_join : (us vs : List Addition) → all_dims (us ++ vs) ≡ all_dims us ++ all_dims vs
dims_join [] vs = refl
dims_join (a ∷ us) vs = rw (dims_join us vs) (sym (append_assoc a.dimensions (all_dims us) (all_dims vs)))

pub data_join : (us vs : List Addition) → all_data (us ++ vs) ≡ all_data us ++ all_data vs
data_join [] vs = refl
data_join (a ∷ us) vs = rw (data_join us vs) (sym (append_assoc a.bytes (all_data us) (all_data vs)))

pub placed_join : (w x : ℕ) (us vs : List Addition) → placed w x (us ++ vs) ≡ placed w x us ++ placed (w + length (all_dims us)) (x + length (all_data us)) vs
placed_join w x [] vs = let e : w + 0 ≡ w = omega arith in let f : x + 0 ≡ x = omega arith in rw (e, f)
placed_join w x (a ∷ us) vs =
    rw (placed_join (w + length a.dimensions) (x + length a.bytes) us vs, length-append a.dimensions (all_dims us), length-append a.bytes (all_data us), ← add_assoc w (length a.dimensions) (length (all_dims us)), ← add_assoc x (length a.bytes) (length (all_data us)))

pub recs_join : (w x : ℕ) (us vs : List Addition) → recs w x (us ++ vs) ≡ recs w x us ++ recs (w + length (all_dims us)) (x + length (all_data us)) vs
recs_join w x [] vs = let e : w + 0 ≡ w = omega arith in let f : x + 0 ≡ x = omega arith in rw (e, f)
recs_join w x (a ∷ us) vs =
    rw (recs_join (w + length a.dimensions) (x + length a.bytes) us vs, length-append a.dimensions (all_dims us), length-append a.bytes (all_data us), ← add_assoc w (length a.dimensions) (length (all_dims us)), ← add_assoc x (length a.bytes) (length (all_data us)))
    (sym (append_assoc (record_bytes (node_for w x a)) _ _))

pub recs_snoc : (us : List Addition) (a : Addition) → recs 0 0 (us ++ a ∷ []) ≡ recs 0 0 us ++ record_bytes (node_for (length (all_dims us)) (length (all_data us)) a)
recs_snoc us a =
    recs_join 0 0 us (a ∷ [])
    ∙ ap (λ (s : List ℕ). recs 0 0 us ++ s) (append-nil (record_bytes (node_for (0 + length (all_dims us)) (0 + length (all_data us)) a)) ∙ rw (zero-add (length (all_dims us)), zero-add (length (all_data us))))

pub all_bytes_join : (w : ℕ) (xs ys : List ℕ) → all_bytes w (xs ++ ys) ≡ all_bytes w xs ++ all_bytes w ys
all_bytes_join w [] ys = refl
all_bytes_join w (x ∷ xs) ys = rw (all_bytes_join w xs ys) (sym (append_assoc (le_bytes w x) (all_bytes w xs) (all_bytes w ys)))

pub fit_snoc : (w x : ℕ) (us : List Addition) (a : Addition) → AllFit w x us → Fits (node_for (w + length (all_dims us)) (x + length (all_data us)) a) → AllFit w x (us ++ a ∷ [])
fit_snoc w x [] a h f = let e : w + 0 ≡ w = omega arith in let g : x + 0 ≡ x = omega arith in (rw (e, g) at f, tt)
fit_snoc w x (b ∷ us) a h f =
    (h.0, fit_snoc (w + length b.dimensions) (x + length b.bytes) us a h.1 (rw (length-append b.dimensions (all_dims us), length-append b.bytes (all_data us), ← add_assoc w (length b.dimensions) (length (all_dims us)), ← add_assoc x (length b.bytes) (length (all_data us))) at f))

pub recs_length : (w x : ℕ) (us : List Addition) → AllFit w x us → length (recs w x us) ≡ 84 * length us
recs_length w x [] h = refl
recs_length w x (a ∷ us) h =
    rw (length-append (record_bytes (node_for w x a)) (recs (w + length a.dimensions) (x + length a.bytes) us), record_length (node_for w x a) h.0, recs_length (w + length a.dimensions) (x + length a.bytes) us h.1) (omega arith)

-- records written are read as the nodes
pub nodes-written : (w x : ℕ) (us : List Addition) (rest : List ℕ) → AllFit w x us → nodes_of (length us) (recs w x us ++ rest) ≡ placed w x us
unfolding nodes_of
nodes-written w x [] rest h = refl
nodes-written w x (a ∷ us) rest h =
    rw (append_assoc (record_bytes (node_for w x a)) (recs (w + length a.dimensions) (x + length a.bytes) us) rest, node-written (node_for w x a) h.0 (recs (w + length a.dimensions) (x + length a.bytes) us ++ rest), drop_at (record_bytes (node_for w x a)) (recs (w + length a.dimensions) (x + length a.bytes) us ++ rest) 84 (record_length (node_for w x a) h.0), nodes-written (w + length a.dimensions) (x + length a.bytes) us rest h.1)

-- the room
unfoldable pub head : ℕ → ℕ → ℕ → List ℕ
head n d x = all_bytes 4 (header_words n d x)

abbrev pub form : ℕ → ℕ → ℕ → List Addition → List ℕ → List ℕ
form n d x us rest =
    head n d x ++ (fill (84 * n) (recs 0 0 us) ++ (fill (8 * d) (all_bytes 8 (all_dims us)) ++ (fill x (all_data us) ++ rest)))

abbrev pub state_after : ℕ → ℕ → ℕ → List Addition → Writer
state_after n d x us = record { nodes = n; words = d; bytes = x; node = length us; word = length (all_dims us); byte = length (all_data us) }

abbrev pub draft_for : ℕ → ℕ → ℕ → List Addition → List ℕ → Draft
draft_for n d x us rest = record { state = state_after n d x us; room = form n d x us rest }

pub head_length : (n d x : ℕ) → length (head n d x) ≡ 32
unfolding head
head_length n d x = length-all_bytes 4 (header_words n d x)

-- what an addition needs to be written in its place
module _ (n d x : ℕ) (us : List Addition) (a : Addition) (rest : List ℕ) where
  pub record Room : Type 0 where
    pub all_fit : AllFit 0 0 us
    pub fits : Fits (node_for (length (all_dims us)) (length (all_data us)) a)
    pub node-room : length us < n
    pub words-room : length (all_dims us) + length a.dimensions ≤ d
    pub bytes-room : length (all_data us) + length a.bytes ≤ x

  module _ (r : Room) where
    record_put : over_at (32 + 84 * length us) (form n d x us rest) (record_bytes (node_for (length (all_dims us)) (length (all_data us)) a))
        ≡ head n d x ++ (fill (84 * n) (recs 0 0 us ++ record_bytes (node_for (length (all_dims us)) (length (all_data us)) a)) ++ (fill (8 * d) (all_bytes 8 (all_dims us)) ++ (fill x (all_data us) ++ rest)))
    record_put =
        let l = recs_length 0 0 us r.all_fit in
        let m = record_length (node_for (length (all_dims us)) (length (all_data us)) a) r.fits in
        part_more (32 + 84 * length us) (84 * n) (head n d x) (recs 0 0 us) _ _ (rw (head_length n d x, l)) (rw (l, m) (omega (arith, r.node-room)))

    words_put : (f : List ℕ) → length f ≡ 84 * n
        → over_at (32 + 84 * n + 8 * length (all_dims us)) (head n d x ++ (f ++ (fill (8 * d) (all_bytes 8 (all_dims us)) ++ (fill x (all_data us) ++ rest)))) (all_bytes 8 a.dimensions)
        ≡ head n d x ++ (f ++ (fill (8 * d) (all_bytes 8 (all_dims us) ++ all_bytes 8 a.dimensions) ++ (fill x (all_data us) ++ rest)))
    words_put f e =
        let l = length-all_bytes 8 (all_dims us) in
        let m = length-all_bytes 8 a.dimensions in
        let q : length (head n d x ++ f) ≡ 32 + 84 * n = rw (length-append (head n d x) f, head_length n d x, e) in
        ap (λ (s : List ℕ). over_at (32 + 84 * n + 8 * length (all_dims us)) s (all_bytes 8 a.dimensions)) (sym (append_assoc (head n d x) f _))
        ∙ part_more (32 + 84 * n + 8 * length (all_dims us)) (8 * d) (head n d x ++ f) (all_bytes 8 (all_dims us)) (fill x (all_data us) ++ rest) (all_bytes 8 a.dimensions) (rw (q, l)) (rw (l, m) (omega (arith, r.words-room)))
        ∙ append_assoc (head n d x) f _

    bytes_put : (f g : List ℕ) → length f ≡ 84 * n → length g ≡ 8 * d
        → over_at (32 + 84 * n + 8 * d + length (all_data us)) (head n d x ++ (f ++ (g ++ (fill x (all_data us) ++ rest)))) a.bytes
        ≡ head n d x ++ (f ++ (g ++ (fill x (all_data us ++ a.bytes) ++ rest)))
    bytes_put f g e h =
        let q : length (head n d x ++ (f ++ g)) ≡ 32 + 84 * n + 8 * d = rw (length-append (head n d x) (f ++ g), length-append f g, head_length n d x, e, h) (omega arith) in
        ap (λ (s : List ℕ). over_at (32 + 84 * n + 8 * d + length (all_data us)) s a.bytes) (sym (regroup (fill x (all_data us) ++ rest)))
        ∙ part_more (32 + 84 * n + 8 * d + length (all_data us)) x (head n d x ++ (f ++ g)) (all_data us) rest a.bytes (rw q) r.bytes-room
        ∙ regroup (fill x (all_data us ++ a.bytes) ++ rest)
      where
        regroup : (s : List ℕ) → head n d x ++ (f ++ g) ++ s ≡ head n d x ++ (f ++ (g ++ s))
        regroup s = append_assoc (head n d x) (f ++ g) s ∙ ap (λ (z : List ℕ). head n d x ++ z) (append_assoc f g s)

    -- an addition after others is one more of them
    pub node_put : with_node (state_after n d x us) a (form n d x us rest) ≡ form n d x (us ++ a ∷ []) rest
    unfolding with_node words_place bytes_place added_node
    node_put =
        let m = record_length (node_for (length (all_dims us)) (length (all_data us)) a) r.fits in
        let k = recs_length 0 0 us r.all_fit in
        let e : length (fill (84 * n) (recs 0 0 us ++ record_bytes (node_for (length (all_dims us)) (length (all_data us)) a))) ≡ 84 * n = fill_length (84 * n) (recs 0 0 us ++ record_bytes (node_for (length (all_dims us)) (length (all_data us)) a)) (rw (length-append (recs 0 0 us) (record_bytes (node_for (length (all_dims us)) (length (all_data us)) a)), k, m) (omega (arith, r.node-room))) in
        let f : length (fill (8 * d) (all_bytes 8 (all_dims us) ++ all_bytes 8 a.dimensions)) ≡ 8 * d = fill_length (8 * d) (all_bytes 8 (all_dims us) ++ all_bytes 8 a.dimensions) (rw (length-append (all_bytes 8 (all_dims us)) (all_bytes 8 a.dimensions), length-all_bytes 8 (all_dims us), length-all_bytes 8 a.dimensions) (omega (arith, r.words-room))) in
        ap (λ (s : List ℕ). over_at (32 + 84 * n + 8 * d + length (all_data us)) (over_at (32 + 84 * n + 8 * length (all_dims us)) s (all_bytes 8 a.dimensions)) a.bytes) record_put
        ∙ ap (λ (s : List ℕ). over_at (32 + 84 * n + 8 * d + length (all_data us)) s a.bytes) (words_put (fill (84 * n) (recs 0 0 us ++ record_bytes (node_for (length (all_dims us)) (length (all_data us)) a))) e)
        ∙ bytes_put (fill (84 * n) (recs 0 0 us ++ record_bytes (node_for (length (all_dims us)) (length (all_data us)) a))) (fill (8 * d) (all_bytes 8 (all_dims us) ++ all_bytes 8 a.dimensions)) e f
        ∙ one_more
      where
        one_more : head n d x ++ (fill (84 * n) (recs 0 0 us ++ record_bytes (node_for (length (all_dims us)) (length (all_data us)) a)) ++ (fill (8 * d) (all_bytes 8 (all_dims us) ++ all_bytes 8 a.dimensions) ++ (fill x (all_data us ++ a.bytes) ++ rest)))
            ≡ form n d x (us ++ a ∷ []) rest
        one_more = rw (recs_snoc us a, dims_join us (a ∷ []), data_join us (a ∷ []), append-nil a.dimensions, append-nil a.bytes, all_bytes_join 8 (all_dims us) a.dimensions)

-- a start, and one more addition
blank-is : (n d x : ℕ) → blank_image n d x ≡ head n d x ++ replicate (84 * n + 8 * d + x) 0
unfolding blank_image head
blank-is n d x = refl

fill_none : (m : ℕ) → fill m [] ≡ replicate m 0
fill_none m = let e : m - 0 ≡ m = omega arith in rw e

zeros_split : (a b c : ℕ) (rest : List ℕ) → replicate (a + b + c) 0 ++ rest ≡ fill a [] ++ (fill b [] ++ (fill c [] ++ rest))
zeros_split a b c rest =
    rw (fill_none a, fill_none b, fill_none c, ← replicate-append-replicate {A = ℕ} (a + b) c 0, ← replicate-append-replicate {A = ℕ} a b 0) (simp append_assoc)

over-blank : (n d x : ℕ) (room : List ℕ) → over room (head n d x ++ replicate (84 * n + 8 * d + x) 0) ≡ form n d x [] (drop (room_for n d x) room)
unfolding over room_for
over-blank n d x room =
    let l : length (head n d x ++ replicate (84 * n + 8 * d + x) 0) ≡ 32 + 84 * n + 8 * d + x = rw (length-append (head n d x) (replicate (84 * n + 8 * d + x) 0), head_length n d x, length-replicate {A = ℕ} (84 * n + 8 * d + x) 0) (omega arith) in
    rw l (append_assoc (head n d x) (replicate (84 * n + 8 * d + x) 0) (drop (32 + 84 * n + 8 * d + x) room) ∙ ap (λ (s : List ℕ). head n d x ++ s) (zeros_split (84 * n) (8 * d) x (drop (32 + 84 * n + 8 * d + x) room)))

pub start_form : (n d x : ℕ) (room : List ℕ) → start_check n d x (length room) ≡ passed → start_memory n d x room ≡ form n d x [] (drop (room_for n d x) room)
unfolding start_memory leaves
start_form n d x room e = rw (e, blank-is n d x) (over-blank n d x room)

pub same-state : {n d x i w y n' d' x' i' w' y' : ℕ} → n ≡ n' → d ≡ d' → x ≡ x' → i ≡ i' → w ≡ w' → y ≡ y'
    → ◌≡◌ {A = Writer} (record { nodes = n; words = d; bytes = x; node = i; word = w; byte = y }) (record { nodes = n'; words = d'; bytes = x'; node = i'; word = w'; byte = y' })
same-state p q r s t u = cc

pub same-draft : {s s' : Writer} {r r' : List ℕ} → s ≡ s' → r ≡ r' → ◌≡◌ {A = Draft} (record { state = s; room = r }) (record { state = s'; room = r' })
same-draft p q = cc

pub draft_step : (n d x : ℕ) (us : List Addition) (a : Addition) (rest : List ℕ) → Room n d x us a rest → with_added (draft_for n d x us rest) a ≡ draft_for n d x (us ++ a ∷ []) rest
unfolding with_added next_state
draft_step n d x us a rest r =
    same-draft (same-state refl refl refl (sym (length-append us (a ∷ []) ∙ add-one (length us))) (sym (ap length (dims_join us (a ∷ [])) ∙ rw (append-nil a.dimensions) (length-append (all_dims us) a.dimensions))) (sym (ap length (data_join us (a ∷ [])) ∙ rw (append-nil a.bytes) (length-append (all_data us) a.bytes))))
    (node_put n d x us a rest r)
