-- an addition is judged in the room as in the tree of the nodes added, and what it then needs to be written has room.
use Prim.Native.Nat.{ℕ, zero, suc, ◌+◌, ◌*◌, ◌≤◌, ◌<◌}
use mathlib.Core.Path.{◌≡◌, refl, sym, ap, ◌∙◌}
use mathlib.Core.Bool.{Bool}
use mathlib.Core.List.{List, [], ◌∷◌, ◌++◌, append_assoc, append-nil}
use native.Mathlib.Omega.{arith}
use native.Mathlib.Nat.{zero-add}
use native.Mathlib.Numerals.{add-one}
use lib.ListN.{length, drop, replicate, length-append, length-replicate}
use lib.Seq.{drop_at, get_or_at}
use Rattle.model.specs.Rules.{Rule, ◌unless◌, check}
use Rattle.model.specs.Image.{Node, Tree, node_of, nodes_of, node, name, label, parent, dimensions, data_type_of, width}
use Rattle.model.specs.Records.{parent_lawful, name_taken, namesake, sibling, link, rank_lawful, data_size_lawful}
use Rattle.writer_model.specs.After.{rules_after}
use Rattle.model.specs.Bytes.{all_bytes}
use Rattle.writer_model.specs.Writer.{Addition, added_node, tree_with, line_lawful, addition_rules}
use Rattle.model.proofs.Passed.{Hold}
use Rattle.model.proofs.LittleEndian.{length-all_bytes}
use Rattle.writer_model.proofs.Parts.{parts, parent_fits, fits}
use Rattle.writer_model.proofs.SameTable.{other, same-tree, deeper_same}
use Rattle.writer_model.proofs.Drafts.{all_dims, all_data, node_for, placed, recs, AllFit, dims_join, placed_join, all_bytes_join, nodes-written, head, head_length, form, state_after, Room}

-- the tree of the nodes added
abbrev pub tree_for : ℕ → ℕ → List Addition → Tree
tree_for d x us =
    record {
      count = length us;
      nodes = placed 0 0 us;
      word_total = d;
      words = all_bytes 8 (all_dims us);
      area_at = 0;
      byte_total = x;
      bytes = all_data us;
    }

pub placed-length : (w x : ℕ) (us : List Addition) → length (placed w x us) ≡ length us
placed-length w x [] = refl
placed-length w x (a ∷ us) = rw (placed-length (w + length a.dimensions) (x + length a.bytes) us)

pub placed_snoc : (us : List Addition) (a : Addition) → placed 0 0 (us ++ a ∷ []) ≡ placed 0 0 us ++ node_for (length (all_dims us)) (length (all_data us)) a ∷ []
placed_snoc us a = placed_join 0 0 us (a ∷ []) ∙ rw (zero-add (length (all_dims us)), zero-add (length (all_data us)))

-- the same nodes, other words
module _ (t : Tree) (ws bs : List ℕ) (area : ℕ) where
  pub line_same : (d i : ℕ) → line_lawful (other t ws bs area) d i ≡ line_lawful t d i
  unfolding line_lawful parent_lawful parent node
  line_same zero i = refl
  line_same (suc d) i = rw (line_same d (parent t i))

  pub rules_same : (w x i : ℕ) → dimensions (other t ws bs area) i ≡ dimensions t i → rules_after (other t ws bs area) w x i ≡ rules_after t w x i
  unfolding parent_lawful parent node name label name_taken namesake sibling link data_type_of rank_lawful data_size_lawful width
  rules_same w x i e = rw (deeper_same t ws bs area 32 i, e)

module _ (n d x : ℕ) (us : List Addition) (a : Addition) (rest : List ℕ) where
  abbrev last : Node
  last = node_for (length (all_dims us)) (length (all_data us)) a

  abbrev more : Tree
  more = tree_for d x (us ++ a ∷ [])

  pub last-node : node more (length us) ≡ last
  unfolding node
  last-node = rw (placed_snoc us a) (get_or_at (placed 0 0 us) last [] (node_of []) (length us) (placed-length 0 0 us))

  module _ (f : AllFit 0 0 us) where
    room-nodes : nodes_of (length us) (drop 32 (form n d x us rest)) ≡ placed 0 0 us
    room-nodes =
        ap (nodes_of (length us)) (drop_at (head n d x) _ 32 (head_length n d x) ∙ append_assoc (recs 0 0 us) _ _) ∙ nodes-written 0 0 us _ f

    abbrev own_words : List ℕ
    own_words = replicate (8 * length (all_dims us)) 0 ++ all_bytes 8 a.dimensions

    with_is : tree_with (state_after n d x us) a (form n d x us rest) ≡ other more own_words [] 0
    unfolding tree_with added_node
    with_is =
        same-tree (sym (length-append us (a ∷ []) ∙ add-one (length us))) (rw room-nodes (sym (placed_snoc us a))) refl refl refl

    own-dimensions : dimensions (other more own_words [] 0) (length us) ≡ dimensions more (length us)
    unfolding dimensions node
    own-dimensions =
        rw (last-node, drop_at (replicate (8 * length (all_dims us)) 0) (all_bytes 8 a.dimensions) (8 * length (all_dims us)) (length-replicate {A = ℕ} (8 * length (all_dims us)) 0), dims_join us (a ∷ []), append-nil a.dimensions, all_bytes_join 8 (all_dims us) a.dimensions, drop_at (all_bytes 8 (all_dims us)) (all_bytes 8 a.dimensions) (8 * length (all_dims us)) (length-all_bytes 8 (all_dims us)))

    -- judged in the room as in the tree of the nodes added
    pub addition_judged : check (length us) (addition_rules (tree_with (state_after n d x us) a (form n d x us rest)) (state_after n d x us))
        ≡ check (length us) (addition_rules more (state_after n d x us))
    unfolding addition_rules
    addition_judged =
        ap (λ (t : Tree). check (length us) (addition_rules t (state_after n d x us))) with_is
        ∙ ap (λ (rs : List Rule). check (length us) rs) (same_rules (line_same more own_words [] 0 (length us) (length us)) (rules_same more own_words [] 0 (length (all_dims us)) (length (all_data us)) (length us) own-dimensions))
      where
        same_rules : {p q : Bool} {rs qs : List Rule} → p ≡ q → rs ≡ qs → ◌≡◌ {A = List Rule} (7 unless p ∷ rs) (7 unless q ∷ qs)
        same_rules e g = rw (e, g)

-- what the limits of a start and the rules say of the node added
pub record Limits (n d x : ℕ) : Type 0 where
  pub some : 1 ≤ n
  pub few : n ≤ 4096
  pub few_words : d ≤ 49152
  pub short : 32 + 84 * n + 8 * d + x ≤ 16777216

module _ (n d x : ℕ) (us : List Addition) (a : Addition) (rest : List ℕ) (l : Limits n d x) (f : AllFit 0 0 us) (i : length us < n)
    (h : Hold (addition_rules (tree_for d x (us ++ a ∷ [])) (state_after n d x us))) where
  pub room_for_lem : Room n d x us a rest
  unfolding added_node
  room_for_lem =
      let c = l.few in
      let s = l.short in
      let m = l.few_words in
      let t = tree_for d x (us ++ a ∷ []) in
      let e = last-node n d x us a rest in
      let q = parts t (state_after n d x us) a e refl refl h in
      let p = parent_fits t (state_after n d x us) a e refl refl h (omega (arith, i, c)) in
      let n14 = q.rank-small in
      let n15 = q.words-room in
      let n17 = q.bytes-room in
      record {
        all_fit = f;
        fits = fits q p (omega (arith, n15, m)) (omega (arith, n17, s));
        node-room = i;
        words-room = n15;
        bytes-room = n17;
      }
