-- the tree of the nodes added: each node, its dimensions, its data, the running sums; each node that was judged when it was added is lawful among all.
use Prim.Native.Nat.{ℕ, zero, suc, ◌+◌, ◌*◌, ◌≤◌, ◌<◌}
use mathlib.Core.Path.{◌≡◌, refl, sym, ap, subst, ◌∙◌}
use mathlib.Core.List.{List, [], ◌∷◌, ◌++◌, append_assoc}
use native.Mathlib.Omega.{arith}
use native.Mathlib.Nat.{zero-add}
use lib.ListN.{length, get_or, length-append, get_or-append}
use lib.Seq.{drop_at, take_at, get_or_at}
use Rattle.model.specs.Lists.{sum_before}
use Rattle.model.specs.Image.{Node, Tree, node_of, node, dimensions, stored}
use Rattle.model.specs.Records.{words_before, words_lawful, bytes_before, data_at_lawful, record_rules}
use Rattle.model.specs.Bytes.{all_bytes}
use Rattle.writer_model.specs.Writer.{Addition, addition_rules}
use Rattle.writer_model.specs.Claims.{IsWords}
use Rattle.model.proofs.Passed.{Hold}
use Rattle.model.proofs.LittleEndian.{length-all_bytes}
use Rattle.writer_model.proofs.WrittenNumbers.{numbers-written}
use Rattle.writer_model.proofs.Drafts.{all_dims, all_data, node_for, placed, dims_join, data_join, placed_join, all_bytes_join, state_after}
use Rattle.writer_model.proofs.Additions.{tree_for, placed-length}
use Rattle.writer_model.proofs.Prefix.{rules_prefix}

-- sums from the front
sum_front : (f : ℕ → ℕ) (n : ℕ) → sum_before f (suc n) ≡ f 0 + sum_before (λ j. f (suc j)) n
unfolding sum_before
sum_front f zero = omega arith
sum_front f (suc n) = rw (sum_front f n) (omega arith)

pub sum_rank : (w x : ℕ) (us : List Addition) (more : List Node) (z : Node) → sum_before (λ j. (get_or (placed w x us ++ more) j z).rank) (length us) ≡ length (all_dims us)
unfolding sum_before
sum_rank w x [] more z = refl
sum_rank w x (a ∷ us) more z =
    sum_front (λ j. (get_or (placed w x (a ∷ us) ++ more) j z).rank) (length us)
    ∙ rw (sum_rank (w + length a.dimensions) (x + length a.bytes) us more z) (sym (length-append a.dimensions (all_dims us)))

pub sum_size : (w x : ℕ) (us : List Addition) (more : List Node) (z : Node) → sum_before (λ j. (get_or (placed w x us ++ more) j z).data_size) (length us) ≡ length (all_data us)
unfolding sum_before
sum_size w x [] more z = refl
sum_size w x (a ∷ us) more z =
    sum_front (λ j. (get_or (placed w x (a ∷ us) ++ more) j z).data_size) (length us)
    ∙ rw (sum_size (w + length a.dimensions) (x + length a.bytes) us more z) (sym (length-append a.bytes (all_data us)))

-- node b between others
module _ (d x : ℕ) (us : List Addition) (b : Addition) (vs : List Addition) where
  abbrev W : ℕ
  W = length (all_dims us)

  abbrev X : ℕ
  X = length (all_data us)

  abbrev tree : Tree
  tree = tree_for d x (us ++ b ∷ vs)

  split_nodes : placed 0 0 (us ++ b ∷ vs) ≡ placed 0 0 us ++ node_for W X b ∷ placed (W + length b.dimensions) (X + length b.bytes) vs
  split_nodes = placed_join 0 0 us (b ∷ vs) ∙ rw (zero-add W, zero-add X)

  pub node_there : node tree (length us) ≡ node_for W X b
  unfolding node
  node_there = rw split_nodes (get_or_at (placed 0 0 us) (node_for W X b) _ (node_of []) (length us) (placed-length 0 0 us))

  pub words_there : words_before tree (length us) ≡ W
  unfolding words_before node
  words_there = rw split_nodes (sum_rank 0 0 us _ (node_of []))

  pub bytes_there : bytes_before tree (length us) ≡ X
  unfolding bytes_before node
  bytes_there = rw split_nodes (sum_size 0 0 us _ (node_of []))

  pub dimensions_there : IsWords b.dimensions → dimensions tree (length us) ≡ b.dimensions
  unfolding dimensions
  dimensions_there h =
      rw (node_there, dims_join us (b ∷ vs), all_bytes_join 8 (all_dims us) (b.dimensions ++ all_dims vs), drop_at (all_bytes 8 (all_dims us)) (all_bytes 8 (b.dimensions ++ all_dims vs)) (8 * W) (length-all_bytes 8 (all_dims us)), all_bytes_join 8 b.dimensions (all_dims vs))
      (numbers-written 8 b.dimensions (all_bytes 8 (all_dims vs)) h)

  pub stored_there : stored tree (length us) ≡ b.bytes
  unfolding stored
  stored_there =
      rw (node_there, data_join us (b ∷ vs), drop_at (all_data us) (b.bytes ++ all_data vs) X refl) (take_at b.bytes (all_data vs) (length b.bytes) refl)

-- what comes after makes no difference
module _ (n d x : ℕ) (us : List Addition) (b : Addition) (vs : List Addition) (h : IsWords b.dimensions) where
  same-before : (j : ℕ) → j ≤ length us → node (tree_for d x (us ++ b ∷ [])) j ≡ node (tree_for d x (us ++ b ∷ vs)) j
  unfolding node
  same-before j l =
      let g : j < length (placed 0 0 (us ++ b ∷ [])) = rw (placed-length 0 0 (us ++ b ∷ []), length-append us (b ∷ [])) (omega arith) in
      let e : placed 0 0 (us ++ b ∷ vs) ≡ placed 0 0 (us ++ b ∷ []) ++ placed (0 + length (all_dims (us ++ b ∷ []))) (0 + length (all_data (us ++ b ∷ []))) vs = ap (placed 0 0) (sym (append_assoc us (b ∷ []) vs)) ∙ placed_join 0 0 (us ++ b ∷ []) vs in
      rw e (sym (get_or-append (placed 0 0 (us ++ b ∷ [])) _ (node_of []) j g))

  pub lawful_there : Hold (addition_rules (tree_for d x (us ++ b ∷ [])) (state_after n d x us)) → Hold (record_rules (tree_for d x (us ++ b ∷ vs)) (length us))
  unfolding addition_rules record_rules words_lawful data_at_lawful
  lawful_there q =
      rw (words_there d x us b vs, bytes_there d x us b vs)
      (subst Hold
      (rules_prefix (tree_for d x (us ++ b ∷ [])) (tree_for d x (us ++ b ∷ vs)) (length us) same-before q.0 (dimensions_there d x us b [] h ∙ sym (dimensions_there d x us b vs h)) refl refl (length (all_dims us)) (length (all_data us)))
      q.1)
