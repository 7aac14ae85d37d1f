-- the finished image reads back to exactly the nodes added.
use Prim.Native.Nat.{ℕ, suc}
use mathlib.Core.Path.{◌≡◌, refl, sym, ap, subst, ◌∙◌}
use mathlib.Core.Bool.{Bool, true, false, cond}
use mathlib.Core.List.{List, [], ◌∷◌, ◌++◌, append_assoc}
use native.Mathlib.Omega.{arith}
use native.Mathlib.Numerals.{add-one}
use lib.ListN.{length, length-append}
use lib.Dec.{eqb}
use Rattle.model.specs.Image.{Node, Tree, tree_of, node, name, label, parent, stored}
use Rattle.model.specs.Records.{words_lawful, record_rules}
use Rattle.model.specs.ReadList.{values_from}
use Rattle.writer_model.specs.Writer.{Addition, type_field}
use Rattle.writer_model.specs.Claims.{IsWords, as_stored, all_stored, node_read, nodes_read}
use Rattle.writer_model.proofs.RecordBytes.{Fits}
use Rattle.writer_model.proofs.SameTable.{dimensions-same}
use Rattle.writer_model.proofs.Drafts.{all_dims, all_data, node_for}
use Rattle.writer_model.proofs.Additions.{tree_for}
use Rattle.writer_model.proofs.AddedNodes.{node_there, dimensions_there, stored_there}
use Rattle.writer_model.proofs.Finished.{Good, good_at, image_for, Full, tree_is, words-front}

pub same-addition : {n l y ds xs n' l' y' ds' xs' : List ℕ} {p p' : ℕ} → n ≡ n' → l ≡ l' → y ≡ y' → ds ≡ ds' → p ≡ p' → xs ≡ xs'
    → ◌≡◌ {A = Addition} (record { name = n; label = l; data_type = y; dimensions = ds; parent = p; bytes = xs })
    (record { name = n'; label = l'; data_type = y'; dimensions = ds'; parent = p'; bytes = xs' })
same-addition a b c d e f = cc

-- a type of two bytes is stored as it is
pub type-kept : (s : List ℕ) → length (type_field s) ≡ 2 → type_field s ≡ s
unfolding type_field
type-kept s = by_test (eqb (length s) 2)
  where
    by_test : (t : Bool) → length (cond t s []) ≡ 2 → cond t s [] ≡ s
    by_test true h = refl
    by_test false h = absurd (omega arith)

module _ (n d x : ℕ) (us : List Addition) (b : Addition) (vs : List Addition) (f : Full n d x (us ++ b ∷ vs)) (g : Good n d x [] (us ++ b ∷ vs)) where
  words_lawful_lem : words_lawful (tree_for d x (us ++ b ∷ vs)) (length us) ≡ true
  unfolding words_lawful record_rules
  words_lawful_lem =
      let h = good_at n d x [] (us ++ b ∷ vs) g (length us) (omega arith) (rw (length-append us (b ∷ vs)) (omega arith)) in
      h.1.1.1.1.1.1.1.1.0

  read_there : IsWords b.dimensions → Fits (node_for (length (all_dims us)) (length (all_data us)) b) → node_read (tree_of (image_for n d x (us ++ b ∷ vs))) (length us) ≡ as_stored b
  unfolding node_read as_stored name label parent stored node
  read_there h q =
      let e = node_there d x us b vs in
      rw (tree_is n d x (us ++ b ∷ vs) f)
      (same-addition (ap (λ (z : Node). z.name) e) (ap (λ (z : Node). z.label) e) (ap (λ (z : Node). z.data_type) e ∙ type-kept b.data_type q.type_fits_lem)
      (dimensions-same (tree_for d x (us ++ b ∷ vs)) _ _ _ (words-front n d x (us ++ b ∷ vs) f) (length us) words_lawful_lem ∙ dimensions_there d x us b vs h)
      (ap (λ (z : Node). z.parent) e)
      (stored_there d x us b vs))

module _ (n d x : ℕ) (all : List Addition) (f : Full n d x all) (g : Good n d x [] all) where
  reads : (us vs : List Addition) → us ++ vs ≡ all → Good n d x us vs → values_from (node_read (tree_of (image_for n d x all))) (length vs) (length us) ≡ all_stored vs
  unfolding values_from all_stored
  reads us [] e h = refl
  reads us (b ∷ vs) e h =
      let k : length (us ++ b ∷ []) ≡ suc (length us) = length-append us (b ∷ []) ∙ add-one (length us) in
      let here : node_read (tree_of (image_for n d x all)) (length us) ≡ as_stored b = subst (λ (ws : List Addition). node_read (tree_of (image_for n d x ws)) (length us) ≡ as_stored b) e (read_there n d x us b vs (subst (Full n d x) (sym e) f) (subst (Good n d x []) (sym e) g) h.0 h.2) in
      rw (here, ← k, reads (us ++ b ∷ []) vs (append_assoc us (b ∷ []) vs ∙ e) h.3)

  pub read_back : nodes_read (tree_of (image_for n d x all)) ≡ all_stored all
  unfolding nodes_read
  read_back = ap (λ (k : ℕ). values_from (node_read (tree_of (image_for n d x all))) k 0) (ap (λ (t : Tree). t.count) (tree_is n d x all f)) ∙ reads [] all refl g
