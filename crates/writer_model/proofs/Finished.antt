-- the bytes of all nodes added are an image that passes rules 1 to 18 and reads back to them.
use Prim.Native.Nat.{ℕ, zero, suc, ◌+◌, ◌*◌, ◌^◌, ◌≤◌, ◌<◌}
use mathlib.Core.Path.{◌≡◌, refl, sym, ap, subst, ◌∙◌}
use mathlib.Core.List.{List, [], ◌∷◌, ◌++◌, append_assoc, append-nil}
use native.Mathlib.Omega.{arith}
use native.Mathlib.Decide.{ℕ_discrete}
use lib.ListN.{length, take, drop, get_or, length-append}
use lib.Seq.{drop_at, take-append-le}
use borrow.Author.Tests.{le-leb, eq-eqb}
use Rattle.model.specs.Lists.{sum_before}
use Rattle.model.specs.Rules.{Rule, ◌unless◌, Check, passed, check, check_from}
use Rattle.model.specs.Image.{Node, Tree, tree_of, node_of, nodes_of, node, header_word, form, total_length, node_count, record_offset, dimension_offset, word_count, data_offset, data_length}
use Rattle.model.specs.Header.{header_rules, header_check, length_lawful, node_count_lawful, laid_out}
use Rattle.model.specs.Records.{words_before, bytes_before, record_rules, record_check_at, record_check, nothing_trails, trailing_check, table_check}
use Rattle.model.specs.Bytes.{all_bytes}
use Rattle.model.specs.Build.{header_words}
use Rattle.writer_model.specs.Writer.{Addition, addition_rules}
use Rattle.writer_model.specs.Claims.{Below, IsWords}
use Rattle.model.proofs.Logic.{and_both}
use Rattle.model.proofs.Passed.{Hold, then-on}
use Rattle.model.proofs.Reading.{numbers-at}
use Rattle.model.proofs.LittleEndian.{length-all_bytes}
use Rattle.writer_model.proofs.WrittenNumbers.{numbers-written}
use Rattle.writer_model.proofs.RecordBytes.{Fits}
use Rattle.writer_model.proofs.SameTable.{other, records_same}
use Rattle.writer_model.proofs.Drafts.{all_dims, all_data, node_for, placed, recs, AllFit, recs_length, nodes-written, head, head_length, state_after}
use Rattle.writer_model.proofs.Additions.{tree_for, Limits}
use Rattle.writer_model.proofs.AddedNodes.{sum_rank, sum_size, lawful_there}

-- every rule of a list holds, so the check passes
pub pass_check : (i : ℕ) (rules : List Rule) → Hold rules → check i rules ≡ passed
unfolding check
pass_check i [] h = refl
pass_check i ((rule unless holds) ∷ rest) h = rw h.0 (pass_check i rest h.1)

pub pass_from : (f : ℕ → Check) (k i : ℕ) → ((j : ℕ) → i ≤ j → j < i + k → f j ≡ passed) → check_from f k i ≡ passed
unfolding check_from
pass_from f zero i e = refl
pass_from f (suc k) i e = then-on _ (e i (omega arith) (omega arith)) ∙ pass_from f k (suc i) (λ j l h. e j (omega arith) (omega arith))

-- each was lawful when it was added, after us
abbrev pub Good : ℕ → ℕ → ℕ → List Addition → List Addition → Type 0
Good n d x us [] = Unit {0}
Good n d x us (b ∷ vs) =
    IsWords b.dimensions × Hold (addition_rules (tree_for d x (us ++ b ∷ [])) (state_after n d x us)) × Fits (node_for (length (all_dims us)) (length (all_data us)) b) × Good n d x (us ++ b ∷ []) vs

pub good_at : (n d x : ℕ) (us vs : List Addition) → Good n d x us vs → (i : ℕ) → length us ≤ i → i < length (us ++ vs) → Hold (record_rules (tree_for d x (us ++ vs)) i)
good_at n d x us [] g i l h = let e : length (us ++ []) ≡ length us = ap length (append-nil us) in absurd (omega arith)
good_at n d x us (b ∷ vs) g i l h =
    let e : us ++ b ∷ [] ++ vs ≡ us ++ b ∷ vs = append_assoc us (b ∷ []) vs in
    elim (ℕ_discrete (length us) i) [
      | yes q ↦ subst (λ (j : ℕ). Hold (record_rules (tree_for d x (us ++ b ∷ vs)) j)) q (lawful_there n d x us b vs g.0 g.1)
      | no q ↦ subst (λ (ws : List Addition). Hold (record_rules (tree_for d x ws) i)) e (good_at n d x (us ++ b ∷ []) vs g.3 i (rw (length-append us (b ∷ [])) (omega (arith, q))) (rw e h))
    ]

pub whole-tree : {n d x a n' d' x' a' : ℕ} {ns ns' : List Node} {ws bs ws' bs' : List ℕ} → n ≡ n' → ns ≡ ns' → d ≡ d' → ws ≡ ws' → a ≡ a' → x ≡ x' → bs ≡ bs'
    → ◌≡◌ {A = Tree} (record { count = n; nodes = ns; word_total = d; words = ws; area_at = a; byte_total = x; bytes = bs })
    (record { count = n'; nodes = ns'; word_total = d'; words = ws'; area_at = a'; byte_total = x'; bytes = bs' })
whole-tree p q r s t u v = cc

-- the image
abbrev pub image_for : ℕ → ℕ → ℕ → List Addition → List ℕ
image_for n d x vs = head n d x ++ (recs 0 0 vs ++ (all_bytes 8 (all_dims vs) ++ all_data vs))

-- all nodes, words and bytes used
pub record Full (n d x : ℕ) (vs : List Addition) : Type 0 where
  pub limits : Limits n d x
  pub all_fit : AllFit 0 0 vs
  pub nodes-used : length vs ≡ n
  pub words-used : length (all_dims vs) ≡ d
  pub bytes-used : length (all_data vs) ≡ x

module _ (n d x : ℕ) (vs : List Addition) (f : Full n d x vs) where
  pub image-length : length (image_for n d x vs) ≡ 32 + 84 * n + 8 * d + x
  image-length =
      rw (length-append (head n d x) (recs 0 0 vs ++ (all_bytes 8 (all_dims vs) ++ all_data vs)), length-append (recs 0 0 vs) (all_bytes 8 (all_dims vs) ++ all_data vs), length-append (all_bytes 8 (all_dims vs)) (all_data vs), head_length n d x, recs_length 0 0 vs f.all_fit, length-all_bytes 8 (all_dims vs), f.nodes-used, f.words-used, f.bytes-used)
      (omega arith)

  words_small : Below (256 ^ 4) (header_words n d x)
  unfolding Below
  words_small =
      let s = f.limits.short in
      (omega arith, (omega (arith, s), (omega (arith, s), (omega arith, (omega (arith, s), (omega (arith, s), (omega (arith, s), (omega (arith, s), tt))))))))

  header_is : (k : ℕ) → k < 8 → header_word (image_for n d x vs) k ≡ get_or (header_words n d x) k 0
  unfolding header_word head
  header_is k h =
      sym (numbers-at 4 8 k (image_for n d x vs) h) ∙ ap (λ (s : List ℕ). get_or s k 0) (numbers-written 4 (header_words n d x) (recs 0 0 vs ++ (all_bytes 8 (all_dims vs) ++ all_data vs)) words_small)

  header_passes : header_check (image_for n d x vs) ≡ passed
  unfolding header_check header_rules length_lawful form node_count_lawful laid_out node_count record_offset dimension_offset word_count data_offset data_length total_length
  header_passes =
      let s = f.limits.short in
      rw (header_is 0 (omega arith), header_is 1 (omega arith), header_is 2 (omega arith), header_is 3 (omega arith), header_is 4 (omega arith), header_is 5 (omega arith), header_is 6 (omega arith), header_is 7 (omega arith), image-length)
      (pass_check 0 _ (and_both _ _ (le-leb 32 (32 + 84 * n + 8 * d + x) (omega arith)) (le-leb (32 + 84 * n + 8 * d + x) 16777216 s), (refl, (eq-eqb (32 + 84 * n + 8 * d + x) (32 + 84 * n + 8 * d + x) refl, (and_both _ _ (le-leb 1 n f.limits.some) (le-leb n 4096 f.limits.few), (le-leb d 49152 f.limits.few_words, (and_both _ _ (and_both _ _ (eq-eqb (32 + 84 * n) (32 + 84 * n) refl) (eq-eqb (32 + 84 * n + 8 * d) (32 + 84 * n + 8 * d) refl)) (eq-eqb (32 + 84 * n + 8 * d + x) (32 + 84 * n + 8 * d + x) refl), tt)))))))

  regroup_2 : image_for n d x vs ≡ head n d x ++ recs 0 0 vs ++ (all_bytes 8 (all_dims vs) ++ all_data vs)
  regroup_2 = sym (append_assoc (head n d x) (recs 0 0 vs) (all_bytes 8 (all_dims vs) ++ all_data vs))

  regroup_3 : image_for n d x vs ≡ head n d x ++ recs 0 0 vs ++ all_bytes 8 (all_dims vs) ++ all_data vs
  regroup_3 = regroup_2 ∙ sym (append_assoc (head n d x ++ recs 0 0 vs) (all_bytes 8 (all_dims vs)) (all_data vs))

  pub tree_is : tree_of (image_for n d x vs) ≡ other (tree_for d x vs) (all_bytes 8 (all_dims vs) ++ all_data vs) (all_data vs) (32 + 84 * n + 8 * d)
  unfolding tree_of node_count dimension_offset word_count data_offset data_length
  tree_is =
      whole-tree (header_is 2 (omega arith) ∙ sym f.nodes-used) nodes_are (header_is 5 (omega arith)) words_are (header_is 6 (omega arith)) (header_is 7 (omega arith)) bytes_are
    where
      nodes_are : nodes_of (header_word (image_for n d x vs) 2) (drop 32 (image_for n d x vs)) ≡ placed 0 0 vs
      nodes_are =
          rw (header_is 2 (omega arith) ∙ sym f.nodes-used, drop_at (head n d x) (recs 0 0 vs ++ (all_bytes 8 (all_dims vs) ++ all_data vs)) 32 (head_length n d x)) (nodes-written 0 0 vs (all_bytes 8 (all_dims vs) ++ all_data vs) f.all_fit)

      two : length (head n d x ++ recs 0 0 vs) ≡ 32 + 84 * n
      two = rw (length-append (head n d x) (recs 0 0 vs), head_length n d x, recs_length 0 0 vs f.all_fit, f.nodes-used)

      words_are : drop (header_word (image_for n d x vs) 4) (image_for n d x vs) ≡ all_bytes 8 (all_dims vs) ++ all_data vs
      words_are = ap (λ (k : ℕ). drop k (image_for n d x vs)) (header_is 4 (omega arith)) ∙ ap (drop (32 + 84 * n)) regroup_2 ∙ drop_at (head n d x ++ recs 0 0 vs) (all_bytes 8 (all_dims vs) ++ all_data vs) (32 + 84 * n) two

      three : length (head n d x ++ recs 0 0 vs ++ all_bytes 8 (all_dims vs)) ≡ 32 + 84 * n + 8 * d
      three = rw (length-append (head n d x ++ recs 0 0 vs) (all_bytes 8 (all_dims vs)), two, length-all_bytes 8 (all_dims vs), f.words-used)

      bytes_are : drop (header_word (image_for n d x vs) 6) (image_for n d x vs) ≡ all_data vs
      bytes_are = ap (λ (k : ℕ). drop k (image_for n d x vs)) (header_is 6 (omega arith)) ∙ ap (drop (32 + 84 * n + 8 * d)) regroup_3 ∙ drop_at (head n d x ++ recs 0 0 vs ++ all_bytes 8 (all_dims vs)) (all_data vs) (32 + 84 * n + 8 * d) three

  pub words-front : take (8 * d) (all_bytes 8 (all_dims vs) ++ all_data vs) ≡ take (8 * d) (all_bytes 8 (all_dims vs))
  words-front = take-append-le (8 * d) (all_bytes 8 (all_dims vs)) (all_data vs) (rw (length-all_bytes 8 (all_dims vs), f.words-used) (omega arith))

  trailing_passes : trailing_check (tree_for d x vs) ≡ passed
  unfolding trailing_check nothing_trails words_before bytes_before node
  trailing_passes =
      pass_check _ _ (and_both _ _ (eq-eqb _ d (sym (ap (λ (l : List Node). sum_before (λ j. (get_or l j (node_of [])).rank) (length vs)) (append-nil (placed 0 0 vs))) ∙ sum_rank 0 0 vs [] (node_of []) ∙ f.words-used)) (eq-eqb _ x (sym (ap (λ (l : List Node). sum_before (λ j. (get_or l j (node_of [])).data_size) (length vs)) (append-nil (placed 0 0 vs))) ∙ sum_size 0 0 vs [] (node_of []) ∙ f.bytes-used)), tt)

  module _ (g : Good n d x [] vs) where
    records_pass : record_check (tree_for d x vs) ≡ passed
    unfolding record_check record_check_at
    records_pass = pass_from (record_check_at (tree_for d x vs)) (length vs) 0 (λ j l h. pass_check j (record_rules (tree_for d x vs) j) (good_at n d x [] vs g j (omega arith) (omega arith)))

    pub table-passes : table_check (image_for n d x vs) ≡ passed
    unfolding table_check
    table-passes =
        then-on _ header_passes
        ∙ rw tree_is (records_same (tree_for d x vs) (all_bytes 8 (all_dims vs) ++ all_data vs) (all_data vs) (32 + 84 * n + 8 * d) words-front ∙ then-on _ records_pass ∙ trailing_passes)
