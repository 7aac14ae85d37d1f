-- What is answered for an array value, in the order of the refusals.
use Prim.Native.Nat.{ℕ, ◌-◌, ◌≤◌, ◌<◌}
use mathlib.Core.Path.{◌≡◌, ◌∙◌}
use mathlib.Core.Bool.{true, false, ◌&&◌}
use mathlib.Core.List.{List, [], ◌∷◌}
use lib.Dec.{leb}
use borrow.Author.Tests.{lt-leb, le-leb}
use Rattle.model.specs.declared.Rejection.{Rejection}
use Rattle.model.specs.Lists.{among}
use Rattle.model.specs.Rules.{◌unless◌, rejection, rejected, answer, check, ◌then◌, ◌gives◌}
use Rattle.model.specs.Image.{tree_of, node_count, dimensions, data_type_of}
use Rattle.model.specs.Records.{table_check, product}
use Rattle.model.specs.Values.{typed}
use Rattle.model.specs.Given.{Sound}
use Rattle.model.specs.ArrayValue.{value_at, value_check, value_answer}
use Rattle.model.proofs.Logic.{and_both}
use Rattle.model.proofs.Passed.{then-off}
use Rattle.model.proofs.Staging.{kept, broken, no_rule}
use Rattle.model.proofs.Known.{no_node, a-node}
use Rattle.array_values.specs.Readable.{readable}

refuses : (b : List ℕ) (i k : ℕ) {r : Rejection} → value_check b i k ≡ rejected r → rejected r ≡ value_answer b i k
unfolding value_answer ◌gives◌ ◌then◌
refuses b i k e = rw e

-- what rules 1 to 18 refuse
pub no_table : (b : List ℕ) (i k : ℕ) {r : Rejection} → table_check b ≡ rejected r → rejected r ≡ value_answer b i k
unfolding value_check
no_table b i k e = refuses b i k (then-off _ e)

module _ {b : List ℕ} (sound : Sound b) (i k : ℕ) where
  pub unknown : node_count b ≤ i → rejected (rejection 40 0) ≡ value_answer b i k
  unfolding value_check
  unknown h = refuses b i k (no_node b sound.table i _ h)

  module _ (h : i < node_count b) where
    pub unreadable : among (data_type_of (tree_of b) i) readable ≡ false → rejected (rejection 47 0) ≡ value_answer b i k
    unfolding value_check typed
    unreadable e = refuses b i k (a-node b sound.table i _ h ∙ broken 0 47 _ e)

    -- rule 42 is left
    module _ (e : among (data_type_of (tree_of b) i) readable ≡ true) where
      typed_so : value_check b i k ≡ check 0 (42 unless (leb 1 k && leb k (product (dimensions (tree_of b) i))) ∷ [])
      unfolding value_check typed
      typed_so = a-node b sound.table i _ h ∙ kept 0 47 _ e

      pub not-from-one : k < 1 → rejected (rejection 42 0) ≡ value_answer b i k
      not-from-one l = refuses b i k (typed_so ∙ broken 0 42 [] (rw (lt-leb 1 k l)))

      pub past_end : 1 ≤ k → product (dimensions (tree_of b) i) < k → rejected (rejection 42 0) ≡ value_answer b i k
      past_end m l = refuses b i k (typed_so ∙ broken 0 42 [] (rw (le-leb 1 k m, lt-leb k (product (dimensions (tree_of b) i)) l)))

      pub in_range_lem : 1 ≤ k → k ≤ product (dimensions (tree_of b) i) → answer (value_at (tree_of b) i (k - 1)) ≡ value_answer b i k
      unfolding value_answer ◌gives◌ ◌then◌
      in_range_lem m l = rw (typed_so ∙ kept 0 42 [] (and_both _ _ (le-leb 1 k m) (le-leb k (product (dimensions (tree_of b) i)) l)) ∙ no_rule 0)
