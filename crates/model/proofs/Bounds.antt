-- What rules 1 to 6 buy: the bounds that readers need. What rules 15 and 17 add at a node.
use Prim.Native.Nat.{ℕ, ◌+◌, ◌*◌, ◌<◌}
use mathlib.Core.Path.{◌≡◌, ◌∙◌}
use mathlib.Core.Bool.{Bool, ◌&&◌}
use mathlib.Core.List.{List}
use lib.ListN.{length}
use lib.Dec.{eqb, leb}
use borrow.Author.Tests.{leb-true, eqb-true}
use Rattle.model.specs.Rules.{passed}
use Rattle.model.specs.Image.{node_count, record_offset, dimension_offset, word_count, data_offset, tree_of, node}
use Rattle.model.specs.Header.{header_check, header_rules, length_lawful, node_count_lawful, laid_out}
use Rattle.model.specs.Bounds.{Laid, Placed}
use Rattle.model.specs.Given.{Sound, Accepted}
use Rattle.model.specs.Records.{table_check, record_rules, words_lawful, data_at_lawful, words_before, bytes_before}
use Rattle.model.proofs.Logic.{and_first, and_second}
use Rattle.model.proofs.Passed.{Hold, check_pass}
use Rattle.model.specs.Validation.{image_check}
use Rattle.model.proofs.Accepted.{header_holds, record_holds, table-passed}

laid_by : (b : List ℕ) → Hold (header_rules b) → Laid b
unfolding header_rules length_lawful node_count_lawful laid_out
laid_by b h =
    record {
      short = leb-true _ _ (and_second (leb 32 (length b)) _ h.0);
      some = leb-true _ _ (and_first (leb 1 (node_count b)) _ h.1.1.1.0);
      few = leb-true _ _ (and_second (leb 1 (node_count b)) _ h.1.1.1.0);
      few_words = leb-true _ _ h.1.1.1.1.0;
      words-at = eqb-true _ _ (and_second r _ (and_first (r && w) _ (and_first (r && w && d) _ h.1.1.1.1.1.0)));
      data_at_lem = eqb-true _ _ (and_second (r && w) _ (and_first (r && w && d) _ h.1.1.1.1.1.0));
      whole = eqb-true _ _ (and_second (r && w && d) _ h.1.1.1.1.1.0) ∙ eqb-true _ _ h.1.1.0;
    }
  where
    r : Bool
    r = eqb (record_offset b) 32

    w : Bool
    w = eqb (dimension_offset b) (32 + 84 * node_count b)

    d : Bool
    d = eqb (data_offset b) (32 + 84 * node_count b + 8 * word_count b)

-- rules 1 to 6 are enough
pub laid : (b : List ℕ) → header_check b ≡ passed → Laid b
unfolding header_check
laid b e = laid_by b (check_pass 0 (header_rules b) e)

pub table-laid : (b : List ℕ) → table_check b ≡ passed → Laid b
table-laid b e = laid_by b (header_holds b e)

pub node-placed : (b : List ℕ) → table_check b ≡ passed → (i : ℕ) → i < node_count b → Placed b i
unfolding record_rules words_lawful data_at_lawful tree_of
node-placed b e i l =
    let h = record_holds b e i l in
    let w = h.1.1.1.1.1.1.1.1.0 in
    let d = h.1.1.1.1.1.1.1.1.1.1.0 in
    let wf = eqb-true (node t i).first_word (words_before t i) (and_first (eqb (node t i).first_word (words_before t i)) _ w) in
    let df = eqb-true (node t i).data_at (bytes_before t i) (and_first (eqb (node t i).data_at (bytes_before t i)) _ d) in
    record {
      words-from = wf;
      words_in = rw wf (leb-true _ _ (and_second (eqb (node t i).first_word (words_before t i)) _ w));
      data_from = df;
      data_in = rw df (leb-true _ _ (and_second (eqb (node t i).data_at (bytes_before t i)) _ d));
    }
  where
    t : Rattle.model.specs.Image.Tree
    t = tree_of b

-- rules 1 to 18 hold, with their bounds
pub sound : (b : List ℕ) → table_check b ≡ passed → Sound b
sound b e = record { laid = table-laid b e; table = e }

-- an image that passed
pub accepted-image : (b : List ℕ) → image_check b ≡ passed → Accepted b
accepted-image b e = record { sound = sound b (table-passed b e); image = e }
