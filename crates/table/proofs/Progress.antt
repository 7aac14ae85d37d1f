-- Rules 1 to 17 in groups, and the check of the records as a loop over the nodes meets it.
use Prim.Native.Nat.{ℕ, ◌+◌, ◌-◌, ◌≤◌, ◌<◌}
use mathlib.Core.Path.{◌≡◌, refl, sym, ap, ◌∙◌}
use mathlib.Core.Bool.{Bool, true, false, ◌&&◌}
use mathlib.Core.List.{List, [], ◌++◌}
use native.Mathlib.Omega.{arith}
use lib.Dec.{eqb, leb}
use borrow.Author.Count.{below_more}
use borrow.Author.Tests.{leb-true, not-true}
use lib.ListN.{length}
use Rattle.records.specs.declared.Header.{Header}
use Rattle.records.specs.declared.RecordNumbers.{RecordNumbers}
use Rattle.records.specs.declared.TableSize.{TableSize}
use Rattle.records.specs.Fields.{header_of, numbers_of}
use Rattle.records.specs.Table.{table_tree, records_of, all_records, LawfulBefore, TableLaid, TableTo}
use Rattle.records.proofs.Tables.{table-node}
use Rattle.model.specs.Lists.{sum_before}
use Rattle.model.specs.Rules.{Check, passed, rejected, rejection, check, check_from, ◌then◌}
use Rattle.model.specs.Image.{Tree, node, parent, dimensions, data_type_of, width}
use Rattle.model.specs.Header.{header_check, header_rules, length_lawful, node_count_lawful, laid_out}
use Rattle.model.specs.Records.{parent_lawful, name_taken, words_before, words_lawful, bytes_before, data_at_lawful, data_size_lawful}
use Rattle.model.specs.Records.{record_rules, record_check_at, record_check, nothing_trails, trailing_check}
use Rattle.model.proofs.Logic.{and_second}
use Rattle.model.proofs.Walks.{sum_before_step}
use Rattle.model.proofs.Parents.{lawful_to}
use Rattle.model.proofs.Passed.{check_pass, check_from-on, check_from-end, then-on}
use Rattle.model.proofs.SameNodes.{same-parent, same_name, same-label, same-type, same-link, same_rank, same_lawful, same_taken, same_deeper}
use Rattle.model.proofs.Staging.{check-append, broken, kept, no_rule}
use Rattle.table.specs.Groups.{word_rules, layout_rules, place_rules, text_rules, type_rules, size_rules}
use Rattle.table.specs.Sums.{Sums}

-- rules 1 to 6, where rule 1 holds
pub header_groups : (b : List ℕ) {h : Header} → h ≡ header_of b → length_lawful b ≡ true
    → (check 0 (word_rules h (length b)) then check 0 (layout_rules h)) ≡ header_check b
unfolding header_check header_rules node_count_lawful laid_out
header_groups b e l = rw e (sym (check-append 0 (word_rules (header_of b) (length b)) (layout_rules (header_of b))) ∙ sym (kept 0 1 _ l))

-- rules 7 to 17 at node i in groups, and those that ask one node alone in all records
module _ {s : List ℕ} {size : TableSize} {i : ℕ} (r : TableTo s size i) where
  same : (j : ℕ) → j < size.nodes → node (all_records s) j ≡ node (table_tree s size) j
  same j h = table-node s size j h r.laid.few

  here : node (all_records s) i ≡ node (table_tree s size) i
  here = same i r.inside

  pub numbers-here : numbers_of (all_records s) i ≡ numbers_of (table_tree s size) i
  numbers-here = rw (here, same-parent _ _ i here)

  pub lawful_before : LawfulBefore s i
  unfolding record_check_at record_rules
  lawful_before j h =
      let l = r.inside in
      same_lawful _ _ j (same j (omega arith)) ∙ (check_pass j (record_rules (table_tree s size) j) (r.before j h)).0

  same_place : check i (place_rules (all_records s) i) ≡ check i (place_rules (table_tree s size) i)
  same_place = by_test (parent_lawful (table_tree s size) i) refl
    where
      by_test : (t : Bool) → parent_lawful (table_tree s size) i ≡ t → check i (place_rules (all_records s) i) ≡ check i (place_rules (table_tree s size) i)
      by_test false e = broken i 7 _ (same_lawful _ _ i here ∙ e) ∙ sym (broken i 7 _ e)
      by_test true e =
          rw (same_lawful _ _ i here, same_deeper _ _ size.nodes same 32 i r.inside (lawful_to (table_tree s size) i r.before e))

  pub record_groups : record_check_at (table_tree s size) i
      ≡ (check i (place_rules (all_records s) i) then check i (text_rules (all_records s) i) then check i (type_rules (all_records s) i)
      then check i (size_rules (table_tree s size) i))
  unfolding record_check_at record_rules
  record_groups =
      let t = table_tree s size in
      let name = same_name _ _ i here in
      let taken = same_taken _ _ size.nodes same i r.inside in
      rw (same_place, name, same-label _ _ i here, taken, same-link _ _ i here, same-type _ _ i here, same_rank _ _ i here)
      (check-append i (place_rules t i) (text_rules t i ++ type_rules t i ++ size_rules t i) ∙ ap (λ (c : Check). check i (place_rules t i) then c)
      (check-append i (text_rules t i) (type_rules t i ++ size_rules t i) ∙ ap (λ (c : Check). check i (text_rules t i) then c)
      (check-append i (type_rules t i) (size_rules t i))))

  -- rule 11 holds before node i
  pub free_before : (j : ℕ) → j < i → name_taken (all_records s) j ≡ false
  unfolding record_check_at record_rules
  free_before j h =
      let l = r.inside in
      same_taken _ _ size.nodes same j (omega arith)
      ∙ not-true (name_taken (table_tree s size) j) (check_pass j (record_rules (table_tree s size) j) (r.before j h)).1.1.1.1.0

-- rules 15 to 17 by the running sums; rule 16 asks the records and the words after them
module _ {s : List ℕ} {size : TableSize} {i w x : ℕ} (z : Sums s size i w x) {r : RecordNumbers} (f : r ≡ numbers_of (table_tree s size) i) where
  pub words_by : (eqb r.first_word w && leb (w + r.rank) size.words) ≡ words_lawful (table_tree s size) i
  unfolding words_lawful table_tree
  words_by = rw (f, z.words_are)

  pub bytes_by : (eqb r.data_at x && leb (x + r.data_size) size.bytes) ≡ data_at_lawful (table_tree s size) i
  unfolding data_at_lawful table_tree
  bytes_by = rw (f, z.bytes_are)

pub size_by : (s : List ℕ) (size : TableSize) (i : ℕ) → data_size_lawful (records_of s size.nodes) i ≡ data_size_lawful (table_tree s size) i
unfolding data_size_lawful dimensions width data_type_of node table_tree
size_by s size i = refl

pub numbers_by : (s : List ℕ) (size : TableSize) (i : ℕ) → numbers_of (table_tree s size) i ≡ numbers_of (records_of s size.nodes) i
unfolding node parent table_tree
numbers_by s size i = refl

-- rules 7 to 17 hold before node i; the sums of the nodes before it are w and x
pub record Progress (s : List ℕ) (size : TableSize) (i w x : ℕ) : Type 0 where
  pub le : i ≤ size.nodes
  pub rest : check_from (record_check_at (table_tree s size)) (size.nodes - i) i ≡ record_check (table_tree s size)
  pub before : (j : ℕ) → j < i → record_check_at (table_tree s size) j ≡ passed
  pub sums : Sums s size i w x

pub progress_start : (s : List ℕ) (size : TableSize) → Progress s size 0 0 0
unfolding record_check table_tree words_before bytes_before sum_before
progress_start s size =
    record {
      le = omega arith;
      rest = (let e : size.nodes - 0 ≡ size.nodes = omega arith in rw e);
      before = λ j h. absurd (omega arith);
      sums = record { words_are = refl; words_in = omega arith; bytes_are = refl; bytes_in = omega arith };
    }

-- what rules 15 and 17 say of the sums
words_more : (t : Tree) (i : ℕ) → record_check_at t i ≡ passed → words_before t i + (node t i).rank ≤ t.word_total
unfolding record_check_at record_rules words_lawful
words_more t i e =
    leb-true _ _ (and_second (eqb (node t i).first_word (words_before t i)) _ (check_pass i (record_rules t i) e).1.1.1.1.1.1.1.1.0)

bytes_more : (t : Tree) (i : ℕ) → record_check_at t i ≡ passed → bytes_before t i + (node t i).data_size ≤ t.byte_total
unfolding record_check_at record_rules data_at_lawful
bytes_more t i e =
    leb-true _ _ (and_second (eqb (node t i).data_at (bytes_before t i)) _ (check_pass i (record_rules t i) e).1.1.1.1.1.1.1.1.1.1.0)

sums_on : {s : List ℕ} {size : TableSize} {i w x : ℕ} → Sums s size i w x → record_check_at (table_tree s size) i ≡ passed
    → {r : RecordNumbers} → r ≡ numbers_of (table_tree s size) i → Sums s size (i + 1) (w + r.rank) (x + r.data_size)
unfolding words_before bytes_before table_tree
sums_on {s} {size} {i} z e f =
    let t = table_tree s size in
    let m = words_more t i e in
    let n = bytes_more t i e in
    rw f (record {
      words_are = ap (λ (k : ℕ). k + (node t i).rank) z.words_are ∙ sym (sum_before_step (λ j. (node t j).rank) i);
      words_in = rw z.words_are m;
      bytes_are = ap (λ (k : ℕ). k + (node t i).data_size) z.bytes_are ∙ sym (sum_before_step (λ j. (node t j).data_size) i);
      bytes_in = rw z.bytes_are n;
    })

module _ {s : List ℕ} {size : TableSize} {i w x : ℕ} (p : Progress s size i w x) where
  pub progress_to : TableLaid s size → i < size.nodes → TableTo s size i
  progress_to l h = record { laid = l; inside = h; before = p.before }

  pub progress_on : i < size.nodes → record_check_at (table_tree s size) i ≡ passed → {r : RecordNumbers} → r ≡ numbers_of (table_tree s size) i
      → Progress s size (i + 1) (w + r.rank) (x + r.data_size)
  progress_on h e f =
      record {
        le = omega arith;
        rest = check_from-on (record_check_at (table_tree s size)) size.nodes i h e ∙ p.rest;
        before = below_more _ _ p.before e;
        sums = sums_on p.sums e f;
      }

  module _ (h : size.nodes ≤ i) where
    all_passed : record_check (table_tree s size) ≡ passed
    all_passed = sym p.rest ∙ check_from-end (record_check_at (table_tree s size)) size.nodes i h

    pub trails_by : (eqb w size.words && eqb x size.bytes) ≡ nothing_trails (table_tree s size)
    unfolding nothing_trails table_tree
    trails_by = let q : i ≡ size.nodes = omega (arith, p.le) in rw (p.sums.words_are, p.sums.bytes_are, q)

    pub trails_off : nothing_trails (table_tree s size) ≡ false
        → (record_check (table_tree s size) then trailing_check (table_tree s size)) ≡ rejected (rejection 18 size.nodes)
    unfolding trailing_check table_tree
    trails_off e = then-on _ all_passed ∙ broken size.nodes 18 [] e

    pub trails_on : nothing_trails (table_tree s size) ≡ true → (record_check (table_tree s size) then trailing_check (table_tree s size)) ≡ passed
    unfolding trailing_check table_tree
    trails_on e = then-on _ all_passed ∙ kept size.nodes 18 [] e ∙ no_rule size.nodes
