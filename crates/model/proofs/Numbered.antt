-- No refusal has the number 0, and 34 to 37 alone tell an entry: each stands in a list of rules, and those four in a list of their own, asked of an entry.
use Prim.Native.Nat.{ℕ, zero, suc}
use mathlib.Core.Path.{◌≡◌, refl, sym, ◌∙◌}
use mathlib.Core.Bool.{Bool, true, false, cond, not, ◌&&◌}
use mathlib.Core.List.{List, [], ◌∷◌}
use native.Mathlib.Omega.{arith}
use lib.Dec.{leb, eqb}
use lib.ListN.{get_or}
use borrow.Author.Tests.{leb-true, lt-ltb, not-true}
use Rattle.model.specs.Rules.{Answer, rejected, answer, Check, passed, Rule, ◌unless◌, check, ◌at_entry◌, check_from, ◌then◌, ◌gives◌, ◌into◌}
use Rattle.model.specs.Image.{Tree, tree_of}
use Rattle.model.specs.Header.{header_rules, header_check}
use Rattle.model.specs.Records.{record_rules, record_check_at, record_check, trailing_check, table_check}
use Rattle.model.specs.Containment.{role, Elements, validated}
use Rattle.model.specs.Values.{sids_rules}
use Rattle.model.specs.Elements.{element_rules, reference_rules, reference_check_at, reference_check, parent_rules}
use Rattle.model.specs.Validation.{section_check, node_check_at, node_check, image_check, validation}
use Rattle.model.specs.NameBytes.{name_bytes_answer}
use Rattle.model.specs.Path.{path_check, path_answer}
use Rattle.model.specs.DataSize.{data_size_answer}
use Rattle.model.specs.Sections.{sections_check, sections_answer}
use Rattle.model.specs.Corner.{corner_check, corner_answer}
use Rattle.model.specs.ArrayValue.{value_check, value_answer}
use Rattle.model.specs.FaceUsage.{use_entry, use_entries, use_nodes, usage, usage_check, usage_answer, uses_in, unused, use_sign, use_place}
use Rattle.model.specs.ParentElements.{parents_check, parents_answer, agreement_check, agreement_answer}
use Rattle.model.specs.ReadList.{rule_of}
use Rattle.model.specs.ElementCorners.{element_corners_check, element_corners_answer}
use Rattle.model.specs.OwnType.{own_type_check, own_type_answer}
use Rattle.model.specs.Exports.{tells_entry, Numbered, AllNumbered}
use Rattle.model.proofs.Logic.{and_first, and_second}

-- the rules of a list are numbered from 1 on, and none of them tells an entry; each does
unfoldable pub none_of_entries : List Rule → Bool
none_of_entries [] = true
none_of_entries ((rule unless holds) ∷ rest) = (leb 1 rule && not (tells_entry rule)) && none_of_entries rest

unfoldable all_of_entries : List Rule → Bool
all_of_entries [] = true
all_of_entries ((rule unless holds) ∷ rest) = tells_entry rule && all_of_entries rest

of_cond : {A : Type 0} (x y : Answer A) (t : Bool) → Numbered x → Numbered y → Numbered (cond t x y)
of_cond x y true h l = h
of_cond x y false h l = l

pub of_check : (node : ℕ) (rules : List Rule) → none_of_entries rules ≡ true → Numbered (check node rules)
unfolding check none_of_entries
of_check node [] e = tt
of_check node ((rule unless holds) ∷ rest) e =
    let one = leb 1 rule && not (tells_entry rule) in
    let o = and_first one (none_of_entries rest) e in
    of_cond _ _ holds (of_check node rest (and_second one (none_of_entries rest) e))
    (leb-true 1 rule (and_first (leb 1 rule) _ o), sym (not-true (tells_entry rule) (and_second (leb 1 rule) _ o)))

of_entry-check : (node k : ℕ) (rules : List Rule) → all_of_entries rules ≡ true → Numbered (check node rules at_entry suc k)
unfolding check all_of_entries ◌at_entry◌ tells_entry
of_entry-check node k [] e = tt
of_entry-check node k ((rule unless true) ∷ rest) e = of_entry-check node k rest (and_second (tells_entry rule) (all_of_entries rest) e)
of_entry-check node k ((rule unless false) ∷ rest) e =
    let o = and_first (tells_entry rule) (all_of_entries rest) e in
    let l = leb-true 34 rule (and_first (leb 34 rule) _ o) in
    (omega arith, lt-ltb 0 (suc k) (omega arith) ∙ sym o)

module _ {A : Type 0} where
  pub of_then : (c : Check) (s : Answer A) → Numbered c → Numbered s → Numbered (c then s)
  unfolding ◌then◌
  of_then (rejected r) s h l = h
  of_then (answer x) s h l = l

  pub of_gives : (c : Check) (v : A) → Numbered c → Numbered (c gives v)
  unfolding ◌gives◌
  of_gives c v h = of_then c (answer v) h tt

  of_into : {B : Type 0} (s : Answer B) (f : B → Answer A) → Numbered s → ((x : B) → Numbered (f x)) → Numbered (s into f)
  unfolding ◌into◌
  of_into (rejected r) f h l = h
  of_into (answer x) f h l = l x

of_walk : (f : ℕ → Check) → ((i : ℕ) → Numbered (f i)) → (k i : ℕ) → Numbered (check_from f k i)
unfolding check_from
of_walk f h zero i = tt
of_walk f h (suc k) i = of_then (f i) (check_from f k (suc i)) (h i) (of_walk f h k (suc i))

-- rules 1 to 18, and all of an image
pub of_table : (b : List ℕ) → Numbered (table_check b)
unfolding table_check header_check header_rules record_check record_check_at record_rules trailing_check none_of_entries tells_entry
of_table b =
    of_then (header_check b) (record_check (tree_of b) then trailing_check (tree_of b)) (of_check 0 (header_rules b) refl)
    (of_then (record_check (tree_of b)) (trailing_check (tree_of b))
    (of_walk (record_check_at (tree_of b)) (λ i. of_check i (record_rules (tree_of b) i) refl) (tree_of b).count 0)
    (of_check (tree_of b).count _ refl))

of_section : (t : Tree) (i : ℕ) → Numbered (section_check t i)
unfolding section_check element_rules reference_check reference_check_at reference_rules parent_rules none_of_entries all_of_entries tells_entry
of_section t i =
    of_cond _ passed (eqb (role t i) Elements)
    (of_then (check i (element_rules t i)) _ (of_check i (element_rules t i) refl)
    (of_then (reference_check t i) _ (of_walk (reference_check_at t i) (λ k. of_entry-check i k (reference_rules t i k) refl) _ 0)
    (of_check i (parent_rules t i) refl))) tt

of_node : (t : Tree) (i : ℕ) → Numbered (node_check_at t i)
unfolding node_check_at sids_rules none_of_entries tells_entry
of_node t i =
    of_cond _ passed (validated t i) (of_then (check i (sids_rules t i)) (section_check t i) (of_check i (sids_rules t i) refl) (of_section t i)) tt

of_image : (b : List ℕ) → Numbered (image_check b)
unfolding image_check node_check
of_image b = of_then (table_check b) (node_check (tree_of b)) (of_table b) (of_walk (node_check_at (tree_of b)) (of_node (tree_of b)) (tree_of b).count 0)

-- face usage: 45
of_entry : (t : Tree) (s k : ℕ) (bytes : List ℕ) → Numbered (use_entry t s k bytes)
unfolding use_entry tells_entry
of_entry t s k bytes = of_cond _ _ (unused (use_sign t s k) (get_or bytes (use_place t s k) 0)) tt (omega arith, refl)

of_entries : (t : Tree) (s n k : ℕ) (bytes : List ℕ) → Numbered (use_entries t s n k bytes)
unfolding use_entries
of_entries t s zero k bytes = tt
of_entries t s (suc n) k bytes = of_into (use_entry t s k bytes) _ (of_entry t s k bytes) (λ later. of_entries t s n (suc k) later)

of_nodes : (t : Tree) (z n s : ℕ) (bytes : List ℕ) → Numbered (use_nodes t z n s bytes)
unfolding use_nodes
of_nodes t z zero s bytes = tt
of_nodes t z (suc n) s bytes = of_into (use_entries t s (uses_in t z s) 0 bytes) _ (of_entries t s (uses_in t z s) 0 bytes) (λ later. of_nodes t z n (suc s) later)

of_uses : (b : List ℕ) (z room : ℕ) → Numbered (usage_answer b z room)
unfolding usage_answer usage_check usage none_of_entries tells_entry
of_uses b z room =
    of_into _ _ (of_then _ _ (of_then (image_check b) _ (of_image b) (of_check 0 _ refl)) (of_nodes (tree_of b) z _ 0 _)) (λ bytes. tt)

pub all_numbered : (b : List ℕ) → AllNumbered b
unfolding validation sections_answer sections_check corner_answer corner_check element_corners_answer element_corners_check own_type_answer own_type_check
    parents_answer parents_check agreement_answer agreement_check name_bytes_answer path_answer path_check data_size_answer value_answer value_check none_of_entries tells_entry
all_numbered b =
    record {
      of_validation = of_gives (image_check b) _ (of_image b);
      of_sections = λ z room. of_gives _ _ (of_then (image_check b) _ (of_image b) (of_check 0 _ refl));
      of_corner = λ e element corner. of_gives _ _ (of_check 0 _ refl);
      of_element = λ e element room. of_gives _ _ (of_check 0 _ refl);
      of_type_lem = λ e element. of_gives _ _ (of_check 0 _ refl);
      of_usage = of_uses b;
      of_parents = λ z f. of_gives _ _ (of_then (image_check b) _ (of_image b) (of_check 0 _ refl));
      of_agreement = λ z room. of_into _ _ (of_then _ _ (of_then (image_check b) _ (of_image b) (of_check 0 _ refl)) (of_uses b z room)) (λ faces. tt);
      of_name-bytes = of_gives (table_check b) _ (of_table b);
      of_path = λ i room. of_gives _ _ (of_then (table_check b) _ (of_table b) (of_check 0 _ refl));
      of_sizes = λ i. of_gives _ _ (of_then (image_check b) _ (of_image b) (of_check 0 _ refl));
      of_value = λ i k. of_gives _ _ (of_then (table_check b) _ (of_table b) (of_check 0 _ refl));
    }

-- so rule 0 is an answer
pub answered : {A : Type 0} (a : Answer A) → Numbered a → rule_of a ≡ 0 → (x : A) × (a ≡ answer x)
unfolding rule_of
answered (rejected r) h e = absurd (omega (arith, h.0))
answered (answer x) h e = (x, refl)
