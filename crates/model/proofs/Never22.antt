-- Document 02, §5: rule 22 never comes. A label allowed once has a fixed name wherever it may stand (20 comes before). An earlier sibling with that label
-- stands below the same validated parent, so it was validated and met 21: both have one name, and 11 was given before.
use Prim.Native.Nat.{ℕ, zero, suc, ◌<◌}
use mathlib.Core.Path.{◌≡◌, refl, sym, ap, subst, ◌∙◌}
use mathlib.Core.Bool.{Bool, true, false, cond, not, ◌&&◌, ◌||◌}
use mathlib.Core.List.{List, [], ◌∷◌, ◌++◌}
use native.Mathlib.Omega.{arith}
use lib.Dec.{eqb}
use lib.ListN.{take, drop}
use borrow.Author.Tests.{eqb-true, eq-eqb}
use Rattle.model.specs.declared.Rejection.{Rejection}
use Rattle.model.specs.Lists.{among, some_from}
use Rattle.model.specs.Bytes.{same, spells}
use Rattle.model.specs.Rules.{Answer, rejected, answer, Check, passed, Rule, ◌unless◌, check, ◌at_entry◌, check_from, ◌then◌, ◌gives◌}
use Rattle.model.specs.Image.{Tree, tree_of, node_count, name, parent}
use Rattle.model.specs.Header.{header_rules, header_check}
use Rattle.model.specs.Records.{sibling, record_rules, record_check_at, record_check, trailing_check, table_check}
use Rattle.model.specs.Containment.{Root, Elements, role, containment, may_hold, validated, Named, ◌holds◌called◌, fixed_names, fixed_name}
use Rattle.model.specs.Values.{placed, named, sids_rules}
use Rattle.model.specs.Elements.{element_rules, reference_rules, reference_check_at, reference_check, parent_rules}
use Rattle.model.specs.Validation.{section_check, node_check_at, node_check, image_check, counts, validation}
use Rattle.model.specs.Given.{NodesTo}
use Rattle.model.proofs.Rule22.{once_only, same_role, second, rules_with22, node_check_with22, image_check_with22, validation_with22, rule_numbers, Never, NeverComes}
use Rattle.model.proofs.Logic.{untrue, and_first, and_second, or_left, or_right}
use Rattle.model.proofs.Walks.{every, each, not_of, some_at}
use Rattle.model.proofs.Passed.{refused, row_kept, then-second, then_same, check_from-at, check_from-same}
use Rattle.model.proofs.Accepted.{table-passed, sids_rule}
use Rattle.model.proofs.Bounds.{sound}
use Rattle.model.proofs.NameBytes.{spelled_same, name-size, names_differ}
use Rattle.model.proofs.Validated.{validated_step}
use Rattle.model.proofs.Sections.{not_root}
use Rattle.model.proofs.Above.{earlier-rule, holders, held_by, placed-held}

-- a row fixes the name of that label under that parent; the name that the node has then plays no part
has_name : ℕ → ℕ → List Named → Bool
has_name above below [] = false
has_name above below ((a holds b called n) ∷ rest) = (eqb above a && eqb below b) || has_name above below rest

one-text : (above below : ℕ) (d e : List ℕ) (rows : List Named) → has_name above below rows ≡ true → fixed_name above below d rows ≡ fixed_name above below e rows
unfolding has_name fixed_name
one-text above below d e [] h = untrue h
one-text above below d e ((a holds b called n) ∷ rest) h = by_test (eqb above a && eqb below b) h (one-text above below d e rest)
  where
    by_test : (t : Bool) → (t || has_name above below rest) ≡ true → (has_name above below rest ≡ true → fixed_name above below d rest ≡ fixed_name above below e rest)
        → cond t n (fixed_name above below d rest) ≡ cond t n (fixed_name above below e rest)
    by_test true g later = refl
    by_test false g later = later g

-- each label allowed once has a fixed name under each parent that may hold it, by both tables
named_under : ℕ → Bool
named_under below = every (λ above. has_name above below fixed_names) (holders below containment)

once_named : (above below : ℕ) → among below once_only ≡ true → may_hold above below ≡ true → has_name above below fixed_names ≡ true
unfolding named_under once_only containment fixed_names has_name among
once_named above below o m = each (λ a. has_name a below fixed_names) above (holders below containment) (each named_under below once_only refl o) (held_by above below m)

-- such a label is not the root's
once_below : (below : ℕ) → among below once_only ≡ true → eqb below Root ≡ false
unfolding once_only among
once_below below o = not_of once_only below Root o refl

-- validation has come to node i, which is validated and meets 20 and 21
module _ (b : List ℕ) (i : ℕ) (g : NodesTo b i) (v : validated (tree_of b) i ≡ true) (p : placed (tree_of b) i ≡ true) (n : named (tree_of b) i ≡ true) where
  -- an earlier sibling with the same label
  module _ (o : among (role (tree_of b) i) once_only ≡ true) (j : ℕ) (l : j < i) (up : parent (tree_of b) j ≡ parent (tree_of b) i)
      (like : role (tree_of b) j ≡ role (tree_of b) i) where
    below_root : i ≡ 0 → ⊥
    below_root = not_root (tree_of b) i _ refl (once_below _ o)

    -- it stands below the same validated parent: it was validated, and met 21
    earlier-named : named (tree_of b) j ≡ true
    unfolding sids_rules
    earlier-named =
        let s = g.sound in
        let h : j < node_count b = omega (arith, g.inside) in
        let w = validated_step b s j h (not_root (tree_of b) j _ like (once_below _ o)) in
        earlier-rule b i g 21 j l (w ∙ rw (up, like) (sym (validated_step b s i g.inside below_root) ∙ v))

    -- by 20 this parent may hold the label, so both have the one fixed name
    one_name : same (name (tree_of b) j) (name (tree_of b) i) ≡ true
    unfolding named
    one_name =
        let t = tree_of b in
        let above = role t (parent t i) in
        let text = fixed_name above (role t i) (name t i) fixed_names in
        let c = one-text above (role t i) (name t j) (name t i) fixed_names (once_named above (role t i) o (placed-held t i below_root p)) in
        let e : spells (name t j) text ≡ true = rw (up, like, c) at earlier-named in
        let h : j < node_count b = omega (arith, g.inside) in
        spelled_same text (name t j) (name t i) (name-size b g.sound.table j h ∙ sym (name-size b g.sound.table i g.inside)) e n

  -- and 11 was given before
  no_second : second (tree_of b) i ≡ false
  unfolding second same_role sibling
  no_second = by_test (among (role (tree_of b) i) once_only) refl (some_from (same_role (tree_of b) i) i 0) refl
    where
      by_test : (c : Bool) → among (role (tree_of b) i) once_only ≡ c → (d : Bool) → some_from (same_role (tree_of b) i) i 0 ≡ d → (c && d) ≡ false
      by_test false o d q = refl
      by_test true o false q = refl
      by_test true o true q =
          let t = tree_of b in
          let w = some_at (same_role t i) i 0 q in
          let l : w.at < i = omega (arith, w.to) in
          let f = and_first (sibling t i w.at) _ w.holds in
          let like = eqb-true _ _ (and_second (sibling t i w.at) _ w.holds) in
          untrue (sym (names_differ b g.sound.table i w.at l g.inside f) ∙ one_name o w.at l (eqb-true _ _ f) like)

-- so the row makes no difference where validation has come to node i
same_at : (b : List ℕ) (i : ℕ) → NodesTo b i → node_check_with22 (tree_of b) i ≡ node_check_at (tree_of b) i
unfolding node_check_with22 rules_with22 node_check_at sids_rules
same_at b i g = by_test (validated t i) refl
  where
    t : Tree
    t = tree_of b

    rules : List Rule
    rules = sids_rules t i

    by_test : (v : Bool) → validated t i ≡ v
        → cond v (check i (take 2 rules ++ (22 unless not (second t i) ∷ drop 2 rules)) then section_check t i) passed
        ≡ cond v (check i rules then section_check t i) passed
    by_test false v = refl
    by_test true v =
        ap (λ c. c then section_check t i)
        (row_kept i 22 (not (second t i)) (take 2 rules) (drop 2 rules) (λ h. ap not (no_second b i g v h.0 h.1.0)))

alike : (b : List ℕ) → image_check_with22 b ≡ image_check b
unfolding image_check_with22 image_check node_check tree_of
alike b =
    then_same (table_check b)
    (λ s.
    check_from-same (node_check_with22 (tree_of b)) (node_check_at (tree_of b)) (tree_of b).count 0 (λ i _ h before.
    same_at b i (record { sound = sound b s; inside = omega (arith, h); before = λ j l. before j (omega arith) l })))

-- the rule that a check gives is one of its table
given-listed : (node : ℕ) (rules : List Rule) (r : Rejection) → check node rules ≡ rejected r → among r.rule (rule_numbers rules) ≡ true
unfolding check rule_numbers among
given-listed node [] r e = refused (sym e)
given-listed node ((rule unless true) ∷ rest) r e = or_right (eqb r.rule rule) _ (given-listed node rest r e)
given-listed node ((rule unless false) ∷ rest) r e = or_left (eqb r.rule rule) _ (eq-eqb r.rule rule (let z : rule ≡ r.rule = cc in sym z))

-- so a table without n does not give n
module _ (n : ℕ) where
  never_answer : {A : Type 0} (x : A) → Never n (answer x)
  never_answer x r e q = refused (sym e)

  never_check : (node : ℕ) (rules : List Rule) → among n (rule_numbers rules) ≡ false → Never n (check node rules)
  never_check node rules o r e q = untrue (sym o ∙ subst (λ (k : ℕ). among k (rule_numbers rules) ≡ true) q (given-listed node rules r e))

  never_then : {A : Type 0} (c : Check) (s : Answer A) → Never n c → Never n s → Never n (c then s)
  unfolding ◌then◌
  never_then (rejected w) s f g r e q = f w refl (let z : w ≡ r = cc in rw z q)
  never_then (answer x) s f g r e q = g r e q

  never_at-entry : (c : Check) (place : ℕ) → Never n c → Never n (c at_entry place)
  unfolding ◌at_entry◌
  never_at-entry (rejected w) place f r e q = f w refl (let z : w.rule ≡ r.rule = cc in z ∙ q)
  never_at-entry (answer x) place f r e q = never_answer x r e q

  never_from : (f : ℕ → Check) (k i : ℕ) → ((j : ℕ) → Never n (f j)) → Never n (check_from f k i)
  unfolding check_from
  never_from f zero i h = never_answer tt
  never_from f (suc k) i h = never_then (f i) (check_from f k (suc i)) (h i) (never_from f k (suc i) h)

-- no row of the table in force is 22
module _ (b : List ℕ) where
  table_never : Never 22 (table_check b)
  unfolding table_check header_check header_rules record_check record_check_at record_rules trailing_check rule_numbers among
  table_never =
      never_then 22 (header_check b) _ (never_check 22 0 (header_rules b) refl)
      (never_then 22 (record_check (tree_of b)) _ (never_from 22 (record_check_at (tree_of b)) _ 0 (λ i. never_check 22 i (record_rules (tree_of b) i) refl))
      (never_check 22 _ _ refl))

  entry_never : (i k : ℕ) → Never 22 (reference_check_at (tree_of b) i k)
  unfolding reference_check_at reference_rules rule_numbers among
  entry_never i k = never_at-entry 22 (check i (reference_rules (tree_of b) i k)) (suc k) (never_check 22 i (reference_rules (tree_of b) i k) refl)

  node_never : (i : ℕ) → Never 22 (node_check_at (tree_of b) i)
  unfolding node_check_at section_check reference_check sids_rules element_rules parent_rules rule_numbers among
  node_never i = by_test (validated (tree_of b) i) (eqb (role (tree_of b) i) Elements)
    where
      sids : Never 22 (check i (sids_rules (tree_of b) i))
      sids = never_check 22 i (sids_rules (tree_of b) i) refl

      section : Check
      section = check i (element_rules (tree_of b) i) then reference_check (tree_of b) i then check i (parent_rules (tree_of b) i)

      by_test : (v e : Bool) → Never 22 (cond v (check i (sids_rules (tree_of b) i) then cond e section passed) passed)
      by_test false e = never_answer 22 tt
      by_test true true =
          never_then 22 _ _ sids
          (never_then 22 (check i (element_rules (tree_of b) i)) _ (never_check 22 i (element_rules (tree_of b) i) refl)
          (never_then 22 (reference_check (tree_of b) i) _ (never_from 22 (reference_check_at (tree_of b) i) _ 0 (entry_never i))
          (never_check 22 i (parent_rules (tree_of b) i) refl)))
      by_test true false = never_then 22 _ _ sids (never_answer 22 tt)

  answer_never : Never 22 (validation b)
  unfolding validation ◌gives◌ image_check node_check
  answer_never =
      never_then 22 (image_check b) _ (never_then 22 (table_check b) _ table_never (never_from 22 (node_check_at (tree_of b)) _ 0 node_never))
      (never_answer 22 (counts (tree_of b)))

  accepted_once : image_check b ≡ passed → (i : ℕ) → i < node_count b → validated (tree_of b) i ≡ true → second (tree_of b) i ≡ false
  unfolding image_check node_check sids_rules tree_of
  accepted_once ok i h v =
      let at = check_from-at (node_check_at (tree_of b)) (node_count b) 0 in
      let g : NodesTo b i = record { sound = sound b (table-passed b ok); inside = h; before = λ j l. at j (then-second (table_check b) _ ok) (omega arith) (omega arith) } in
      no_second b i g v (sids_rule b ok 20 i h v) (sids_rule b ok 21 i h v)

  pub never_22 : NeverComes b
  unfolding validation_with22 validation rules_with22 sids_rules rule_numbers
  never_22 =
      let same : validation_with22 b ≡ validation b = ap (λ c. c gives counts (tree_of b)) (alike b) in
      record { row = λ i. refl; never = rw same answer_never; same_answer = same; same_check = alike b; once = accepted_once }
