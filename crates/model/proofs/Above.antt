-- What stands above a validated node: a validated node, of a kind that the placing table lets hold it. Where validation has come to a node, the rules hold at
-- those before it.
use Prim.Native.Nat.{ℕ, ◌<◌}
use mathlib.Core.Path.{◌≡◌, refl, sym, ◌∙◌}
use mathlib.Core.Bool.{Bool, true, false, cond}
use mathlib.Core.List.{List, [], ◌∷◌}
use lib.Dec.{eqb}
use borrow.Author.Tests.{ne_eqb}
use Rattle.model.specs.Lists.{Row, ◌has◌, row, among}
use Rattle.model.specs.Image.{Tree, tree_of, node_count, parent}
use Rattle.model.specs.Given.{Sound, NodesTo}
use Rattle.model.specs.Containment.{role, containment, may_hold, validated}
use Rattle.model.specs.Values.{placed, sids_rules}
use Rattle.model.specs.Validation.{section_check, node_check_at}
use Rattle.model.proofs.Logic.{untrue, and_first, and_second}
use Rattle.model.proofs.Passed.{Hold, Claim, claim, check_pass, then-first}
use Rattle.model.proofs.Validated.{joins, validated_step}

-- the parent of a validated node is validated
pub validated-above : (b : List ℕ) → Sound b → (i : ℕ) → i < node_count b → (i ≡ 0 → ⊥) → validated (tree_of b) i ≡ true
    → validated (tree_of b) (parent (tree_of b) i) ≡ true
validated-above b s i h n e = and_second (joins (tree_of b) i) _ (sym (validated_step b s i h n) ∙ e)

-- validation has come to node i: the rules hold at a validated node before it
pub earlier-holds : (b : List ℕ) (i : ℕ) → NodesTo b i → (j : ℕ) → j < i → validated (tree_of b) j ≡ true → Hold (sids_rules (tree_of b) j)
unfolding node_check_at
earlier-holds b i g j h v = check_pass j (sids_rules (tree_of b) j) (then-first _ (section_check (tree_of b) j) (rw v at (g.before j h)))

pub earlier-rule : (b : List ℕ) (i : ℕ) → NodesTo b i → (n j : ℕ) → j < i → validated (tree_of b) j ≡ true → Claim n (sids_rules (tree_of b) j)
earlier-rule b i g n j h v = claim n (sids_rules (tree_of b) j) (earlier-holds b i g j h v)

-- the keys of the rows that list x
abbrev pub holders : ℕ → List (Row (List ℕ)) → List ℕ
holders x [] = []
holders x ((k has v) ∷ rest) = cond (among x v) (k ∷ holders x rest) (holders x rest)

holder : (x key : ℕ) (rows : List (Row (List ℕ))) → among x (row key [] rows) ≡ true → among key (holders x rows) ≡ true
unfolding among row
holder x key [] e = e
holder x key ((k has v) ∷ rest) e = by_test (eqb key k) refl (among x v) refl e (holder x key rest)
  where
    by_test : (a : Bool) → eqb key k ≡ a → (d : Bool) → among x v ≡ d → among x (cond a v (row key [] rest)) ≡ true
        → (among x (row key [] rest) ≡ true → among key (holders x rest) ≡ true) → among key (cond d (k ∷ holders x rest) (holders x rest)) ≡ true
    by_test true p true q h f = rw p
    by_test true p false q h f = untrue (sym q ∙ h)
    by_test false p true q h f = rw p (f h)
    by_test false p false q h f = f h

-- the placing table: what may hold a label is one of those that list it
pub held_by : (above below : ℕ) → may_hold above below ≡ true → among above (holders below containment) ≡ true
unfolding may_hold
held_by above below e = holder below above containment e

-- 20, of a node that is not the root: the table lets its parent hold it
pub placed-held : (t : Tree) (i : ℕ) → (i ≡ 0 → ⊥) → placed t i ≡ true → may_hold (role t (parent t i)) (role t i) ≡ true
unfolding placed
placed-held t i n e = and_first (may_hold (role t (parent t i)) (role t i)) _ (rw (ne_eqb i 0 n) at e)
