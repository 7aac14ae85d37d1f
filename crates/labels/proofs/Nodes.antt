-- Nodes as code asks for them: the node count, a name field, a parent, a zone by its number; two numbers compared.
use Prim.Native.Nat.{ℕ, ◌+◌, ◌≤◌, ◌<◌}
use mathlib.Core.Path.{◌≡◌, refl, sym}
use mathlib.Core.Bool.{Bool, false, ◌&&◌}
use mathlib.Core.List.{List}
use native.Mathlib.Omega.{arith}
use native.Mathlib.Nat.{add-zero}
use lib.Dec.{eqb}
use lib.ListN.{take, drop}
use borrow.Author.Tests.{ne_eqb, eq-eqb, lt-ltb, le-ltb}
use Rattle.model.specs.Bytes.{le}
use Rattle.model.specs.Image.{tree_of, node_count, header_word, record_at, parent, name}
use Rattle.model.specs.Containment.{is_zone, validated_as, Zone}
use Rattle.model.specs.Given.{Sound}
use Rattle.model.proofs.Parents.{parent-lower, lawful_at}
use Rattle.model.proofs.Reading.{name-at}

-- the name field of a node
pub name-field : (b : List ℕ) (j : ℕ) {p : ℕ} → j < node_count b → p ≡ record_at j → take 32 (drop (p + 0) b) ≡ name (tree_of b) j
name-field b j {p} h e = rw (add-zero p, e) (sym (name-at b j h))

-- the node count is the header's third word
pub count_at : (b : List ℕ) → le 4 (drop 8 b) ≡ node_count b
unfolding node_count header_word
count_at b = refl

-- p is x, and code compares it with y: another number decides, and the same number leaves the rest
pub unlike : {x y p : ℕ} (rest : Bool) → p ≡ x → (p ≡ y → ⊥) → false ≡ (eqb x y && rest)
unlike {x} {y} {p} rest e z = rw (← e, ne_eqb p y z)

pub alike : {x y p : ℕ} {r rest : Bool} → p ≡ x → p ≡ y → r ≡ rest → r ≡ (eqb x y && rest)
alike {x} {y} {p} e z h = rw (← e, eq-eqb p y z) h

-- a zone's number is below the node count
module _ (b : List ℕ) (z : ℕ) {n : ℕ} (e : n ≡ node_count b) where
  pub no_node : n ≤ z → false ≡ is_zone (tree_of b) z
  unfolding is_zone tree_of
  no_node h = let l : node_count b ≤ z = omega arith in rw (le-ltb z (node_count b) l)

  pub some-node : {r : Bool} → z < n → r ≡ validated_as (tree_of b) Zone z → r ≡ is_zone (tree_of b) z
  unfolding is_zone tree_of
  some-node h f = let l : z < node_count b = omega arith in rw (lt-ltb z (node_count b) l) f

pub parent-inside : (b : List ℕ) (i : ℕ) {up : ℕ} → Sound b → i < node_count b → (i ≡ 0 → ⊥) → up ≡ parent (tree_of b) i → up < node_count b
parent-inside b i s h z e = let l = parent-lower (tree_of b) i (lawful_at b s i h) z in omega arith
