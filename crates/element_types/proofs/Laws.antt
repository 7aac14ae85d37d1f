-- The table of nodes per element as a match on the type meets it: at a listed type, and at any other.
use Prim.Native.Nat.{ℕ, ◌≤◌}
use mathlib.Core.Path.{◌≡◌, refl}
use mathlib.Core.Bool.{true}
use mathlib.Core.List.{List, [], ◌∷◌}
use lib.Dec.{leb}
use borrow.Author.Tests.{leb-true, ne_eqb}
use Rattle.model.specs.Lists.{Row, ◌has◌, row}
use Rattle.model.specs.Elements.{nodes_per}
use Rattle.model.proofs.Logic.{NoneOf, none_known}

pub listed : {e k n : ℕ} → e ≡ k → n ≡ nodes_per k → leb n 27 ≡ true → (n ≡ nodes_per e) × (n ≤ 27)
listed {n = n} e h l = (rw e h, leb-true n 27 l)

keys_of : List (Row ℕ) → List ℕ
keys_of [] = []
keys_of ((k has v) ∷ rows) = k ∷ keys_of rows

row-none : (A : Type 0) (rows : List (Row ℕ)) (e default : ℕ) → NoneOf A (keys_of rows) e → row e default rows ≡ default
unfolding row keys_of
row-none A [] e default h = refl
row-none A ((k has v) ∷ rows) e default h =
    simp (ne_eqb e k (none_known (A × (e ≡ k → ⊥)) (keys_of rows) e h).1) (row-none (A × (e ≡ k → ⊥)) rows e default h)

pub unlisted : (e : ℕ)
    → NoneOf Unit (2 ∷ 3 ∷ 4 ∷ 5 ∷ 6 ∷ 7 ∷ 8 ∷ 9 ∷ 10 ∷ 11 ∷ 12 ∷ 13 ∷ 14 ∷ 15 ∷ 16 ∷ 17 ∷ 18 ∷ 19 ∷ 21 ∷ []) e
    → nodes_per e ≡ 0
unfolding nodes_per keys_of
unlisted e h = row-none Unit _ e 0 h
