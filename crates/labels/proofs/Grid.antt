-- The table of cells: what a cell tells of the placing table and of the fixed names.
use Prim.Native.Nat.{ℕ, zero, suc, ◌-◌, ◌≤◌, ◌<◌}
use mathlib.Core.Path.{◌≡◌, refl, ap, sym, ◌∙◌}
use mathlib.Core.Bool.{Bool, true, false, cond, not, ◌&&◌}
use mathlib.Core.List.{List, [], ◌∷◌}
use native.Mathlib.Omega.{arith}
use lib.Dec.{eqb, leb, ltb}
use lib.ListN.{get_or}
use borrow.Author.Tests.{eq-eqb, leb-true, lt-ltb}
use Rattle.model.specs.Lists.{every_from, among, row}
use Rattle.model.specs.Bytes.{same, spells, blank, text, place_from}
use Rattle.model.specs.Containment.{role, may_hold, containment, Named, ◌holds◌called◌, fixed_name, fixed_names}
use Rattle.model.specs.Image.{tree_of, parent, name}
use Rattle.model.specs.Values.{named}
use Rattle.model.proofs.Logic.{same-is, untrue}
use Rattle.labels.specs.Padded.{known_names}
use Rattle.labels.specs.Cells.{cell_of}
use Rattle.labels.proofs.Arms.{each}

module _ (above below : ℕ) (h : above < 16) (l : below < 16) where
  -- what holds in every cell holds in this one
  every_cell : (p : ℕ → ℕ → Bool) → every_from (λ (a : ℕ). every_from (p a) 16 0) 16 0 ≡ true → p above below ≡ true
  every_cell p e = each (p above) 16 (each (λ (a : ℕ). every_from (p a) 16 0) 16 e above h) below l

  pub cell_small : cell_of above below ≤ 10
  unfolding every_from cell_of may_hold among row containment place_from fixed_name fixed_names known_names spells blank text
  cell_small = leb-true (cell_of above below) 10 (every_cell (λ (a c : ℕ). leb (cell_of a c) 10) refl)

-- a cell that is not 0
pub cell_held : (above below : ℕ) → ltb 0 (cell_of above below) ≡ may_hold above below
unfolding cell_of
cell_held above below = by_test (may_hold above below) (place_from 1 (fixed_name above below [] fixed_names) known_names)
  where
    by_test : (c : Bool) (n : ℕ) → ltb 0 (cond c (suc n) 0) ≡ c
    by_test true n = lt-ltb 0 (suc n) (omega arith)
    by_test false n = refl

-- the fixed name that a cell tells
fixed_cell : (above below : ℕ) → above < 16 → below < 16 → fixed_name above below [] fixed_names ≡ get_or ([] ∷ known_names) (cell_of above below - 1) []
unfolding every_from same cell_of may_hold among row containment place_from fixed_name fixed_names known_names spells blank text
fixed_cell above below h l =
    same-is _ _ (every_cell above below h l (λ (a c : ℕ). same (fixed_name a c [] fixed_names) (get_or ([] ∷ known_names) (cell_of a c - 1) [])) refl)

-- an empty text stands for none
abbrev or_else : List ℕ → List ℕ → List ℕ
or_else d [] = d
or_else d (y ∷ x) = y ∷ x

abbrev some_names : List Named → Bool
some_names [] = true
some_names ((a holds b called []) ∷ rest) = false
some_names ((a holds b called (y ∷ n)) ∷ rest) = some_names rest

fixed_or : (above below : ℕ) (d : List ℕ) (rows : List Named) → some_names rows ≡ true
    → fixed_name above below d rows ≡ or_else d (fixed_name above below [] rows)
unfolding fixed_name
fixed_or above below d [] t = refl
fixed_or above below d ((a holds b called []) ∷ rest) t = untrue t
fixed_or above below d ((a holds b called (y ∷ n)) ∷ rest) t = by_test (eqb above a && eqb below b) (fixed_or above below d rest t)
  where
    by_test : (c : Bool) → fixed_name above below d rest ≡ or_else d (fixed_name above below [] rest)
        → cond c (y ∷ n) (fixed_name above below d rest) ≡ or_else d (cond c (y ∷ n) (fixed_name above below [] rest))
    by_test true e = refl
    by_test false e = e

-- no row is for such a child
abbrev unheld : ℕ → List Named → Bool
unheld below [] = true
unheld below ((a holds b called n) ∷ rest) = not (eqb below b) && unheld below rest

pub fixed_none : (above below : ℕ) (d : List ℕ) (rows : List Named) → unheld below rows ≡ true → fixed_name above below d rows ≡ d
unfolding fixed_name
fixed_none above below d [] t = refl
fixed_none above below d ((a holds b called n) ∷ rest) t = by_test (eqb above a) (eqb below b) t (λ u. fixed_none above below d rest u)
  where
    by_test : (p q : Bool) → (not q && unheld below rest) ≡ true → (unheld below rest ≡ true → fixed_name above below d rest ≡ d)
        → cond (p && q) n (fixed_name above below d rest) ≡ d
    by_test true true u f = untrue u
    by_test true false u f = f u
    by_test false true u f = untrue u
    by_test false false u f = f u

pub spells_self : (s : List ℕ) → true ≡ spells s s
unfolding spells blank
spells_self [] = refl
spells_self (x ∷ s) = rw (eq-eqb x x refl) (spells_self s)

some-text : (m : ℕ) (d : List ℕ) → m < 10 → or_else d (get_or known_names m []) ≡ get_or known_names m []
unfolding known_names text
some-text zero d h = refl
some-text (suc zero) d h = refl
some-text (suc (suc zero)) d h = refl
some-text (suc (suc (suc zero))) d h = refl
some-text (suc (suc (suc (suc zero)))) d h = refl
some-text (suc (suc (suc (suc (suc zero))))) d h = refl
some-text (suc (suc (suc (suc (suc (suc zero)))))) d h = refl
some-text (suc (suc (suc (suc (suc (suc (suc zero))))))) d h = refl
some-text (suc (suc (suc (suc (suc (suc (suc (suc zero)))))))) d h = refl
some-text (suc (suc (suc (suc (suc (suc (suc (suc (suc zero))))))))) d h = refl
some-text (suc (suc (suc (suc (suc (suc (suc (suc (suc (suc m)))))))))) d h = absurd (omega arith)

-- a field against the fixed name that its cell k tells
module _ (above below : ℕ) {k : ℕ} (e : k ≡ cell_of above below) (h : above < 16) (l : below < 16) (d : List ℕ) where
  by_cell : fixed_name above below d fixed_names ≡ or_else d (get_or ([] ∷ known_names) (k - 1) [])
  unfolding fixed_names text
  by_cell = rw e (fixed_or above below d fixed_names refl ∙ ap (or_else d) (fixed_cell above below h l))

  pub name_free : k ≤ 1 → true ≡ spells d (fixed_name above below d fixed_names)
  name_free m = let z : k - 1 ≡ 0 = omega arith in spells_self d ∙ ap (spells d) (sym (by_cell ∙ rw z))

  name-place : 1 < k → k - 1 - 1 < 10
  name-place m = let s = cell_small above below h l in omega arith

  pub name_fixed : 1 < k → spells d (get_or known_names (k - 1 - 1) []) ≡ spells d (fixed_name above below d fixed_names)
  name_fixed m =
      let z : k - 1 ≡ suc (k - 1 - 1) = omega arith in
      let f : fixed_name above below d fixed_names ≡ or_else d (get_or ([] ∷ known_names) (suc (k - 1 - 1)) []) = rw z at by_cell in
      ap (spells d) (sym (f ∙ some-text (k - 1 - 1) d (name-place m)))

-- rule 21
module _ (b : List ℕ) (i : ℕ) where
  pub named_root : i ≡ 0 → true ≡ named (tree_of b) i
  unfolding named role fixed_names
  named_root z =
      let t = tree_of b in rw z (spells_self (name t 0) ∙ ap (spells (name t 0)) (sym (fixed_none (role t (parent t 0)) 15 (name t 0) fixed_names refl)))

  -- q is the role of the parent, and r that of node i
  pub named-is : {q r : ℕ} → q ≡ role (tree_of b) (parent (tree_of b) i) → r ≡ role (tree_of b) i
      → spells (name (tree_of b) i) (fixed_name q r (name (tree_of b) i) fixed_names) ≡ named (tree_of b) i
  unfolding named
  named-is f g = rw (f, g)
