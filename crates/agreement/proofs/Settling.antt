-- Marks settle what agreement asks: each use takes a parent that is free, and in the end each parent is taken.
use Prim.Native.Nat.{ℕ, ◌+◌}
use mathlib.Core.Path.{◌≡◌, refl, sym, ◌∙◌}
use mathlib.Core.Bool.{Bool, true, false, cond, ◌&&◌, ◌||◌}
use mathlib.Core.List.{List, [], ◌∷◌}
use lib.Dec.{eqb, ltb}
use borrow.Author.Tests.{eqb-true, eq-eqb}
use Rattle.model.specs.ParentElements.{FaceParents, agree}
use Rattle.usage_bytes.specs.ParentMarks.{matched, complete}
use Rattle.agreement.specs.Matching.{settles}

-- one use from the marks m on, then g: its cell is the first parent or not, the second or not
abbrev step : Bool → Bool → ℕ → (ℕ → Bool) → Bool
step first second m g = cond (ltb 0 (matched first second m)) (g (m + matched first second m)) false

-- both are taken
full : (first second : Bool) (g : ℕ → Bool) → step first second 3 g ≡ false
unfolding matched
full true true g = refl
full true false g = refl
full false true g = refl
full false false g = refl

one : (first second none : Bool) → (first && none) ≡ step first second 0 (complete none)
unfolding matched complete
one true second true = refl
one true second false = refl
one false true none = refl
one false false none = refl

-- two uses: the first cell is a parent or not, the second is
module _ (first-c second-c first-d second-d : Bool) (g : ℕ → Bool) where
  abbrev both : Bool
  both = step first-c second-c 0 (λ m. step first-d second-d m g)

two : (first-c second-c first-d second-d : Bool) (g : ℕ → Bool) → g 3 ≡ true → (first-c ≡ true → first-d ≡ true → second-c ≡ true → second-d ≡ true)
    → ((first-c && second-d) || (first-d && second-c)) ≡ both first-c second-c first-d second-d g
unfolding matched
two true sc true true g e h = sym e
two true sc false true g e h = sym e
two true true true false g e h = sym (h refl refl refl)
two true true false false g e h = refl
two true false true false g e h = refl
two true false false false g e h = refl
two false true true sd g e h = sym e
two false true false true g e h = refl
two false true false false g e h = refl
two false false true sd g e h = refl
two false false false sd g e h = refl

more : (first-c second-c first-d second-d : Bool) (g : ℕ → Bool) → g 3 ≡ false → both first-c second-c first-d second-d g ≡ false
unfolding matched
more true sc true true g e = e
more true sc false true g e = e
more true sc true false g e = refl
more true sc false false g e = refl
more false true true sd g e = e
more false true false true g e = refl
more false true false false g e = refl
more false false fd sd g e = refl

no_mark : (none : Bool) → complete none 0 ≡ false
unfolding complete
no_mark none = refl

all_marks : (none : Bool) → complete none 3 ≡ true
unfolding complete
all_marks true = refl
all_marks false = refl

pub agree-settles : (p : FaceParents) (cells : List ℕ) → agree cells p ≡ settles p 0 cells
unfolding agree settles
agree-settles p [] = sym (no_mark (eqb p.second 0))
agree-settles p (c ∷ []) = one (eqb p.first c) (eqb p.second c) (eqb p.second 0)
agree-settles p (c ∷ d ∷ []) =
    two (eqb p.first c) (eqb p.second c) (eqb p.first d) (eqb p.second d) (complete (eqb p.second 0)) (all_marks (eqb p.second 0))
    (λ i j k. eq-eqb _ d (eqb-true _ c k ∙ sym (eqb-true _ c i) ∙ eqb-true _ d j))
agree-settles p (c ∷ d ∷ e ∷ cells) =
    sym (more (eqb p.first c) (eqb p.second c) (eqb p.first d) (eqb p.second d) (λ m. settles p m (e ∷ cells))
    (full (eqb p.first e) (eqb p.second e) (λ m. settles p m cells)))
