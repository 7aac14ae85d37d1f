-- Lists of two lengths differ.
use Prim.Native.Nat.{ℕ, suc}
use mathlib.Core.Path.{◌≡◌, refl, ap}
use mathlib.Core.Bool.{Bool, true, false, ◌&&◌}
use mathlib.Core.List.{List, [], ◌∷◌}
use lib.Dec.{eqb}
use lib.ListN.{length}
use Rattle.model.specs.Bytes.{same}

pub same_not : (s u : List ℕ) → (length s ≡ length u → ⊥) → same s u ≡ false
unfolding same
same_not [] [] n = absurd (n refl)
same_not [] (y ∷ u) n = refl
same_not (x ∷ s) [] n = refl
same_not (x ∷ s) (y ∷ u) n = by_test (eqb x y) (same_not s u (λ e. n (ap suc e)))
  where
    by_test : (t : Bool) → same s u ≡ false → (t && same s u) ≡ false
    by_test true e = e
    by_test false e = refl
