-- Both walks compare the two texts byte by byte.
use Prim.Native.Nat.{ℕ, ◌+◌, ◌-◌}
use mathlib.Core.Path.{◌≡◌, refl, ap, ◌∙◌}
use mathlib.Core.Bool.{Bool, ◌&&◌}
use mathlib.Core.List.{List, [], ◌∷◌}
use native.Mathlib.Omega.{arith}
use lib.Dec.{eqb}
use lib.Pointwise.{pointwise}
use Rattle.model.specs.Bytes.{same}
use Rattle.labels.proofs.texts.same_at.Goals as goal

same_pairs : (s t : List ℕ) → pointwise eqb s t ≡ same s t
unfolding same
same_pairs [] [] = refl
same_pairs [] (y ∷ t) = refl
same_pairs (x ∷ s) [] = refl
same_pairs (x ∷ s) (y ∷ t) = ap (λ (r : Bool). eqb x y && r) (same_pairs s t)

pub returns : goal.returns
returns c =
    let q : c.args.at + c.args.n - c.args.at ≡ c.args.n = omega arith in
    rw q at c.eq.ensures ∙ same_pairs _ _
