-- What the kind of a node whose arrays have sizes tells.
use Prim.Native.Nat.{ℕ}
use mathlib.Core.Path.{◌≡◌, ◌∙◌}
use mathlib.Core.Logic.{⊎_elim}
use mathlib.Core.Bool.{false}
use mathlib.Core.List.{List}
use native.Mathlib.Omega.{arith}
use borrow.Author.Tests.{ne_eqb}
use Rattle.model.specs.Image.{tree_of}
use Rattle.model.specs.Containment.{role, FlowSolution}
use Rattle.model.specs.Values.{cell_centred}
use Rattle.index.specs.Index.{kind}
use Rattle.index.proofs.Marking.{kind_parts}
use Rattle.sids.specs.Given.{Sized}

-- only arrays of a FlowSolution_t can stand at CellCenter
pub not_centred : {b : List ℕ} {p k : ℕ} → Sized b p → k ≡ kind (tree_of b) p → (k ≡ FlowSolution → ⊥) → false ≡ cell_centred (tree_of b) p
unfolding cell_centred
not_centred {b} {p} {k} z e n =
    ⊎_elim (λ q. let r = (kind_parts (tree_of b) p q (omega arith)).1 in rw (ne_eqb (role (tree_of b) p) FlowSolution (λ w. absurd (omega arith))))
    (λ q. absurd (n (e ∙ q))) z.kind-is
