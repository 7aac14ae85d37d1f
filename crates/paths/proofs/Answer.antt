-- What is answered for a path and what it leaves, in the order of the refusals.
use Prim.Native.Nat.{ℕ, ◌≤◌, ◌<◌}
use mathlib.Core.Path.{◌≡◌, ◌∙◌}
use mathlib.Core.List.{List, []}
use lib.ListN.{length}
use borrow.Author.Tests.{lt-leb, le-leb}
use Rattle.model.specs.declared.Rejection.{Rejection}
use Rattle.model.specs.Lists.{over}
use Rattle.model.specs.Rules.{rejection, rejected, Answer, answer, ◌then◌, ◌gives◌, leaves}
use Rattle.model.specs.Image.{tree_of, node_count}
use Rattle.model.specs.Records.{table_check}
use Rattle.model.specs.Given.{Sound}
use Rattle.model.specs.Path.{path_of, path_check, path_answer, path_memory}
use Rattle.model.proofs.Passed.{then-off}
use Rattle.model.proofs.Staging.{kept, broken, no_rule}
use Rattle.model.proofs.Known.{no_node, a-node}

-- an answer, and what it leaves of the buffer
abbrev pub Answered : List ℕ → ℕ → List ℕ → Answer ℕ → List ℕ → Type 0
Answered b i out a new = (a ≡ path_answer b i (length out)) × (new ≡ path_memory b i out)

refuses : (b : List ℕ) (i : ℕ) (out : List ℕ) {r : Rejection} → path_check b i (length out) ≡ rejected r → Answered b i out (rejected r) out
unfolding path_answer path_memory ◌gives◌ ◌then◌ leaves
refuses b i out e = (rw e, rw e)

-- what rules 1 to 18 refuse
pub no_table : (b : List ℕ) (i : ℕ) (out : List ℕ) {r : Rejection} → table_check b ≡ rejected r → Answered b i out (rejected r) out
unfolding path_check
no_table b i out e = refuses b i out (then-off _ e)

module _ {b : List ℕ} (sound : Sound b) (i : ℕ) (out : List ℕ) where
  pub unknown : node_count b ≤ i → Answered b i out (rejected (rejection 40 0)) out
  unfolding path_check
  unknown h = refuses b i out (no_node b sound.table i _ h)

  pub no_room : i < node_count b → length out < length (path_of (tree_of b) i) → Answered b i out (rejected (rejection 46 0)) out
  unfolding path_check
  no_room h l = refuses b i out (a-node b sound.table i _ h ∙ broken 0 46 [] (lt-leb (length (path_of (tree_of b) i)) (length out) l))

  pub fits : i < node_count b → length (path_of (tree_of b) i) ≤ length out
      → Answered b i out (answer (length (path_of (tree_of b) i))) (over out (path_of (tree_of b) i))
  unfolding path_check path_answer path_memory ◌gives◌ ◌then◌ leaves
  fits h l =
      let e = a-node b sound.table i _ h ∙ kept 0 46 [] (le-leb (length (path_of (tree_of b) i)) (length out) l) ∙ no_rule 0 in
      (rw e, rw e)
