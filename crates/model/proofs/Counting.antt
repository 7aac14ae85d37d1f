-- Of an accepted image: nodes validated plus nodes skipped are all N.
use Prim.Native.Nat.{ℕ, ◌+◌}
use mathlib.Core.Path.{◌≡◌, refl}
use mathlib.Core.List.{List}
use Rattle.model.specs.Rules.{answer}
use Rattle.model.specs.Image.{Tree, tree_of, node_count}
use Rattle.model.specs.Containment.{validated, skipped}
use Rattle.model.specs.Validation.{Counts, counts, validation, image_check}
use Rattle.model.proofs.Walks.{count_both}
use Rattle.model.proofs.Passed.{gives-value}

every_node : (t : Tree) → (counts t).validated + (counts t).skipped ≡ t.count
unfolding counts skipped
every_node t = count_both (validated t) (skipped t) t.count 0 (λ j. refl)

pub validated_or_skipped : (b : List ℕ) {c : Counts} → validation b ≡ answer c → c.validated + c.skipped ≡ node_count b
unfolding validation tree_of
validated_or_skipped b {c} e = rw (← gives-value (image_check b) (counts (tree_of b)) e) (every_node (tree_of b))
