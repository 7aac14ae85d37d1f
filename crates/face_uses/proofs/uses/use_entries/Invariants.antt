-- The whole run is the rest from entry k on, over the bytes that the uses before it left.
use Prim.Native.Nat.{◌-◌, ◌≤◌}
use mathlib.Core.Path.{◌≡◌}
use lib.ListN.{length}
use Rattle.model.specs.Image.{tree_of}
use Rattle.model.specs.FaceUsage.{face_count, uses_in, use_entries}
use Rattle.face_uses.proofs.Runs.{Left}
use Rattle.face_uses.proofs.uses.use_entries.Given as goal

abbrev pub invariant-loop-k : goal.invariant-loop-k
invariant-loop-k l = ((l.k ≤ l.row.n) × (length l.guesses ≡ 9))
    × Left (face_count (tree_of l.image) l.faces.zone) (use_entries (tree_of l.image) l.s (uses_in (tree_of l.image) l.faces.zone l.s) 0 l.initial.out) l.initial.out
    (use_entries (tree_of l.image) l.s (l.row.n - l.k) l.k l.out) l.out
