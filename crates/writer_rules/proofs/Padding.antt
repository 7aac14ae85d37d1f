-- A text over blanks is the text padded.
use Prim.Native.Nat.{ℕ, ◌≤◌}
use mathlib.Core.Path.{◌≡◌, ap}
use mathlib.Core.List.{List, ◌++◌}
use lib.ListN.{length, replicate}
use borrow.Author.Tests.{le-leb}
use Rattle.model.specs.Lists.{over, over_at}
use Rattle.writer_model.specs.Writer.{padded}
use Rattle.writer_model.proofs.Filled.{drop-replicate}

pub blanks_after : (s : List ℕ) → length s ≤ 32 → over_at 0 (replicate 32 32) s ≡ padded s
unfolding over_at over padded
blanks_after s h = rw (le-leb (length s) 32 h) (ap (λ (r : List ℕ). s ++ r) (drop-replicate (length s) 32 32))
