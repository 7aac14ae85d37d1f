-- A dimension, or nothing.
use Prim.Native.Nat.{◌≤◌}
use mathlib.Core.Path.{◌≡◌, sym, ap}
use lib.ListN.{length, get_or-eq_default}
use Rattle.model.specs.Image.{tree_of, node, dimensions}
use Rattle.model.proofs.Bounds.{node-placed}
use Rattle.model.proofs.Reading.{rank_is}
use Rattle.validation.proofs.sizes.size_in.Goals as goal

pub returns-then-k-read : goal.returns-then-k-read
returns-then-k-read c =
    let a = c.args in
    let t = tree_of a.image.now in
    let e : c.read.result.rank ≡ (node t a.i).rank = ap (λ r. r.rank) c.read.ensures in
    let h : length (dimensions t a.i) ≤ a.k = rw (rank_is t a.i, ← e) c.if-k-read.true in
    sym (get_or-eq_default (dimensions t a.i) 0 h)

pub dimension-requires : goal.dimension-requires
dimension-requires c =
    let a = c.args in
    let e : c.read.result.rank ≡ (node (tree_of a.image.now) a.i).rank = ap (λ r. r.rank) c.read.ensures in
    let p = node-placed a.image.now c.requires.0.table a.i c.requires.1 in
    record { laid = (c.requires.0.laid, c.requires.1); k_bound = (rw (← e) c.if-k-read.false, p.words_in) }

pub returns : goal.returns
returns c = c.dimension.ensures
