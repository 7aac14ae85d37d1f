-- What is left of the dimensions decides.
use Prim.Native.Nat.{◌≤◌}
use mathlib.Core.Path.{◌≡◌, sym, ap, ◌∙◌}
use lib.ListN.{length}
use lib.Seq.{length-take-le}
use borrow.Author.Rules.{rules}
use Rattle.model.specs.Image.{tree_of, node}
use Rattle.model.specs.Values.{shaped}
use Rattle.labels.proofs.Fields.{same_not}
use Rattle.types.proofs.Same.{first_on, first_off, first-end}
use Rattle.model.proofs.Bounds.{node-placed}
use Rattle.model.proofs.Reading.{rank_is}
use Rattle.types.proofs.shapes.shaped.Goals as goal

pub returns-then-read-n : goal.returns-then-read-n
unfolding shaped
returns-then-read-n c =
    let a = c.args in
    let e : c.read.result.rank ≡ (node (tree_of a.image.now) a.i).rank = ap (λ r. r.rank) c.read.ensures in
    let l : a.n ≤ length a.sizes = (search rules) in
    sym (same_not _ _ (λ f. c.if-read-n.true (e ∙ sym (rank_is _ _) ∙ f ∙ length-take-le a.n a.sizes l)))

pub dimension-requires : goal.dimension-requires
dimension-requires c =
    let a = c.args in
    let p = node-placed a.image.now c.requires.sound.0.table a.i (search rules) in
    let e : (node (tree_of a.image.now) a.i).rank ≡ a.n = sym (ap (λ r. r.rank) c.read.ensures) ∙ c.if-read-n.false in
    record { laid = (search rules, search rules); k_bound = search rules }

pub returns-then-dimension-sizes : goal.returns-then-dimension-sizes
unfolding shaped
returns-then-dimension-sizes c =
    let a = c.args in
    let e = rank_is _ _ ∙ sym (ap (λ r. r.rank) c.read.ensures) ∙ c.if-read-n.false in
    first_off _ a.sizes a.n c.loop-k.k e (search rules) (search rules) (λ e. c.if-dimension-sizes.true (c.dimension.ensures ∙ e)) ∙ c.loop-k.invariant

pub loop-k-preserved : goal.loop-k-preserved
loop-k-preserved c =
    let a = c.args in
    let e = rank_is _ _ ∙ sym (ap (λ r. r.rank) c.read.ensures) ∙ c.if-read-n.false in
    first_on _ a.sizes a.n c.loop-k.k e (search rules) (search rules) (sym c.dimension.ensures ∙ c.if-dimension-sizes.false) ∙ c.loop-k.invariant

pub returns : goal.returns
unfolding shaped
returns c =
    let a = c.args in
    let e = rank_is _ _ ∙ sym (ap (λ r. r.rank) c.read.ensures) ∙ c.if-read-n.false in
    first-end _ a.sizes a.n c.loop-k.k e (search rules) (search rules) ∙ c.loop-k.invariant
