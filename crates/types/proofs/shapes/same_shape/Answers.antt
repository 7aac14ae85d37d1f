-- Both have n dimensions, and each is the same.
use Prim.Native.Nat.{ℕ}
use mathlib.Core.Path.{◌≡◌, refl, sym, ap, ◌∙◌}
use lib.Dec.{eqb}
use lib.ListN.{length, get_or}
use native.Mathlib.Omega.{arith}
use borrow.Author.Rules.{rules}
use borrow.Author.Tests.{tests}
use Rattle.std.proofs.iter.Serving.{serving}
use Rattle.std.proofs.lemmas.Iterator.{YieldsList-from_range}
use Rattle.std.proofs.lemmas.Iterator.Search.{all_from_yields_List}
use Rattle.model.specs.Image.{tree_of, dimensions}
use Rattle.model.specs.Values.{shaped}
use Rattle.model.proofs.Bounds.{node-placed}
use Rattle.model.proofs.Chains.{every_in_range}
use Rattle.model.proofs.Reading.{rank_is}
use Rattle.labels.proofs.Fields.{same_not}
use Rattle.types.proofs.Same.{same-each}
use Rattle.types.proofs.shapes.same_shape.Goals as goal
use Rattle.types.proofs.shapes.same_shape.Goals.{Else-read-n}

-- both have n dimensions
module _ (c : Else-read-n) where
  rank-i : length (dimensions (tree_of c.args.image.now) c.args.i) ≡ c.read-n.result.rank
  rank-i = rank_is _ _ ∙ sym (ap (λ r. r.rank) c.read-n.ensures)

  rank-j : length (dimensions (tree_of c.args.image.now) c.args.j) ≡ c.read-n.result.rank
  rank-j = rank_is _ _ ∙ sym (ap (λ r. r.rank) c.read.ensures) ∙ c.if-read-n.false

pub returns-then-read-n : goal.returns-then-read-n
unfolding shaped
returns-then-read-n c =
    let x = ap (λ r. r.rank) c.read-n.ensures in
    let y = ap (λ r. r.rank) c.read.ensures in
    sym (same_not _ _ (λ e. c.if-read-n.true (y ∙ sym (rank_is _ _) ∙ sym e ∙ rank_is _ _ ∙ sym x)))

pub all-requires-clause-callable : goal.all-requires-clause-callable
all-requires-clause-callable c =
    let d = (goal.at.all-requires-clause-callable c).Else-read-n in
    let p = node-placed c.args.image.now c.requires.0.table c.args.i (search rules) in
    let q = node-placed c.args.image.now c.requires.0.table c.args.j (search rules) in
    let e = sym (rank_is _ _) ∙ rank-i d in
    let f = sym (rank_is _ _) ∙ rank-j d in
    grind serving

pub returns : goal.returns
unfolding shaped
returns c =
    let a = c.args in
    let d = (goal.at.returns c).Else-read-n in
    let t = tree_of a.image.now in
    let p = λ (k : ℕ). eqb (get_or (dimensions t a.i) k 0) (get_or (dimensions t a.j) k 0) in
    all_from_yields_List p _ _ _ c.all.ensures.ran (YieldsList-from_range 0 c.read-n.result.rank c.read-n.result.rank refl (omega arith)) (λ f b q k. search (rules, tests))
    ∙ every_in_range p c.read-n.result.rank 0
    ∙ same-each (dimensions t a.i) (dimensions t a.j) c.read-n.result.rank (rank-i d) (rank-j d)
