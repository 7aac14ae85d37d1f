-- What is left of the numbers decides.
use mathlib.Core.Path.{◌≡◌, sym, ap, ◌∙◌}
use lib.ListN.{length}
use borrow.Author.Rules.{rules}
use Rattle.model.specs.Image.{tree_of, node}
use Rattle.model.specs.Values.{rind_value, size}
use Rattle.model.proofs.Bounds.{node-placed}
use Rattle.types.proofs.StoredNumbers.{flat-is, whole_four, has_flat}
use Rattle.model.proofs.Loops.{every_start, every_more, every_stop, every_done}
use Rattle.model.proofs.Reading.{rank_is}
use Rattle.types.proofs.stored_numbers.rind_value.Goals as goal

pub dimension-n-requires : goal.dimension-n-requires
dimension-n-requires c =
    let a = c.args in
    let p = node-placed a.image.now c.requires.sound.0.table a.i (search rules) in
    let e : (node (tree_of a.image.now) a.i).rank ≡ 1 = sym (rank_is _ _) ∙ ap length (flat-is _ _ c.requires.i_value.1) in
    record { laid = (search rules, search rules); k_bound = search rules }

pub loop-k-init : goal.loop-k-init
unfolding rind_value size
loop-k-init c = rw (← c.dimension-n.ensures) (every_start _ _)

pub not_negative-requires : goal.not_negative-requires
unfolding size
not_negative-requires c =
    let a = c.args in (
      search rules,
      has_flat a.image.now c.requires.sound.0 a.i (search rules) (whole_four _ _ c.requires.i_value.0) c.requires.i_value.1 c.loop-k.k
          (rw (← c.dimension-n.ensures) (search rules)),
    )

pub returns-then-not-not_negative : goal.returns-then-not-not_negative
returns-then-not-not_negative c = every_stop c.loop-k.invariant c.loop-k-test.true (sym c.not_negative.ensures ∙ c.if-not-not_negative.true)

pub loop-k-preserved : goal.loop-k-preserved
loop-k-preserved c = every_more c.loop-k.invariant c.loop-k-test.true (sym c.not_negative.ensures ∙ c.if-not-not_negative.false)

pub returns : goal.returns
returns c = every_done c.loop-k.invariant c.loop-k-test.false
