-- The inner size and the rind sum, of which neither is too large to be added.
use native.Mathlib.Omega.{arith}
use Prim.Native.Nat.{◌≤◌, ◌<◌}
use mathlib.Core.Path.{◌≡◌, sym, ap, ◌∙◌}
use borrow.Author.Rules.{rules}
use borrow.Author.Tests.{lt-ltb, le-ltb}
use native.Mathlib.Nat.{add_assoc}
use lib.ListN.{get_or}
use Rattle.model.specs.Image.{tree_of, parent}
use Rattle.model.specs.Values.{data_size, index_dimension}
use Rattle.sids.specs.Sizes.{inner_size}
use Rattle.sids.proofs.Zones.{size_in_lem, inner_small}
use Rattle.sids.proofs.data_size.data_size_at.Goals as goal

pub returns-then-n-d : goal.returns-then-n-d
returns-then-n-d c = rw (le-ltb _ _ c.if-n-d.true)

pub rind_sum-requires : goal.rind_sum-requires
rind_sum-requires c =
    record { sound = c.requires.sound; rind_value = (c.requires.rind_value.0, search rules); d_bound = search rules }

pub overflow_add-result : goal.overflow_add-result
overflow_add-result c =
    let t = tree_of c.args.image.now in
    let p = c.args.p in
    let d = c.args.d in
    let h : d < index_dimension t (parent t p) = omega arith in
    let k : index_dimension t (parent t p) ≤ 3 = omega arith in
    let x : get_or c.args.inner d 0 ≡ inner_size t p d = ap (λ l. get_or l d 0) c.requires.inner_value ∙ size_in_lem (inner_size t p) (index_dimension t (parent t p)) d h k in
    let y = inner_small t p c.requires.sound.1.zone.zone c.requires.sound.1.value d h in
    omega arith

pub returns : goal.returns
unfolding data_size
returns c =
    let t = tree_of c.args.image.now in
    let p = c.args.p in
    let d = c.args.d in
    let h : d < index_dimension t (parent t p) = omega arith in
    let k : index_dimension t (parent t p) ≤ 3 = omega arith in
    let x : get_or c.args.inner d 0 ≡ inner_size t p d = ap (λ l. get_or l d 0) c.requires.inner_value ∙ size_in_lem (inner_size t p) (index_dimension t (parent t p)) d h k in
    let e = c.rind_sum.ensures.0 in
    rw (lt-ltb _ _ c.if-n-d.false, x, e) (sym (add_assoc (inner_size t p d) _ _))
