-- The dimensions from k on, and the product before them, decide.
use native.Mathlib.Omega.{arith}
use Prim.Native.Nat.{◌*◌}
use mathlib.Core.Path.{◌≡◌, sym, ap, ◌∙◌}
use mathlib.Core.Bool.{not}
use lib.Dec.{eqb}
use lib.ListN.{length}
use borrow.Author.Tests.{leb-true}
use Rattle.records.specs.declared.RecordNumbers.{RecordNumbers}
use Rattle.records.specs.Table.{records_of}
use Rattle.records.proofs.Tables.{table-node}
use Rattle.model.specs.Image.{node, dimensions}
use Rattle.model.proofs.Logic.{and_second}
use Rattle.model.proofs.Reading.{rank_is}
use Rattle.model.proofs.SameNodes.{same_width}
use Rattle.table.proofs.Laws.{size-on, size-off, size-end, sized_is}
use Rattle.table.proofs.sizes.data_size_lawful.Goals as goal
use Rattle.table.proofs.sizes.data_size_lawful.Goals.{After-width_at-m, At-loop-k}

pub loop-k-init : goal.loop-k-init
loop-k-init c =
    let a = c.args in
    let t = records_of a.table.now a.count in
    let w = same_width _ t a.i (table-node _ _ a.i c.requires.has_record.0.1.0 c.requires.has_record.0.1.1) in
    let z = ap (λ (x : RecordNumbers). x.data_size) c.requires.has_record.1 in
    rw (c.width_at-m.ensures.0 ∙ w, z) (sized_is t a.i)

-- the node has as many dimensions as its numbers say
ranked : (w : After-width_at-m) → let a = w.args in
    length (dimensions (records_of a.table.now a.count) a.i) ≡ a.r.rank
ranked w = rank_is _ w.args.i ∙ sym (ap (λ (x : RecordNumbers). x.rank) w.requires.has_record.1)

pub dimension-d-requires : goal.dimension-d-requires
dimension-d-requires c =
    let q : c.args.r.rank ≡ (node (records_of c.args.table.now c.args.count) c.args.i).rank = ap (λ (x : RecordNumbers). x.rank)
    c.requires.has_record.1 in
    record { has_record = c.requires.has_record.0; k_bound = omega arith; i_in_bounds = c.requires.i_in_bounds }

pub returns-then-not-product_fits : goal.returns-then-not-product_fits
returns-then-not-product_fits c =
    let l = (goal.at.returns-then-not-product_fits c).At-loop-k in
    sym (size-off l.loop-k.m _ _ l.loop-k.k (omega (arith, ranked (goal.at.returns-then-not-product_fits c).After-width_at-m)) c.dimension-d.ensures
    (sym c.product_fits.ensures ∙ c.if-not-product_fits.true))
    ∙ l.loop-k.invariant

pub overflow_mul-m : goal.overflow_mul-m
overflow_mul-m c =
    let m = c.loop-k.m in
    let d = c.dimension-d.result in
    omega (arith, leb-true (m * d) _ (and_second (not (eqb d 0)) _ (sym c.product_fits.ensures ∙ c.if-not-product_fits.false)))

pub loop-k-preserved : goal.loop-k-preserved
loop-k-preserved c =
    let l = (goal.at.loop-k-preserved c).At-loop-k in
    size-on l.loop-k.m _ _ l.loop-k.k (omega (arith, ranked (goal.at.loop-k-preserved c).After-width_at-m)) c.dimension-d.ensures
    (sym c.product_fits.ensures ∙ c.if-not-product_fits.false) ∙ l.loop-k.invariant

pub returns : goal.returns
returns c =
    let l = (goal.at.returns c).At-loop-k in
    sym (size-end l.loop-k.m _ _ l.loop-k.k (omega (arith, ranked (goal.at.returns c).After-width_at-m))) ∙ l.loop-k.invariant
