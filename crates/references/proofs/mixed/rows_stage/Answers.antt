-- One pass: a type that does not fit ends it, the place of the first node outside 1 to limit is kept in mind to the end.
use mathlib.Core.Path.{sym, ap, ◌∙◌}
use native.Mathlib.Omega.{arith}
use Rattle.model.specs.Rules.{rejected}
use Rattle.references.proofs.MixedLaws.{some-offset, offset-row, reference-row, walked_start, walked_on, walked_off, walked_kept, walked_broken}
use Rattle.references.proofs.MixedLaws.{start_before, end-inside}
use Rattle.references.proofs.mixed.rows_stage.Goals as goal

pub overflow_sub-n : goal.overflow_sub-n
overflow_sub-n c = omega (arith, some-offset c.requires)

pub loop-k-init : goal.loop-k-init
loop-k-init c = walked_start c.requires

pub number_at-end-requires : goal.number_at-end-requires
number_at-end-requires c = let p = c.requires in (offset-row p, omega (arith, some-offset p))

pub type_fits-requires : goal.type_fits-requires
type_fits-requires c =
    let p = c.requires in
    record { numbers = reference-row p; start_lt_end = (start_before p c.loop-k.invariant (omega arith) c.number_at-end.ensures, end-inside p c.loop-k.invariant (omega arith) c.number_at-end.ensures) }

pub returns-then-not-type_fits : goal.returns-then-not-type_fits
returns-then-not-type_fits c =
    ap rejected c.at.ensures
    ∙ walked_off c.requires c.loop-k.invariant (omega arith) c.number_at-end.ensures (sym c.type_fits.ensures ∙ c.if-not-type_fits.true)

pub place_outside-place-requires : goal.place_outside-place-requires
place_outside-place-requires c =
    let p = c.requires in
    record { numbers = reference-row p; start_lt_end = (start_before p c.loop-k.invariant (omega arith) c.number_at-end.ensures, end-inside p c.loop-k.invariant (omega arith) c.number_at-end.ensures) }

pub loop-k-preserved : goal.loop-k-preserved
loop-k-preserved c =
    walked_on c.requires c.loop-k.invariant (omega arith) c.number_at-end.ensures (sym c.type_fits.ensures ∙ c.if-not-type_fits.false)
    c.place_outside-place.ensures

pub returns-then-place-eq0 : goal.returns-then-place-eq0
returns-then-place-eq0 c = walked_kept c.requires c.loop-k.invariant (omega arith) c.if-place-eq0.true

pub returns : goal.returns
returns c =
    ap rejected c.at_entry.ensures ∙ walked_broken c.requires c.loop-k.invariant (omega arith) c.if-place-eq0.false
