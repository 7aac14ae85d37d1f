-- The number that the element begins with is a type that has the nodes behind it, or the element is unreadable.
use mathlib.Core.Path.{sym}
use native.Mathlib.Omega.{arith}
use borrow.Author.Tests.{eq-eqb, ne_eqb}
use Rattle.corners.specs.Spans.{behind_type, mixed_span}
use Rattle.rows.proofs.Rows.{inside-numbers}
use Rattle.corners.proofs.Ranges.{type_apart, type_in_front, fits_two}
use Rattle.corners.proofs.spans.behind_type.Goals as goal

pub returns-then-element_type-ne-MIXED : goal.returns-then-element_type-ne-MIXED
unfolding mixed_span
returns-then-element_type-ne-MIXED c = (rw (ne_eqb _ _ c.if-element_type-ne-MIXED.true), tt)

pub returns-in_err-span : goal.returns-in_err-span
unfolding mixed_span behind_type
returns-in_err-span c = rw c.from_residual.ensures (rw (c.in_err-span.was, eq-eqb _ _ c.if-element_type-ne-MIXED.false), tt)

pub number_at-own_type-requires : goal.number_at-own_type-requires
number_at-own_type-requires c =
    let p = rw c.in_ok-span.was at c.requires.1 in
    (inside-numbers _ _ _ _ c.requires.0, omega (arith, p))

pub returns-then-not-fits_length : goal.returns-then-not-fits_length
returns-then-not-fits_length c = (
  rw c.in_ok-span.was
      (type_apart _ _ _ _ _ c.if-element_type-ne-MIXED.false c.number_at-own_type.ensures c.fits_length.ensures c.if-not-fits_length.true),
  tt,
)

pub returns : goal.returns
returns c =
    let y = c.if-not-fits_length.false in
    let p = rw c.in_ok-span.was at c.requires.1 in (
      rw c.in_ok-span.was (type_in_front _ _ _ _ _ c.if-element_type-ne-MIXED.false c.number_at-own_type.ensures c.fits_length.ensures y),
      (omega (arith, fits_two _ _ (sym c.if-not-fits_length.ensures)), p.1),
    )
