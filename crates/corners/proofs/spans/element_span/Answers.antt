-- The connectivity lies inside the image; then the span is that of the start offsets or of the nodes per element.
use native.Mathlib.Omega.{arith}
use mathlib.Core.Path.{sym}
use Rattle.corners.proofs.Ranges.{span_outside, any_found, mixed-found, nodes-found}
use Rattle.rows.proofs.Rows.{inside-few}
use Rattle.corners.proofs.spans.element_span.Goals as goal

pub returns-then-not-inside : goal.returns-then-not-inside
returns-then-not-inside c = (span_outside _ _ _ (sym c.if-not-inside.ensures), tt)

pub returns-then-of_any_size : goal.returns-then-of_any_size
returns-then-of_any_size c = any_found _ _ _ (sym c.if-not-inside.ensures) (sym c.if-of_any_size.ensures) c.offset_span.ensures

pub fixed_span-requires : goal.fixed_span-requires
fixed_span-requires c = (c.nodes_per-nodes.ensures.1, inside-few _ _ _ _ (sym c.if-not-inside.ensures) (omega arith))

pub returns-then-nodes-gt0 : goal.returns-then-nodes-gt0
returns-then-nodes-gt0 c =
    nodes-found _ _ _ (sym c.if-not-inside.ensures) (sym c.if-of_any_size.ensures) c.nodes_per-nodes.ensures.0 c.if-nodes-gt0.true c.fixed_span.ensures

pub returns : goal.returns
returns c =
    let n = c.nodes_per-nodes.ensures.0 in
    mixed-found _ _ _ (sym c.if-not-inside.ensures) (sym c.if-of_any_size.ensures) n (omega arith) c.offset_span-found.ensures.0
    (rw c.connectivity_of.ensures at c.behind_type.ensures)
