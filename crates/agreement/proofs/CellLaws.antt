-- The cell after one that ends at an entry holds the entry.
use Prim.Native.Nat.{ℕ, suc, ◌+◌, ◌≤◌, ◌<◌}
use mathlib.Core.Path.{◌≡◌}
use mathlib.Core.List.{List}
use native.Mathlib.Omega.{arith}
use native.Mathlib.Decide.{ℕ_discrete}
use native.Mathlib.Numerals.{add-one}
use Rattle.model.specs.Corner.{number_at}
use Rattle.rows.specs.declared.Row.{Row}
use Rattle.agreement.specs.declared.cells.Cell.{Cell}
use Rattle.agreement.specs.Arrays.{Filled, AtMost}

module _ {b : List ℕ} {o : Row} {n k : ℕ} (g : Filled b o n) (h : k < n) {place end : ℕ} (m : AtMost b o k (record { place = place; end = end })) (l : end ≤ k) where
  at-end : number_at b o.at o.width (place + 1) ≡ k
  at-end = omega (arith, m.ends, m.to)

  pub next-inside : place + 1 + 1 < o.n
  next-inside =
      elim (ℕ_discrete (suc (place + 1)) o.n) [
        | yes e ↦ absurd (omega (arith, g.last (place + 1) e, at-end))
        | no d ↦ omega (arith, m.inside)
      ]

  pub next_cell : {e : ℕ} → e ≡ number_at b o.at o.width (place + 1 + 1) → AtMost b o k (record { place = place + 1; end = e }) × (k < e)
  next_cell {e} q =
      let r = g.rise (place + 1) (omega (arith, next-inside)) in
      let u : k < e = rw (q, add-one) (omega (arith, r, at-end)) in
      (record { inside = next-inside; ends = q; from = omega (arith, at-end); to = omega (arith, u) }, u)

-- the entry after one that a cell holds
pub at_next : {b : List ℕ} {o : Row} {k : ℕ} {c : Cell} → AtMost b o k c × (k < c.end) → AtMost b o (k + 1) c
at_next m = record { inside = m.0.inside; ends = m.0.ends; from = omega (arith, m.0.from); to = omega (arith, m.1) }
