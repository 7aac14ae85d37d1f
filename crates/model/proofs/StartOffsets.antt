-- Start offsets that meet rules 30 to 32: none is negative, each is below the next, none lies past the connectivity's end.
use Prim.Native.Nat.{ℕ, suc, ◌-◌, ◌≤◌, ◌<◌}
use mathlib.Core.Path.{◌≡◌}
use mathlib.Core.Bool.{true}
use native.Mathlib.Omega.{arith}
use borrow.Author.Tests.{eqb-true}
use Rattle.model.specs.Bytes.{half, below}
use Rattle.model.specs.Image.{Tree, width}
use Rattle.model.specs.Values.{offsets_of}
use Rattle.model.specs.Elements.{element_count, start_offset, connectivity_length, starts_at_zero, rises, all_rise, ends_at_length}
use Rattle.model.proofs.Walks.{every_at}
use Rattle.model.proofs.TwosComplement.{rise-small, rise-next, rise-last}

module _ (t : Tree) (s : ℕ) (first : starts_at_zero t s ≡ true) (up : all_rise t s ≡ true) where
  pub offsets-first : start_offset t s 0 ≡ 0
  unfolding starts_at_zero
  offsets-first = eqb-true _ _ first

  offsets-rise : (k : ℕ) → k < element_count t s → below (width t (offsets_of t s)) (start_offset t s k) (start_offset t s (suc k)) ≡ true
  unfolding all_rise rises
  offsets-rise k h = every_at (rises t s) (element_count t s) 0 k up (omega arith) (omega arith)

  pub offsets-small : (k : ℕ) → k ≤ element_count t s → start_offset t s k < half (width t (offsets_of t s))
  offsets-small k h = rise-small (width t (offsets_of t s)) (element_count t s) (start_offset t s) offsets-first offsets-rise k h

  pub offsets-next : (k : ℕ) → k < element_count t s → start_offset t s k < start_offset t s (suc k)
  offsets-next k h = rise-next (width t (offsets_of t s)) (element_count t s) (start_offset t s) offsets-first offsets-rise k h

  module _ (last : ends_at_length t s ≡ true) where
    pub offsets-last : start_offset t s (element_count t s) ≡ connectivity_length t s
    unfolding ends_at_length
    offsets-last = eqb-true _ _ last

    pub offsets-end : (k : ℕ) → k ≤ element_count t s → start_offset t s k ≤ connectivity_length t s
    offsets-end k h =
        let n = element_count t s in
        let r = rise-last n (start_offset t s) offsets-next k (n - k) (omega arith) in
        omega (arith, offsets-last)
