-- Words of 8 bytes written one after the other: what is left to write gives the whole.
use Prim.Native.Nat.{ℕ, suc, ◌+◌, ◌*◌, ◌≤◌, ◌<◌}
use native.Mathlib.Omega.{arith}
use mathlib.Core.Path.{◌≡◌, sym, ap, ◌∙◌}
use mathlib.Core.List.{List}
use native.Mathlib.Numerals.{add-one}
use lib.ListN.{length, get_or, drop, drop_of_length-le}
use lib.Seq.{drop-cons}
use Rattle.model.specs.Lists.{over_at}
use Rattle.model.specs.Bytes.{le_bytes, all_bytes}
use Rattle.model.proofs.Overlays.{over_at_nil, over_at_more}

-- of the words d, written from `at` on, k are written into out
pub record WordsLeft (out₀ d : List ℕ) (at : ℕ) (out : List ℕ) (k : ℕ) : Type 0 where
  pub within : k ≤ length d
  pub long : length out ≡ length out₀
  pub whole : over_at (at + 8 * k) out (all_bytes 8 (drop k d)) ≡ over_at at out₀ (all_bytes 8 d)

pub words_more : {out₀ d : List ℕ} {at : ℕ} {out out' : List ℕ} {k : ℕ} → WordsLeft out₀ d at out k → k < length d → at + 8 * length d ≤ length out₀
    → out' ≡ over_at (at + 8 * k) out (le_bytes 8 (get_or d k 0)) → length out' ≡ length out → WordsLeft out₀ d at out' (k + 1)
words_more {out₀} {d} {at} {out} {out'} {k} l h g e f =
    let j : at + 8 * (k + 1) ≡ at + 8 * k + 8 = omega arith in
    let x = le_bytes 8 (get_or d k 0) in
    let rest = all_bytes 8 (drop (suc k) d) in
    record {
      within = omega arith;
      long = f ∙ l.long;
      whole =
          rw (e, add-one k)
          (ap (λ (i : ℕ). over_at i (over_at (at + 8 * k) out x) rest) (rw (add-one k) at j)
          ∙ over_at_more (at + 8 * k) out x rest (omega (arith, l.long, g))
          ∙ ap (λ (r : List ℕ). over_at (at + 8 * k) out (all_bytes 8 r)) (sym (drop-cons d k 0 h)) ∙ l.whole);
    }

pub words-done : {out₀ d : List ℕ} {at : ℕ} {out : List ℕ} {k : ℕ} → WordsLeft out₀ d at out k → length d ≤ k → out ≡ over_at at out₀ (all_bytes 8 d)
words-done {out₀} {d} {at} {out} {k} l h =
    sym (over_at_nil (at + 8 * k) out) ∙ ap (λ (r : List ℕ). over_at (at + 8 * k) out (all_bytes 8 r)) (sym (drop_of_length-le d {i = k} h)) ∙ l.whole
