-- Laws of rows of numbers, over the width.
use Prim.Native.Nat.{ℕ, zero, suc, ◌+◌, ◌*◌, ◌-◌, ◌/◌, ◌^◌, ◌≤◌, ◌<◌}
use mathlib.Core.Path.{◌≡◌, refl, sym, subst}
use mathlib.Core.Bool.{Bool, true, false}
use mathlib.Core.List.{List}
use native.Mathlib.Omega.{arith}
use native.Mathlib.Nat.{mul-le-mul_left, le-div_iff_mul-le, mul_comm, pow-succ'}
use lib.Dec.{T, leb, eqb, lit<}
use lib.ListN.{length, get_or, drop}
use lib.Ieee.Bits.{is_true}
use mir.Syntax.{w8}
use mir.Val.{Fits}
use borrow.Author.Tests.{leb-true, leb-false, eqb-true}
use Rattle.model.specs.Bytes.{le, half}
use Rattle.model.specs.Corner.{width_lawful, inside, number_at}
use Rattle.model.proofs.Logic.{and_first, and_second, or_cases}
use Rattle.model.proofs.Reading.{le_step}
use Rattle.words.specs.Width.{is_width}
use Rattle.rows.specs.Rows.{Numbers}

-- a width is 4 or 8
by_width : {A : Type 0} (w : ℕ) → T (is_width w) → (w ≡ 4 → A) → (w ≡ 8 → A) → A
by_width w h f g = or_cases (eqb w 4) (eqb w 8) (is_true (is_width w) h) (λ e. f (eqb-true w 4 e)) (λ e. g (eqb-true w 8 e))

at_least : (w : ℕ) → T (is_width w) → 4 ≤ w
at_least w h = by_width w h (λ e. omega arith) (λ e. omega arith)

-- a number of w bytes, of bytes that are bytes
le_bound : (b : List ℕ) → ((i : ℕ) → Fits w8 (get_or b i 0)) → (w p : ℕ) → le w (drop p b) < 256 ^ w
unfolding le
le_bound b g zero p = lit< tt
le_bound b g (suc w) p =
    let r = le_bound b g w (p + 1) in
    let h = (g p).fits in
    rw (le_step w b p, pow-succ') (omega arith)

-- half of its bit patterns are below `half`, and as many are not
pub bits_bound : {b : List ℕ} {at w n : ℕ} → Numbers b at w n → ((i : ℕ) → Fits w8 (get_or b i 0)) → (k : ℕ) → number_at b at w k < 2 * half w
unfolding number_at half
bits_bound {b} {at} {w} x g k =
    by_width w x.wide (λ e. rw e (le_bound b g 4 (at + 4 * k))) (λ e. rw e (le_bound b g 8 (at + 8 * k)))

-- two tests that tell the same
pub same_test : (a b c d : ℕ) → (a ≤ b → c ≤ d) → (c ≤ d → a ≤ b) → leb a b ≡ leb c d
same_test a b c d f g = by_test (leb a b) (leb c d) refl refl
  where
    by_test : (t u : Bool) → leb a b ≡ t → leb c d ≡ u → t ≡ u
    by_test true true p q = refl
    by_test false false p q = refl
    by_test true false p q = let l = f (leb-true a b p) in absurd (omega (arith, leb-false c d q))
    by_test false true p q = let l = g (leb-true c d q) in absurd (omega (arith, leb-false a b p))

-- numbers that the model finds inside the image
module _ (b : List ℕ) (at w n : ℕ) (e : inside b at w n ≡ true) where
  pub inside-numbers : Numbers b at w n
  unfolding inside width_lawful
  inside-numbers =
      record {
        wide = subst T (sym (and_first (is_width w) (leb (at + w * n) (length b)) e)) tt;
        inside = leb-true _ _ (and_second (is_width w) (leb (at + w * n) (length b)) e);
      }

  -- they are fewer than 2 ^ 62
  pub inside-few : length b < 2 ^ 64 → n < 2 ^ 62
  inside-few s =
      let x = inside-numbers in
      let m = mul-le-mul_left {m = 4} {n = w} n (at_least w x.wide) in
      omega (arith, x.inside, m, mul_comm n w)

module _ (b : List ℕ) (at w n : ℕ) where
  pub inside_many : length b < 2 ^ 64 → 2 ^ 62 ≤ n → inside b at w n ≡ false
  inside_many s h = by_test (inside b at w n) refl
    where
      by_test : (t : Bool) → inside b at w n ≡ t → t ≡ false
      by_test true e = absurd (omega (arith, inside-few b at w n e s))
      by_test false e = refl

  -- the room as the code compares it, by the width
  pub inside_by_room : T (is_width w) → at ≤ length b → leb n ((length b - at) / w) ≡ inside b at w n
  unfolding inside width_lawful
  inside_by_room h l =
      let few = at_least w h in
      let q = le-div_iff_mul-le {k = w} {x = n} {y = length b - at} (omega arith) in
      let c = mul_comm n w in
      rw (is_true (is_width w) h)
      (same_test n ((length b - at) / w) (at + w * n) (length b) (λ s. omega (arith, q.0 s)) (λ s. q.1 (omega arith)))
