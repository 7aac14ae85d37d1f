-- Numbers linked by their classes: the last of a class, and the one before each number.
use Prim.Native.Nat.{ℕ, ◌+◌, ◌-◌, ◌≤◌, ◌<◌}
use mathlib.Core.Path.{◌≡◌, refl, sym}
use mathlib.Core.Bool.{Bool, true, false}
use mathlib.Core.List.{List}
use native.Mathlib.Omega.{arith}
use native.Mathlib.Decide.{ℕ_discrete}
use lib.Dec.{eqb}
use lib.ListN.{length, get_or, set, length-set}
use lib.Seq.{get_or-set_same, get_or-set_other}
use borrow.Author.Tests.{eq-eqb, ne_eqb}
use Rattle.texts.specs.Links.{LastOf, Linked, NoneLinked, with_link}

-- one number more: the test holds of it, or it does not
last-here : (p : ℕ → Bool) (n : ℕ) → p n ≡ true → LastOf p (n + 1) (n + 1)
last-here p n e =
    let q : n + 1 - 1 ≡ n = omega arith in
    record { small = omega arith; none_after = λ m l h. absurd (omega arith); holds = λ h. rw q e }

last_still : {p : ℕ → Bool} {n x : ℕ} → LastOf p n x → p n ≡ false → LastOf p (n + 1) x
last_still {p} {n} {x} l e = record { small = omega (arith, l.small); none_after = later; holds = l.holds }
  where
    later : (m : ℕ) → x ≤ m → m < n + 1 → p m ≡ false
    later m k h =
        elim (ℕ_discrete m n) [
          | yes q ↦ rw q e
          | no z ↦ l.none_after m k (omega (arith, z))
        ]

last_none : (p : ℕ → Bool) → LastOf p 0 0
last_none p = record { small = omega arith; none_after = λ m l k. absurd (omega arith); holds = λ k. absurd (omega arith) }

pub linked_start : (class : ℕ → ℕ) (links : List ℕ) → NoneLinked links → Linked class 0 links
linked_start class links e = record { last = λ u h. rw (e u h) (last_none (λ m. eqb (class m) u)); before = λ i h. absurd (omega arith) }

-- numbers linked in two tables that have the same places before 8192
pub linked-same : {class : ℕ → ℕ} {n : ℕ} {links other : List ℕ} → Linked class n links → n ≤ 4096 → ((m : ℕ) → m < 8192 → get_or other m 0 ≡ get_or links m 0) → Linked class n other
linked-same l h e =
    record { last = λ u k. rw (e u (omega arith)) (l.last u k); before = λ i k. rw (e (4096 + i) (omega arith)) (l.before i k) }

module _ {class : ℕ → ℕ} {i : ℕ} {links : List ℕ} (l : Linked class i links) (room : 8192 ≤ length links) where
  -- a first number of no class
  pub linked_apart : i ≡ 0 → 4096 ≤ class i → Linked class (i + 1) (set links 4096 0)
  linked_apart e h =
      record {
        last = λ u k.
            rw (get_or-set_other links 4096 u 0 0 (λ (z : u ≡ 4096). absurd (omega arith)))
            (last_still (l.last u k) (ne_eqb (class i) u (λ (z : class i ≡ u). absurd (omega arith))));
        before = λ k m.
            let q : k ≡ 0 = omega arith in
            rw (q, get_or-set_same links 4096 0 0 (omega arith)) (last_none (λ n. eqb (class n) (class 0)));
      }

  module _ (k : i < 4096) (h : class i < 4096) where
    abbrev up : ℕ
    up = class i

    abbrev first : List ℕ
    first = set links (4096 + i) (get_or links up 0)

    long : up < length first
    long = rw length-set (omega arith)

    child : (u : ℕ) → u < 4096 → LastOf (λ m. eqb (class m) u) (i + 1) (get_or (with_link links i up) u 0)
    child u m =
        elim (ℕ_discrete u up) [
          | yes q ↦ rw (q, get_or-set_same first up (i + 1) 0 long) (last-here (λ n. eqb (class n) up) i (eq-eqb up up refl))
          | no z ↦ rw (get_or-set_other first up u (i + 1) 0 z, get_or-set_other links (4096 + i) u (get_or links up 0) 0 (λ (q : u ≡ 4096 + i). absurd (omega arith)))
              (last_still (l.last u m) (ne_eqb up u (λ (q : up ≡ u). z (sym q))))
        ]

    apart : (n : ℕ) → get_or (with_link links i up) (4096 + n) 0 ≡ get_or first (4096 + n) 0
    apart n = get_or-set_other first up (4096 + n) (i + 1) 0 (λ (q : 4096 + n ≡ up). absurd (omega arith))

    earlier : (n : ℕ) → n < i + 1 → LastOf (λ m. eqb (class m) (class n)) n (get_or (with_link links i up) (4096 + n) 0)
    earlier n m =
        elim (ℕ_discrete n i) [
          | yes q ↦ rw (q, apart i, get_or-set_same links (4096 + i) (get_or links up 0) 0 (omega arith)) (l.last up h)
          | no z ↦ rw (apart n, get_or-set_other links (4096 + i) (4096 + n) (get_or links up 0) 0 (λ (q : 4096 + n ≡ 4096 + i). absurd (omega (arith, z))))
              (l.before n (omega (arith, z)))
        ]

    pub linked_on : Linked class (i + 1) (with_link links i up)
    linked_on = record { last = child; before = earlier }
