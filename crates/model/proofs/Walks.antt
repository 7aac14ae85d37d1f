-- The walks of specs/Lists. As a loop with a counter i below n meets them: one step, and the end. What a walk says of each number, and the other way round. What
-- holds of a list holds of those in it.
use Prim.Native.Nat.{ℕ, zero, suc, ◌+◌, ◌-◌, ◌≤◌, ◌<◌}
use mathlib.Core.Path.{◌≡◌, refl, sym, ap, subst, ◌∙◌}
use mathlib.Core.Bool.{Bool, true, false, cond, not, ◌&&◌, ◌||◌}
use mathlib.Core.List.{List, [], ◌∷◌}
use native.Mathlib.Omega.{arith}
use native.Mathlib.Decide.{ℕ_discrete}
use native.Mathlib.Numerals.{add-one}
use native.Mathlib.Nat.{add-zero}
use lib.Dec.{eqb}
use borrow.Author.Tests.{eqb-true, ne_eqb}
use Rattle.model.specs.Lists.{every_from, some_from, count_from, list_from, seek_from, sum_before, among}
use Rattle.model.proofs.Logic.{untrue, and_first, and_second, and-false, or_left, or_right, or_cases}

left : (n i : ℕ) → i < n → n - i ≡ suc (n - (i + 1))
left n i h = omega arith

none : (n i : ℕ) → n ≤ i → n - i ≡ 0
none n i h = omega arith

module _ (p : ℕ → Bool) (n i : ℕ) where
  pub every_from_step : i < n → every_from p (n - i) i ≡ (p i && every_from p (n - (i + 1)) (i + 1))
  unfolding every_from
  every_from_step h = rw (left n i h, add-one)

  pub every_from-end : n ≤ i → every_from p (n - i) i ≡ true
  unfolding every_from
  every_from-end h = rw (none n i h)

  pub some_from_step : i < n → some_from p (n - i) i ≡ (p i || some_from p (n - (i + 1)) (i + 1))
  unfolding some_from
  some_from_step h = rw (left n i h, add-one)

  pub some_from-end : n ≤ i → some_from p (n - i) i ≡ false
  unfolding some_from
  some_from-end h = rw (none n i h)

  pub seek_from_step : i < n → seek_from p (n - i) i ≡ cond (p i) i (seek_from p (n - (i + 1)) (i + 1))
  unfolding seek_from
  seek_from_step h = rw (left n i h, add-one)

  pub seek_from-end : n ≤ i → seek_from p (n - i) i ≡ i
  unfolding seek_from
  seek_from-end h = rw (none n i h)

  pub count_from_step : i < n → count_from p (n - i) i ≡ cond (p i) (suc (count_from p (n - (i + 1)) (i + 1))) (count_from p (n - (i + 1)) (i + 1))
  unfolding count_from
  count_from_step h = rw (left n i h, add-one)

  pub count_from-end : n ≤ i → count_from p (n - i) i ≡ 0
  unfolding count_from
  count_from-end h = rw (none n i h)

  pub list_from_step : i < n → list_from p (n - i) i ≡ cond (p i) (i ∷ list_from p (n - (i + 1)) (i + 1)) (list_from p (n - (i + 1)) (i + 1))
  unfolding list_from
  list_from_step h = rw (left n i h, add-one)

  pub list_from-end : n ≤ i → list_from p (n - i) i ≡ []
  unfolding list_from
  list_from-end h = rw (none n i h)

pub sum_before_step : (f : ℕ → ℕ) (i : ℕ) → sum_before f (i + 1) ≡ sum_before f i + f i
unfolding sum_before
sum_before_step f i = rw add-one

-- two tests that agree give one walk
pub some_same : (p q : ℕ → Bool) (k i : ℕ) → ((j : ℕ) → i ≤ j → j < i + k → p j ≡ q j) → some_from p k i ≡ some_from q k i
unfolding some_from
some_same p q zero i e = refl
some_same p q (suc k) i e = rw (e i (omega arith) (omega arith), some_same p q k (suc i) (λ j l h. e j (omega arith) (omega arith)))

module _ (p q : ℕ → Bool) where
  pub every_same : (k i : ℕ) → ((j : ℕ) → i ≤ j → j < i + k → p j ≡ q j) → every_from p k i ≡ every_from q k i
  unfolding every_from
  every_same zero i e = refl
  every_same (suc k) i e = rw (e i (omega arith) (omega arith), every_same k (suc i) (λ j l h. e j (omega arith) (omega arith)))

  pub every_both : (k i : ℕ) → every_from (λ (j : ℕ). p j && q j) k i ≡ (every_from p k i && every_from q k i)
  unfolding every_from
  every_both zero i = refl
  every_both (suc k) i = rw (every_both k (suc i)) (in_turn (p i) (q i) (every_from p k (suc i)) (every_from q k (suc i)))
    where
      in_turn : (a b c d : Bool) → ((a && b) && (c && d)) ≡ ((a && c) && (b && d))
      in_turn true true c d = refl
      in_turn true false c d = sym (and-false c)
      in_turn false b c d = refl

pub sum_same : (f g : ℕ → ℕ) (n : ℕ) → ((j : ℕ) → j < n → f j ≡ g j) → sum_before f n ≡ sum_before g n
unfolding sum_before
sum_same f g zero e = refl
sum_same f g (suc n) e = rw (sum_same f g n (λ j h. e j (omega arith)), e n (omega arith))

-- what always holds holds of every number
pub every_holds : (p : ℕ → Bool) → ((j : ℕ) → p j ≡ true) → (k i : ℕ) → every_from p k i ≡ true
unfolding every_from
every_holds p e zero i = refl
every_holds p e (suc k) i = rw (e i) (every_holds p e k (suc i))

-- what holds of every number holds of each
pub every_at : (p : ℕ → Bool) (k i j : ℕ) → every_from p k i ≡ true → i ≤ j → j < i + k → p j ≡ true
unfolding every_from
every_at p zero i j e l h = absurd (omega arith)
every_at p (suc k) i j e l h =
    elim (ℕ_discrete i j) [
      | yes q ↦ subst (λ (n : ℕ). p n ≡ true) q (and_first (p i) (every_from p k (suc i)) e)
      | no n ↦ every_at p k (suc i) j (and_second (p i) (every_from p k (suc i)) e) (omega (arith, n)) (omega arith)
    ]

-- one that holds is some
pub some_by : (p : ℕ → Bool) (k i j : ℕ) → p j ≡ true → i ≤ j → j < i + k → some_from p k i ≡ true
unfolding some_from
some_by p zero i j e l h = absurd (omega arith)
some_by p (suc k) i j e l h =
    elim (ℕ_discrete i j) [
      | yes q ↦ or_left (p i) (some_from p k (suc i)) (subst (λ (n : ℕ). p n ≡ true) (sym q) e)
      | no n ↦ or_right (p i) (some_from p k (suc i)) (some_by p k (suc i) j e (omega (arith, n)) (omega arith))
    ]

-- some number: which one
pub record Some (p : ℕ → Bool) (k i : ℕ) : Type 0 where
  pub at : ℕ
  pub from : i ≤ at
  pub to : at < i + k
  pub holds : p at ≡ true

pub some_at : (p : ℕ → Bool) (k i : ℕ) → some_from p k i ≡ true → Some p k i
unfolding some_from
some_at p zero i e = untrue e
some_at p (suc k) i e = by_test (p i) refl e (λ h. some_at p k (suc i) h)
  where
    by_test : (t : Bool) → p i ≡ t → (t || some_from p k (suc i)) ≡ true → (some_from p k (suc i) ≡ true → Some p k (suc i)) → Some p (suc k) i
    by_test true q h later = record { at = i; from = omega arith; to = omega arith; holds = q }
    by_test false q h later =
        let s = later h in record { at = s.at; from = omega arith; to = omega arith; holds = s.holds }

-- a search that ended before its end stands where the test holds
seek_here : (p : ℕ → Bool) (i later b : ℕ) (t : Bool) → p i ≡ t → (later < b → p later ≡ true) → cond t i later < b → p (cond t i later) ≡ true
seek_here p i later b true e f h = e
seek_here p i later b false e f h = f h

pub seek_holds : (p : ℕ → Bool) (k i : ℕ) → seek_from p k i < i + k → p (seek_from p k i) ≡ true
unfolding seek_from
seek_holds p zero i h = absurd (omega arith)
seek_holds p (suc k) i h = seek_here p i (seek_from p k (suc i)) (i + suc k) (p i) refl (λ l. seek_holds p k (suc i) (omega arith)) h

-- each number is counted by a test or by its contrary
pub count_both : (p q : ℕ → Bool) (k i : ℕ) → ((j : ℕ) → q j ≡ not (p j)) → count_from p k i + count_from q k i ≡ k
unfolding count_from
count_both p q zero i e = refl
count_both p q (suc k) i e = by_test (p i) (q i) (e i) (count_both p q k (suc i) e)
  where
    by_test : (t u : Bool) → u ≡ not t → count_from p k (suc i) + count_from q k (suc i) ≡ k
        → cond t (suc (count_from p k (suc i))) (count_from p k (suc i)) + cond u (suc (count_from q k (suc i))) (count_from q k (suc i)) ≡ suc k
    by_test true u f h = rw f (omega arith)
    by_test false u f h = rw f (omega arith)

-- a search ends no later than a number where the test holds
pub seek_before : (p : ℕ → Bool) (k i j : ℕ) → p j ≡ true → i ≤ j → j < i + k → seek_from p k i ≤ j
unfolding seek_from
seek_before p zero i j e l h = absurd (omega arith)
seek_before p (suc k) i j e l h =
    elim (ℕ_discrete i j) [
      | yes q ↦ at_once (p i) (subst (λ (n : ℕ). p n ≡ true) (sym q) e) l
      | no n ↦ later (p i) l (seek_before p k (suc i) j e (omega (arith, n)) (omega arith))
    ]
  where
    at_once : (t : Bool) → t ≡ true → i ≤ j → cond t i (seek_from p k (suc i)) ≤ j
    at_once true q m = m
    at_once false q m = untrue q

    later : (t : Bool) → i ≤ j → seek_from p k (suc i) ≤ j → cond t i (seek_from p k (suc i)) ≤ j
    later true m r = m
    later false m r = r

-- a sum over more numbers is no less
pub sum_rises : (f : ℕ → ℕ) (i k : ℕ) → sum_before f i ≤ sum_before f (i + k)
unfolding sum_before
sum_rises f i zero = rw add-zero (omega arith)
sum_rises f i (suc k) = let h = sum_rises f i k in let e : i + suc k ≡ suc (i + k) = omega arith in rw e (omega arith)

-- one term of a sum, and what stands before it
pub sum_part : (f : ℕ → ℕ) (i n : ℕ) → i < n → sum_before f i + f i ≤ sum_before f n
sum_part f i n h =
    let r = sum_rises f (i + 1) (n - (i + 1)) in
    let e : i + 1 + (n - (i + 1)) ≡ n = omega arith in
    let s = sum_before_step f i in
    let m : sum_before f (i + 1) ≤ sum_before f n = rw e at r in
    omega arith

-- no more are counted than there are
pub count-few : (p : ℕ → Bool) (k i : ℕ) → count_from p k i ≤ k
count-few p k i = let e = count_both p (λ j. not (p j)) k i (λ j. refl) in omega arith

-- every one of a list
abbrev pub every : (ℕ → Bool) → List ℕ → Bool
every p [] = true
every p (x ∷ xs) = p x && every p xs

-- what holds of every one holds of one among them
pub each : (p : ℕ → Bool) (x : ℕ) (xs : List ℕ) → every p xs ≡ true → among x xs ≡ true → p x ≡ true
unfolding among
each p x [] h e = untrue e
each p x (y ∷ ys) h e =
    or_cases (eqb x y) (among x ys) e (λ q. ap p (eqb-true x y q) ∙ and_first (p y) _ h) (λ m. each p x ys (and_second (p y) _ h) m)

-- what stands in a list is nothing that does not
pub not_of : (xs : List ℕ) (x y : ℕ) → among x xs ≡ true → among y xs ≡ false → eqb x y ≡ false
not_of xs x y e n =
    elim (ℕ_discrete x y) [
      | yes q ↦ untrue (sym n ∙ (rw q at e))
      | no z ↦ ne_eqb x y z
    ]
