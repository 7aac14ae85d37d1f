-- A lent list with values in front, as a loop writes them one by one, and read back.
use Prim.Native.Nat.{ℕ, zero, suc, ◌+◌, ◌<◌}
use mathlib.Core.Path.{◌≡◌, refl, ap, ◌∙◌}
use mathlib.Core.List.{List, [], ◌∷◌, ◌++◌}
use native.Mathlib.Omega.{arith}
use native.Mathlib.Nat.{add-zero, zero-add}
use native.Mathlib.Numerals.{add-one}
use lib.ListN.{length, get_or, drop, set, get_or-append}
use Rattle.model.specs.Lists.{over}
use Rattle.model.specs.ReadList.{values_from}

module _ {A : Type 0} (f : ℕ → A) where
  pub values_length : (k i : ℕ) → length (values_from f k i) ≡ k
  unfolding values_from
  values_length zero i = refl
  values_length (suc k) i = ap suc (values_length k (suc i))

  values_at : (d : A) (k i j : ℕ) → j < k → get_or (values_from f k i) j d ≡ f (i + j)
  unfolding values_from
  values_at d zero i j h = absurd (omega arith)
  values_at d (suc k) i zero h = rw add-zero
  values_at d (suc k) i (suc j) h = let e : i + suc j ≡ suc i + j = omega arith in rw e (values_at d k (suc i) j (omega arith))

  one_more : (xs : List A) (k i : ℕ) → k < length xs → set (values_from f k i ++ drop k xs) k (f (i + k)) ≡ values_from f (suc k) i ++ drop (suc k) xs
  unfolding values_from
  one_more [] k i h = absurd (omega arith)
  one_more (x ∷ xs) zero i h = rw add-zero
  one_more (x ∷ xs) (suc k) i h = let e : i + suc k ≡ suc i + k = omega arith in rw e (ap (λ l. f i ∷ l) (one_more xs k (suc i) (omega arith)))

  module _ (xs : List A) where
    pub written_none : xs ≡ over xs (values_from f 0 0)
    unfolding over values_from
    written_none = refl

    pub written_more : (i : ℕ) (ys : List A) (a : A) → i < length xs → ys ≡ over xs (values_from f i 0) → a ≡ f i → set ys i a ≡ over xs (values_from f (i + 1) 0)
    unfolding over
    written_more i ys a h e q = rw (e, q, add-one, values_length i 0, values_length (suc i) 0) (rw zero-add at (one_more xs i 0 h))

    -- the i-th place holds the i-th value
    pub values_in_front : (d : A) (n j i : ℕ) → i < n → get_or (over xs (values_from f n j)) i d ≡ f (j + i)
    unfolding over
    values_in_front d n j i h =
        let l = values_length n j in
        get_or-append (values_from f n j) (drop (length (values_from f n j)) xs) d i (omega arith) ∙ values_at d n j i h

    pub written_at : (d : A) (n i : ℕ) → i < n → get_or (over xs (values_from f n 0)) i d ≡ f i
    written_at d n i h = rw zero-add at (values_in_front d n 0 i h)

-- the same values, counted from elsewhere
pub values_shift : {A : Type 0} (f g : ℕ → A) (k i j : ℕ) → ((m : ℕ) → m < k → f (i + m) ≡ g (j + m)) → values_from f k i ≡ values_from g k j
unfolding values_from
values_shift f g zero i j e = refl
values_shift f g (suc k) i j e =
    let h : f i ≡ g j = simp add-zero at (e 0 (omega arith)) in
    let r = values_shift f g k (suc i) (suc j) (λ m l. let p : suc i + m ≡ i + suc m = omega arith in let q : suc j + m ≡ j + suc m = omega arith in
    rw (p, q) (e (suc m) (omega arith))) in
    rw (h, r)
