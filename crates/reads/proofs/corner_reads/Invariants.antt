-- After i turns the first i answers stand in front.
use Prim.Native.Nat.{ℕ, ◌≤◌}
use mathlib.Core.Path.{◌≡◌}
use mathlib.Core.List.{List}
use lib.IntN.{ℤ}
use lib.ListN.{length}
use Rattle.model.specs.Lists.{over}
use Rattle.model.specs.ReadList.{requests_in, answer_at, number_of, rule_of, values_from}
use Rattle.reads.proofs.corner_reads.Given as goal

pub record Written (image entries reads : List ℕ) (numbers₀ : List ℤ) (rules₀ : List ℕ) (n : ℕ) (numbers : List ℤ) (rules : List ℕ) (i : ℕ) : Type 0 where
  pub count : n ≡ requests_in reads
  pub so_far : i ≤ n
  pub room : n ≤ length numbers₀
  pub room-2 : n ≤ length rules₀
  pub numbers_are : numbers ≡ over numbers₀ (values_from (λ k. number_of (answer_at image entries reads k)) i 0)
  pub rules_are : rules ≡ over rules₀ (values_from (λ k. rule_of (answer_at image entries reads k)) i 0)
  pub length-kept : length numbers ≡ length numbers₀
  pub length-kept-2 : length rules ≡ length rules₀

abbrev pub invariant-loop-i : goal.invariant-loop-i
invariant-loop-i l = Written l.image l.entries l.reads l.initial.numbers l.initial.rules l.n l.numbers l.rules l.i
