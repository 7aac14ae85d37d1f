-- A missing Rind gives zeros; the numbers of a conforming one are at most 2,147,483,647.
use native.Mathlib.Omega.{arith}
use Prim.Native.Nat.{ℕ, ◌+◌, ◌*◌, ◌≤◌, ◌<◌}
use mathlib.Core.Path.{◌≡◌, sym, ◌∙◌}
use Rattle.model.proofs.Found.{the_none}
use borrow.Author.Rules.{rules}
use Rattle.model.specs.Bytes.{text}
use Rattle.model.specs.Image.{tree_of, node_count, parent}
use Rattle.model.specs.Containment.{Rind}
use Rattle.model.specs.Values.{rind_number, conforming, index_dimension}
use Rattle.types.proofs.Missing.{there, number_past}
use Rattle.sids.proofs.Rinds.{rind-has, rind-small}
use Rattle.sids.proofs.data_size.rind_sum.Goals as goal
use Rattle.sids.proofs.data_size.rind_sum.Goals.{After-whole-2}

pub returns-in_default : goal.returns-in_default
unfolding rind_number
returns-in_default c =
    let b = c.args.image.now in
    let h = the_none (sym c.requires.rind_value.0 ∙ c.in_default.is) in
    (rw (number_past b _ h (2 * c.args.d), number_past b _ h (2 * c.args.d + 1)), search rules)

pub whole-requires : goal.whole-requires
whole-requires c =
    let b = c.args.image.now in
    let l = there (sym c.in-Some.is ∙ c.requires.rind_value.0) in
    (c.requires.sound.0, rw l.0 (rind-has b c.requires.sound.0 c.args.p (rw (← l.0) l.1) (2 * c.args.d) (omega arith)))

pub whole-requires-2 : goal.whole-requires-2
whole-requires-2 c =
    let b = c.args.image.now in
    let l = there (sym c.in-Some.is ∙ c.requires.rind_value.0) in
    (c.requires.sound.0, rw l.0 (rind-has b c.requires.sound.0 c.args.p (rw (← l.0) l.1) (2 * c.args.d + 1) (omega arith)))

-- both numbers are read
module _ (c : After-whole-2) where
  abbrev number : ℕ → ℕ
  number k = rind_number (tree_of c.args.image.now) c.args.p k

  numbers : ((c.whole.result ≡ number (2 * c.args.d)) × (c.whole-2.result ≡ number (2 * c.args.d + 1)))
      × ((number (2 * c.args.d) ≤ 2147483647) × (number (2 * c.args.d + 1) ≤ 2147483647))
  unfolding rind_number
  numbers =
      let b = c.args.image.now in
      let l = there (sym c.in-Some.is ∙ c.requires.rind_value.0) in
      let h : conforming (tree_of b) c.args.p Rind (text "Rind") < node_count b = rw (← l.0) l.1 in
      let small : (k : ℕ) → k < 2 * index_dimension (tree_of b) (parent (tree_of b) c.args.p) → number k ≤ 2147483647 = λ k m. rind-small b
      c.requires.sound.0 c.args.p h k m in (
        (rw l.0 at c.whole.ensures, rw l.0 at c.whole-2.ensures),
        (
          small (2 * c.args.d) (omega arith),
          small (2 * c.args.d + 1)
              (omega arith),
        ),
      )

pub overflow_add-result : goal.overflow_add-result
overflow_add-result c = let n = numbers c in omega arith

pub returns : goal.returns
returns c = let n = numbers c in (omega arith, omega arith)
