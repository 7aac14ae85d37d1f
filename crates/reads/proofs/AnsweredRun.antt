-- What the runner wrote is a run of its list of reads, so demand 3 holds of it.
use Prim.Native.Nat.{ℕ, zero, suc, ◌+◌, ◌≤◌, ◌<◌}
use mathlib.Core.Path.{◌≡◌, refl, sym}
use mathlib.Core.Bool.{Bool, true, false}
use mathlib.Core.List.{List, [], ◌∷◌}
use native.Mathlib.Omega.{arith}
use lib.ListN.{length, get_or}
use lib.IntN.{ℤ, pos}
use Rattle.std.specs.Prelude.{Ok}
use Rattle.model.specs.Rules.{Answer, answer, ◌unless◌, check, ◌then◌, ◌gives◌, leaves}
use Rattle.model.specs.Image.{tree_of}
use Rattle.model.specs.Containment.{is_zone}
use Rattle.model.specs.Validation.{Counts, validation}
use Rattle.model.specs.Corner.{corner_check, corner_answer}
use Rattle.model.specs.Answers.{corner_tells}
use Rattle.model.specs.Reads.{read_answer, ReadState, IsRead, ReadRun, done, next, AllOf}
use Rattle.model.specs.ReadList.{requests_in, request_at, answer_at, rule_of, number_of, corner_from, values_from}
use Rattle.model.specs.ReadList.{reads_check, ReadsAnswered, made_at, requests_of, made_of}
use Rattle.model.specs.Demand3.{given, Listed, ReadHolds}
use Rattle.model.proofs.Passed.{gives-check}
use Rattle.model.proofs.Demand3.{demand3}
use Rattle.model.proofs.Written.{written_at}

-- the two numbers tell the answer
Recovered : Answer ℤ → Type 0
Recovered a = corner_tells (corner_from (rule_of a) (number_of a)) ≡ a

recovered : (t u v w : Bool) (n : ℤ) → Recovered (check 0 (40 unless t ∷ []) then (check 0 (41 unless u ∷ 43 unless v ∷ 42 unless w ∷ []) gives n))
unfolding Recovered rule_of number_of check ◌then◌ ◌gives◌
recovered false u v w n = refl
recovered true false v w n = refl
recovered true true false w n = refl
recovered true true true false n = refl
recovered true true true true n = refl

answer_recovered : (image entries reads : List ℕ) (i : ℕ) → Recovered (answer_at image entries reads i)
unfolding answer_at read_answer corner_answer corner_check
answer_recovered image entries reads i = recovered _ _ _ _ _

-- reads that were made one after the other in a state that stays are a run
run_of : (s : ReadState) (reads : List ℕ) (numbers : List ℤ) (rules : List ℕ) (k i : ℕ)
    → ((j : ℕ) → i ≤ j → j < i + k → IsRead (made_at s reads numbers rules j))
    → ReadRun s (values_from (request_at reads) k i) (values_from (made_at s reads numbers rules) k i) s
unfolding values_from
run_of s reads numbers rules zero i each = done
run_of s reads numbers rules (suc k) i each =
    next (each i (omega arith) (omega arith)) (run_of s reads numbers rules k (suc i) (λ j l h. each j (omega arith) (omega arith)))

module _ {image entries reads : List ℕ} {numbers : List ℤ} {rules : List ℕ} {image' entries' : List ℕ} {numbers' : List ℤ} {rules' : List ℕ}
    {n : ℕ} (a : ReadsAnswered image entries reads numbers rules (Ok n) image' entries' numbers' rules') where
  written : (i : ℕ) → i < requests_in reads → IsRead (made_at (record { image = image; entries = entries }) reads numbers' rules' i)
  unfolding Recovered answer_at leaves
  written i h =
      let yes = gives-check (reads_check reads (length numbers) (length rules)) (requests_in reads) (sym a.answers) in
      let r : get_or rules' i 0 ≡ rule_of (answer_at image entries reads i) =
      rw (a.rules_are, yes) (written_at (λ j. rule_of (answer_at image entries reads j)) rules 0 (requests_in reads) i h) in
      let n : get_or numbers' i (pos 0) ≡ number_of (answer_at image entries reads i) =
      rw (a.numbers_are, yes) (written_at (λ j. number_of (answer_at image entries reads j)) numbers (pos 0) (requests_in reads) i h) in
      record { answers = rw (r, n) (answer_recovered image entries reads i); image-kept = refl; entries-kept = refl }

  -- from the state that the runner found to the state that it left
  pub answered_run : ReadRun (record { image = image; entries = entries }) (requests_of reads)
      (made_of (record { image = image; entries = entries }) reads numbers' rules')
      (record { image = image'; entries = entries' })
  answered_run =
      rw (a.image-kept, a.entries-kept)
      (run_of (record { image = image; entries = entries }) reads numbers' rules' (requests_in reads) 0 (λ j l h. written j (omega arith)))

-- demand 3 of what the runner wrote: an accepted image, a zone of it, its section entries, reads that name entries of the list
pub demand3_answered : {b reads : List ℕ} {z : ℕ} {rest : List ℕ} {numbers : List ℤ} {rules : List ℕ}
    {b' entries' : List ℕ} {numbers' : List ℤ} {rules' : List ℕ} {n : ℕ} (c : Counts)
    → validation b ≡ answer c → is_zone (tree_of b) z ≡ true → AllOf (Listed b z rest) (requests_of reads)
    → ReadsAnswered b (given b z rest).entries reads numbers rules (Ok n) b' entries' numbers' rules'
    → AllOf (ReadHolds b z rest) (made_of (given b z rest) reads numbers' rules')
demand3_answered {b} {reads} {z} {rest} {numbers' = numbers'} {rules' = rules'} c e zone l a =
    (demand3 b c e z zone rest).every_read (requests_of reads) l (made_of (given b z rest) reads numbers' rules') _ (answered_run a)
