-- A list of corner reads into lent lists of answers: what demand 3 speaks of, as a call.
use Rattle.std.specs.Prelude.{ℕ, zero, suc, ◌+◌, ◌*◌, ◌/◌, ◌≡◌, cond, ◌&&◌, List, [], ◌∷◌, length, get_or, eqb, leb, ℤ, pos, Result, Ok, Err}
use Rattle.model.specs.declared.Rejection.{Rejection}
use Rattle.model.specs.Lists.{over}
use Rattle.model.specs.Rules.{◌unless◌, Answer, rejected, answer, rejection, Check, check, ◌gives◌, leaves}
use Rattle.model.specs.Answers.{count_tells}
use Rattle.model.specs.Reads.{read_answer, ReadState, Request, ReadMade}

-- three numbers ask a read: which entry, an element, a corner
abbrev pub request_length : ℕ
request_length = 3

abbrev pub requests_in : List ℕ → ℕ
requests_in reads = length reads / request_length

unfoldable pub request_at : List ℕ → ℕ → Request
request_at reads i =
    record {
      which = get_or reads (request_length * i) 0;
      element = get_or reads (request_length * i + 1) 0;
      corner = get_or reads (request_length * i + 2) 0;
    }

-- the answer to the i-th
unfoldable pub answer_at : List ℕ → List ℕ → List ℕ → ℕ → Answer ℤ
answer_at image entries reads i =
    read_answer image entries (request_at reads i).which (request_at reads i).element (request_at reads i).corner

-- an answer in two numbers: the rule, 0 where there is none; the number, 0 beside a rule
unfoldable pub rule_of : {A : Type 0} → Answer A → ℕ
rule_of (rejected r) = r.rule
rule_of (answer n) = 0

unfoldable pub number_of : Answer ℤ → ℤ
number_of (rejected r) = pos 0
number_of (answer n) = n

-- the answer that two such numbers tell
abbrev pub corner_from : ℕ → ℤ → Result ℤ Rejection
corner_from rule number = cond (eqb rule 0) (Ok number) (Err (rejection rule 0))

-- the values of k numbers from i on
unfoldable pub values_from : {A : Type 0} → (ℕ → A) → ℕ → ℕ → List A
values_from f zero i = []
values_from f (suc k) i = let rest = values_from f k (suc i) in f i ∷ rest

-- 46 unless both lent lists have room for the answers; then how many there are
unfoldable pub reads_check : List ℕ → ℕ → ℕ → Check
reads_check reads numbers rules = check 0 (46 unless (leb (requests_in reads) numbers && leb (requests_in reads) rules) ∷ [])

-- the runner's contract: what it finds, what it answers, what it leaves. Answers stand in front, the rest is as it was; a refusal writes nothing.
pub record ReadsAnswered (image entries reads : List ℕ) (numbers : List ℤ) (rules : List ℕ) (r : Result ℕ Rejection)
    (image' entries' : List ℕ) (numbers' : List ℤ) (rules' : List ℕ) : Type 0 where
  pub answers : count_tells r ≡ (reads_check reads (length numbers) (length rules) gives requests_in reads)
  pub image-kept : image' ≡ image
  pub entries-kept : entries' ≡ entries
  pub numbers_are : numbers'
      ≡ leaves (reads_check reads (length numbers) (length rules)) numbers (over numbers (values_from (λ i. number_of (answer_at image entries reads i)) (requests_in reads) 0))
  pub rules_are : rules'
      ≡ leaves (reads_check reads (length numbers) (length rules)) rules (over rules (values_from (λ i. rule_of (answer_at image entries reads i)) (requests_in reads) 0))

-- The reads that the runner made, as its two lists of answers tell them: the i-th, from a state that stays, and all of them.
abbrev pub made_at : ReadState → List ℕ → List ℤ → List ℕ → ℕ → ReadMade
made_at s reads numbers rules i =
    record { found = s; asked = request_at reads i; answered = corner_from (get_or rules i 0) (get_or numbers i (pos 0)); left = s }

abbrev pub requests_of : List ℕ → List Request
requests_of reads = values_from (request_at reads) (requests_in reads) 0

abbrev pub made_of : ReadState → List ℕ → List ℤ → List ℕ → List ReadMade
made_of s reads numbers rules = values_from (made_at s reads numbers rules) (requests_in reads) 0
