-- The first n bytes have no marks, and the others are as they were.
use Rattle.std.proofs.Common.{ℕ, ◌+◌, ◌%◌, ◌<◌, ◌≤◌, List, ◌++◌, length, get_or, take, drop, set, refl, ◌∙◌, arith, length-set, get_or-set_same, get_or-set_other}
use Rattle.std.proofs.lemmas.Grind.{common_steps}
use Rattle.std.proofs.lemmas.List.{length-take-le}
use native.Mathlib.Decide.{ℕ_discrete}
use Rattle.usage_bytes.specs.ParentMarks.{Unmarked}
use Rattle.usage_bytes.proofs.parent_marks.clear_marks.Goals as goal

-- one more
more : (k : ℕ) {bytes after : List ℕ} → k < length after → Unmarked k bytes after → Unmarked (k + 1) bytes (set after k (get_or after k 0 % 4))
more k {bytes} {after} h u =
    record {
      long = length-set after k _ ∙ u.long;
      front =
          λ p l.
          elim (ℕ_discrete p k) [
            | yes q ↦ rw (q, get_or-set_same after k (get_or after k 0 % 4) 0 h, u.rest k (omega arith))
            | no n ↦ get_or-set_other after k p _ 0 n ∙ u.front p (omega arith)
          ];
      rest = λ p l. get_or-set_other after k p _ 0 (omega arith) ∙ u.rest p (omega arith);
    }

-- a front part of the bytes, put back
back : (n i : ℕ) (bytes part : List ℕ) → n ≤ length bytes → n ≤ i → Unmarked i (take n bytes) part → Unmarked n bytes (part ++ drop n bytes)
back n i bytes part h l u =
    record {
      long = grind (arith, common_steps, u.long);
      front = λ p m. grind (arith, common_steps, u.long, u.front p (omega arith));
      rest = λ p m. grind (arith, common_steps, u.long);
    }

pub loop-byte-init : goal.loop-byte-init
loop-byte-init c = record { long = refl; front = λ p h. absurd (omega arith); rest = λ p h. refl }

pub loop-byte-preserved : goal.loop-byte-preserved
loop-byte-preserved c = let l = c.loop-byte in more l.byte-index (omega arith) l.invariant

pub returns : goal.returns
returns c =
    let l = c.loop-byte in
    let bytes = c.args.out.now in
    back c.args.n l.byte-index bytes l.byte-items c.requires (omega (arith, length-take-le c.args.n bytes c.requires)) l.invariant
