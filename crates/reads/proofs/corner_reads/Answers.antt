-- After i turns the first i answers stand in front.
use Prim.Native.Nat.{ℕ}
use native.Mathlib.Omega.{arith}
use mathlib.Core.Path.{◌≡◌, refl, ◌∙◌, ap}
use mathlib.Core.List.{List}
use borrow.Author.Rules.{sfits_of}
use borrow.Author.Tests.{le-leb, lt-leb}
use lib.IntN.{ℤ}
use lib.ListN.{length, length-set}
use mir.Syntax.{w64}
use mir.Facts.{to_z-of_z}
use Rattle.model.specs.declared.Rejection.{Rejection}
use Rattle.std.specs.Prelude.{Err}
use Rattle.model.specs.Rules.{rejected, rejection, check, ◌then◌, ◌gives◌, leaves}
use Rattle.model.specs.ReadList.{requests_in, number_of, rule_of, reads_check, ReadsAnswered}
use Rattle.model.proofs.Written.{written_none, written_more}
use Rattle.reads.proofs.corner_reads.Goals as goal

-- 46, and nothing is written
short : {image entries reads : List ℕ} {numbers : List ℤ} {rules : List ℕ} {r : Rejection} → r ≡ rejection 46 0
    → reads_check reads (length numbers) (length rules) ≡ rejected (rejection 46 0)
    → ReadsAnswered image entries reads numbers rules (Err r) image entries numbers rules
unfolding ◌gives◌ ◌then◌ leaves
short e q = record { answers = rw (e, q); image-kept = refl; entries-kept = refl; numbers_are = rw q; rules_are = rw q }

pub returns-then-numbers-n : goal.returns-then-numbers-n
unfolding reads_check check
returns-then-numbers-n c = short c.at.ensures (simp (lt-leb _ _ c.if-numbers-n.true))

pub returns-then-rules-n : goal.returns-then-rules-n
unfolding reads_check check
returns-then-rules-n c = short c.at-then-rules-n.ensures (simp (le-leb _ _ c.if-numbers-n.false, lt-leb _ _ c.if-rules-n.true))

pub loop-i-init : goal.loop-i-init
loop-i-init c =
    record {
      count = refl;
      so_far = omega arith;
      room = omega arith;
      room-2 = omega arith;
      numbers_are = written_none _ _;
      rules_are = written_none _ _;
      length-kept = refl;
      length-kept-2 = refl;
    }

pub loop-i-preserved : goal.loop-i-preserved
loop-i-preserved c =
    let v = c.loop-i.invariant in
    let a = c.answer_at-a in
    let z = c.number_of in
    record {
      count = refl;
      so_far = omega arith;
      room = v.room;
      room-2 = v.room-2;
      numbers_are =
          written_more _ _ _ _ _ (omega arith) v.numbers_are
          (to_z-of_z (sfits_of {w = w64} {z = z.result} z.type_inv) ∙ z.ensures ∙ ap number_of a.ensures);
      rules_are = written_more _ _ _ _ _ (omega arith) v.rules_are (c.rule_of.ensures ∙ ap rule_of a.ensures);
      length-kept = simp length-set v.length-kept;
      length-kept-2 = simp length-set v.length-kept-2;
    }

pub returns : goal.returns
unfolding reads_check check leaves ◌gives◌ ◌then◌
returns c =
    let v = c.loop-i.invariant in
    let e : c.loop-i.i ≡ requests_in c.args.reads.now = omega arith in
    let p = le-leb _ _ v.room in
    let q = le-leb _ _ v.room-2 in
    record {
      answers = rw (p, q);
      image-kept = refl;
      entries-kept = refl;
      numbers_are = rw (p, q) (rw e at v.numbers_are);
      rules_are = rw (p, q) (rw e at v.rules_are);
    }

pub answer_at-a-requires : goal.answer_at-a-requires
answer_at-a-requires c = omega arith

pub bounds-numbers-i : goal.bounds-numbers-i
bounds-numbers-i c = omega arith

pub bounds-rules-i : goal.bounds-rules-i
bounds-rules-i c = omega arith

pub shape_of-numbers : goal.shape_of-numbers
shape_of-numbers c = c.loop-i.invariant.length-kept

pub shape_of-rules : goal.shape_of-rules
shape_of-rules c = c.loop-i.invariant.length-kept-2
