-- A mark that is free is set by adding it above the bits of the signs.
use mathlib.Core.Path.{refl, sym, ap, ◌∙◌}
use native.Mathlib.Omega.{arith}
use lib.Dec.{ltb}
use borrow.Author.Tests.{lt-ltb}
use Rattle.usage_bytes.proofs.parent_marks.match_parent.Goals as goal

pub more_marks-more-requires : goal.more_marks-more-requires
more_marks-more-requires c = omega (arith, c.type_inv.out c.args.p)

pub returns-then-more-eq0 : goal.returns-then-more-eq0
returns-then-more-eq0 c =
    let e = sym c.if-more-eq0.true ∙ c.more_marks-more.ensures.0 in
    (ap (ltb 0) e, refl)

pub overflow_mul-out : goal.overflow_mul-out
overflow_mul-out c = omega (arith, c.more_marks-more.ensures.1)

pub overflow_add-out : goal.overflow_add-out
overflow_add-out c = omega (arith, c.more_marks-more.ensures.1, c.slice_known-2-1.given c.args.p)

pub returns : goal.returns
returns c =
    let m = c.more_marks-more in
    (sym (lt-ltb 0 m.result (omega arith)) ∙ ap (ltb 0) m.ensures.0, rw m.ensures.0)
