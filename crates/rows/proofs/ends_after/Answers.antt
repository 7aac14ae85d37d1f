-- The first element that ends after the entry, where the call found one.
use Prim.Native.Nat.{◌-◌}
use native.Mathlib.Omega.{arith}
use native.Mathlib.Numerals.{add-one}
use Rattle.std.proofs.Common.{◌≡◌, true, false, rules, ◌∙◌}
use Rattle.std.proofs.lemmas.Iterator.{first_from_Range}
use borrow.Author.Tests.{tests, lt-ltb, le-ltb}
use Rattle.model.proofs.Chains.{seek_in_range}
use Rattle.model.proofs.LookedUp.{seek_within}
use Rattle.rows.specs.Rows.{ends_after_at}
use Rattle.rows.proofs.ends_after.Goals as goal

pub returns : goal.returns
unfolding ends_after_at
returns c =
    let p = ends_after_at c.args.image.now c.args.row c.args.k in
    let n = c.args.row.n - 1 in
    let e = c.unwrap_or.ensures
    ∙ seek_in_range p n c.find.result
    (first_from_Range _ _ _ c.find.result (λ i. p i ≡ true) (λ i. p i ≡ false) c.find.ensures.ran (λ i q h. search (rules, tests, lt-ltb, add-one)) (λ i q h. search (rules, tests, le-ltb, add-one)))
    in
    (e, omega (arith, e, seek_within p n 0))
