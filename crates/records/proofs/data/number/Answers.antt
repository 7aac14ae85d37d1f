-- The bytes at the number's place, at either width.
use native.Mathlib.Omega.{arith}
use mathlib.Core.Path.{◌≡◌}
use Rattle.model.proofs.Reading.{number-at}
use Rattle.words.proofs.Signed.{eight}
use Rattle.records.proofs.Places.{area_at_lem}
use Rattle.records.proofs.data.number.Goals as goal

pub word_at-requires-else-wide-eq4 : goal.word_at-requires-else-wide-eq4
word_at-requires-else-wide-eq4 c = omega (arith, eight _ c.requires.t.0 c.if-wide-eq4.false)

pub returns-then-wide-eq4 : goal.returns-then-wide-eq4
returns-then-wide-eq4 c =
    let b = c.args.image.now in
    let e : c.args.wide ≡ 4 = c.if-wide-eq4.true in
    let n = number-at b c.args.i c.args.k (rw (← c.requires.t.1) c.requires.wide_bound) in
    let r = area_at_lem b in
    let w = c.requires.t.1 in
    (cc, rw e c.word_at.ensures.1)

pub returns-else-wide-eq4 : goal.returns-else-wide-eq4
returns-else-wide-eq4 c =
    let b = c.args.image.now in
    let e : c.args.wide ≡ 8 = eight _ c.requires.t.0 c.if-wide-eq4.false in
    let n = number-at b c.args.i c.args.k (rw (← c.requires.t.1) c.requires.wide_bound) in
    let r = area_at_lem b in
    let w = c.requires.t.1 in
    (cc, rw e c.word_at-else-wide-eq4.ensures.1)
