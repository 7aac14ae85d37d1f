-- The distances tell whether the two numbers are lawful, and how far apart they are.
use Prim.Native.Nat.{ℕ, ◌+◌, ◌-◌, ◌≤◌, ◌<◌}
use mathlib.Core.Path.{◌≡◌}
use mathlib.Core.Bool.{cond}
use native.Mathlib.Omega.{arith}
use Rattle.model.specs.Bytes.{half, distance}
use Rattle.points.specs.Between.{lawful_between}
use Rattle.words.proofs.Signed.{half_is}
use Rattle.points.proofs.PointRanges.{Near, none_between, some_between}
use Rattle.points.proofs.points_between.Goals as goal
use Rattle.points.proofs.points_between.Goals.{After-distance-last}

-- both distances are known
module _ (c : After-distance-last) where
  abbrev w : ℕ
  w = c.args.width

  abbrev b : ℕ
  b = c.args.begin

  abbrev e : ℕ
  e = c.args.end

  wide : 2147483647 < half w
  wide = let h = half_is w c.requires.0 in omega arith

  begins : b < half w + half w
  begins = rw (half_is w c.requires.0).0 at c.requires.1.0

  ends : e < half w + half w
  ends = rw (half_is w c.requires.0).0 at c.requires.1.1

  none : (Near w b e wide begins ends → ⊥) → (0 ≡ cond (lawful_between w b e) (distance w e - distance w b + 1) 0) × (0 ≤ 4294967295)
  none n = (none_between w b e wide begins ends n, omega arith)

pub overflow_sub-half : goal.overflow_sub-half
overflow_sub-half c = let h = wide c in let e = c.half_of-half.ensures in omega arith

pub returns-then-first-half : goal.returns-then-first-half
returns-then-first-half c =
    let d = (goal.at.returns-then-first-half c).After-distance-last in
    let h = d.half_of-half.ensures in
    let f = d.distance-first.ensures in
    none d (λ n. absurd (let m = n.from in omega arith))

pub overflow_add-half : goal.overflow_add-half
overflow_add-half c = let h = half_is c.args.width c.requires.0 in let e = c.half_of-half.ensures in omega arith

pub returns-then-half-last : goal.returns-then-half-last
returns-then-half-last c =
    let d = (goal.at.returns-then-half-last c).After-distance-last in
    let h = d.half_of-half.ensures in
    let f = d.distance-last.ensures in
    none d (λ n. absurd (let m = n.to in omega arith))

pub returns-then-last-first : goal.returns-then-last-first
returns-then-last-first c =
    let d = (goal.at.returns-then-last-first c).After-distance-last in
    let h = d.distance-first.ensures in
    let f = d.distance-last.ensures in
    none d (λ n. absurd (let m = n.rising in omega arith))

pub overflow_add-result : goal.overflow_add-result
overflow_add-result c =
    let h = half_is c.args.width c.requires.0 in
    let e = c.half_of-half.ensures in
    omega arith

pub returns : goal.returns
returns c =
    let d = (goal.at.returns c).After-distance-last in
    let h = d.half_of-half.ensures in
    let f = d.distance-first.ensures in
    let g = d.distance-last.ensures in
    let n : Near (w d) (b d) (e d) (wide d) (begins d) (ends d) = record { from = omega arith; to = omega arith; rising = omega arith } in
    (rw (f, g) (some_between (w d) (b d) (e d) (wide d) (begins d) (ends d) n), omega arith)

pub half_of-half-requires : goal.half_of-half-requires
half_of-half-requires c = c.requires.0

pub distance-first-requires : goal.distance-first-requires
distance-first-requires c = let p = c.requires in (p.0, p.1.0)

pub distance-last-requires : goal.distance-last-requires
distance-last-requires c = let p = c.requires in (p.0, p.1.1)
