-- Stores at k, k + 1 and so on, one after the other, are the entry's numbers from k on.
use Prim.Native.Nat.{suc, ◌+◌}
use mathlib.Core.Path.{◌≡◌}
use native.Mathlib.Omega.{arith}
use lib.ListN.{length-set}
use Rattle.model.specs.Sections.{entry_numbers}
use Rattle.entries.proofs.put_entry.Goals as goal

pub returns : goal.returns
unfolding entry_numbers
returns c =
    let k = c.args.k in
    let p : k + 1 ≡ suc k = omega arith in
    let q : k + 2 ≡ suc (suc k) = omega arith in
    let r : k + 3 ≡ suc (suc (suc k)) = omega arith in
    let s : k + 4 ≡ suc (suc (suc (suc k))) = omega arith in
    let t : k + 5 ≡ suc (suc (suc (suc (suc k)))) = omega arith in
    let u : k + 6 ≡ suc (suc (suc (suc (suc (suc k))))) = omega arith in
    let v : k + 7 ≡ suc (suc (suc (suc (suc (suc (suc k)))))) = omega arith in
    let w : k + 8 ≡ suc (suc (suc (suc (suc (suc (suc (suc k))))))) = omega arith in
    let x : k + 9 ≡ suc (suc (suc (suc (suc (suc (suc (suc (suc k)))))))) = omega arith in
    let y : k + 10 ≡ suc (suc (suc (suc (suc (suc (suc (suc (suc (suc k))))))))) = omega arith in
    rw (p, q, r, s, t, u, v, w, x, y)

pub bounds-out-k-2 : goal.bounds-out-k-2
bounds-out-k-2 c = simp length-set (omega arith)

pub bounds-out-k-3 : goal.bounds-out-k-3
bounds-out-k-3 c = simp length-set (omega arith)

pub bounds-out-k-4 : goal.bounds-out-k-4
bounds-out-k-4 c = simp length-set (omega arith)

pub bounds-out-k-5 : goal.bounds-out-k-5
bounds-out-k-5 c = simp length-set (omega arith)

pub bounds-out-k-6 : goal.bounds-out-k-6
bounds-out-k-6 c = simp length-set (omega arith)

pub bounds-out-k-7 : goal.bounds-out-k-7
bounds-out-k-7 c = simp length-set (omega arith)

pub bounds-out-k-8 : goal.bounds-out-k-8
bounds-out-k-8 c = simp length-set (omega arith)

pub bounds-out-k-9 : goal.bounds-out-k-9
bounds-out-k-9 c = simp length-set (omega arith)

pub bounds-out-k-10 : goal.bounds-out-k-10
bounds-out-k-10 c = simp length-set (omega arith)

pub bounds-out-k-11 : goal.bounds-out-k-11
bounds-out-k-11 c = simp length-set (omega arith)

pub shape_of-out : goal.shape_of-out
shape_of-out c = simp length-set
