-- All corners of an element at once: each number is what the corner reader answers at that corner.
use Prim.Native.Nat.{ℕ, ◌+◌, ◌-◌, ◌≤◌}
use mathlib.Core.Path.{◌≡◌, refl, sym, ap, ◌∙◌}
use mathlib.Core.Bool.{true}
use mathlib.Core.List.{List}
use native.Mathlib.Omega.{arith}
use lib.ListN.{length, get_or, drop}
use lib.IntN.{ℤ, pos}
use borrow.Author.Tests.{le-leb}
use Rattle.model.specs.declared.Rejection.{Rejection}
use Rattle.model.specs.declared.Section.{Section}
use Rattle.model.specs.Rules.{rejected, answer, Check, passed, check, ◌then◌, ◌gives◌, leaves}
use Rattle.model.specs.Corner.{in_entry, entry_size, readable, is_corner, corner_check, corner_number, corner_answer}
use Rattle.model.specs.ReadList.{values_from}
use Rattle.model.specs.ElementCorners.{element_corners_check, element_corners_answer, element_corners_memory}
use Rattle.model.proofs.Passed.{refused, check_pass, gives-check, gives-value}
use Rattle.model.proofs.Overlays.{over-rest}
use Rattle.model.proofs.Written.{values_length, values_in_front}

-- where the check passes the element is in the range and can be read
can_read : (b : List ℕ) (e : Section) (element room : ℕ) → element_corners_check b e element room ≡ passed
    → (in_entry e element ≡ true) × (readable b e (element - e.first) ≡ true)
unfolding element_corners_check
can_read b e element room q = let h = check_pass 0 _ q in (h.0, h.1.0)

-- where the call answers, the c-th number in front is what the corner reader answers at corner c
pub by_corner-reads : (b : List ℕ) (e : Section) (element : ℕ) (out : List ℤ) (n c : ℕ) → element_corners_answer b e element (length out) ≡ answer n → 1 ≤ c
    → c ≤ n
    → corner_answer b e element c ≡ answer (get_or (element_corners_memory b e element out) (c - 1) (pos 0))
unfolding element_corners_answer element_corners_memory corner_answer corner_check check is_corner leaves ◌gives◌ ◌then◌
by_corner-reads b e element out n c q l h =
    let k = element - e.first in
    let yes = gives-check (element_corners_check b e element (length out)) (entry_size b e k) q in
    let size = gives-value (element_corners_check b e element (length out)) (entry_size b e k) q in
    let r = can_read b e element (length out) yes in
    let p : 1 + (c - 1) ≡ c = omega arith in
    let m : c ≤ entry_size b e k = omega arith in
    rw (yes, r.0, r.1, le-leb _ _ l, le-leb _ _ m)
    (sym (ap answer (values_in_front (corner_number b e k) out (pos 0) (entry_size b e k) 1 (c - 1) (omega arith) ∙ ap (corner_number b e k) p)))

-- and what lies behind them stays
pub behind_kept : (b : List ℕ) (e : Section) (element : ℕ) (out : List ℤ) (n : ℕ) → element_corners_answer b e element (length out) ≡ answer n
    → drop n (element_corners_memory b e element out) ≡ drop n out
unfolding element_corners_answer element_corners_memory leaves
behind_kept b e element out n q =
    let k = element - e.first in
    let yes = gives-check (element_corners_check b e element (length out)) (entry_size b e k) q in
    let size = gives-value (element_corners_check b e element (length out)) (entry_size b e k) q in
    let v = values_from (corner_number b e k) (entry_size b e k) 1 in
    let w : length v ≡ n = values_length (corner_number b e k) (entry_size b e k) 1 ∙ size in
    rw yes (rw w at (over-rest out v))

-- a refusal leaves everything
pub refused_kept : (b : List ℕ) (e : Section) (element : ℕ) (out : List ℤ) (why : Rejection) → element_corners_answer b e element (length out) ≡ rejected why
    → element_corners_memory b e element out ≡ out
unfolding element_corners_answer element_corners_memory leaves ◌gives◌ ◌then◌
refused_kept b e element out why q = by_check _ _ (element_corners_check b e element (length out)) q
  where
    by_check : (new : List ℤ) (n : ℕ) (c : Check) → (c gives n) ≡ rejected why → leaves c out new ≡ out
    by_check new n (rejected r) p = refl
    by_check new n (answer x) p = refused (sym p)
