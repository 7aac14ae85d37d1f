-- Numbers with their zones: keys of two zones are apart.
use Rattle.std.proofs.Common.{◌≡◌, ℕ, ◌<◌, ◌&&◌, eqb, leb, arith, eq-eqb, eqb-true, le-leb, leb-true}
use Rattle.model.proofs.Logic.{and_first, and_second, and_both}
use Rattle.ranges.specs.Tables.{key}
use Rattle.ranges.proofs.Cases.{both}

-- a to b of zone z meet c to d of zone y; with c and d one number, a to b hold it
pub key_meets : (z y a b c d : ℕ) → b < 4294967296 → d < 4294967296
    → (leb (key z a) (key y d) && leb (key y c) (key z b)) ≡ (eqb z y && (leb a d && leb c b))
unfolding key
key_meets z y a b c d hb hd =
    both _ _ (λ e.
    let l = leb-true (key z a) (key y d) (and_first _ (leb (key y c) (key z b)) e) in
    let h = leb-true (key y c) (key z b) (and_second (leb (key z a) (key y d)) _ e) in
    and_both _ _ (eq-eqb z y (omega arith)) (and_both _ _ (le-leb a d (omega arith)) (le-leb c b (omega arith))))
    (λ e.
    let q = eqb-true z y (and_first _ (leb a d && leb c b) e) in
    let f = and_second (eqb z y) _ e in
    let l = leb-true a d (and_first _ (leb c b) f) in
    let h = leb-true c b (and_second (leb a d) _ f) in
    and_both _ _ (le-leb (key z a) (key y d) (omega arith)) (le-leb (key y c) (key z b) (omega arith)))
