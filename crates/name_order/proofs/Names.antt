-- The order of two siblings, by the first byte in which their names differ, read in place.
use Prim.Native.Nat.{ℕ, ◌+◌, ◌-◌, ◌*◌, ◌≤◌, ◌<◌}
use mathlib.Core.Path.{◌≡◌, sym, ◌∙◌}
use mathlib.Core.List.{List}
use native.Mathlib.Omega.{arith}
use lib.Dec.{ltb}
use lib.ListN.{length, get_or}
use borrow.Author.Tests.{lt-ltb, le-ltb}
use Rattle.model.specs.Bytes.{same}
use Rattle.model.specs.Image.{name, parent}
use Rattle.model.specs.NameBytes.{first_difference}
use Rattle.model.proofs.Logic.{same-is}
use Rattle.model.proofs.NameBytes.{first, same_place}
use Rattle.records.specs.Table.{all_records, HasRecord}
use Rattle.texts.proofs.Laws.{text_byte_lem, name_in, name-size}
use Rattle.name_order.specs.Order.{precedes}
use Rattle.name_order.proofs.Order.{lower-same, lower-rest, lower-at}

-- the name of node i lies in its record
module _ (s : List ℕ) (i : ℕ) (h : HasRecord s i) where
  name_byte : (k : ℕ) → k < 32 → get_or (name (all_records s) i) k 0 ≡ get_or s (84 * i + 0 + k) 0
  name_byte k l = rw (← name_in s i h.0) (text_byte_lem s (84 * i + 0) (omega arith) k l)

-- d is where the names of two siblings differ first
module _ (s : List ℕ) (j i : ℕ) (hj : HasRecord s j) (hi : HasRecord s i) {d : ℕ} (place : d ≡ first_difference (name (all_records s) j) (name (all_records s) i))
    (u : parent (all_records s) j ≡ parent (all_records s) i) where
  lengths : length (name (all_records s) j) ≡ length (name (all_records s) i)
  lengths = name-size s j hj ∙ sym (name-size s i hi)

  same_by : same (name (all_records s) j) (name (all_records s) i) ≡ ltb 32 d
  same_by = same_place (name (all_records s) j) (name (all_records s) i) lengths ∙ rw (name-size s j hj, ← place)

  pub same_names : 32 < d → ltb j i ≡ precedes (all_records s) j i
  unfolding precedes
  same_names l =
      let n = same-is (name (all_records s) j) (name (all_records s) i) (same_by ∙ lt-ltb 32 d l) in
      rw (u, n) (sym (lower-same (ltb j i) _))

  pub names_differ : d ≤ 32 → ltb (get_or s (84 * j + 0 + (d - 1)) 0) (get_or s (84 * i + 0 + (d - 1)) 0) ≡ precedes (all_records s) j i
  unfolding precedes
  names_differ l =
      let w = first (name (all_records s) j) (name (all_records s) i) lengths (same_by ∙ le-ltb 32 d l) in
      let q : d - 1 ≡ w.0 = omega (arith, place, w.1.place_is) in
      let k : w.0 < 32 = omega (arith, w.1.inside, name-size s j hj) in
      let a = lower-at (ltb j i) (name (all_records s) j) (name (all_records s) i) w.0 lengths w.1.inside w.1.differs w.1.before in
      rw (q, ← name_byte s j hj w.0 k, ← name_byte s i hi w.0 k) (sym (lower-rest (ltb j i) _ _ _ _ u ∙ a))
