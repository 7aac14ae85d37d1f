-- Validation has come to section s, and rules 20 to 26 hold there: what rules 27 to 38 may rely on.
use Prim.Native.Nat.{ℕ, zero, suc, ◌<◌}
use mathlib.Core.Path.{◌≡◌, refl, sym, subst, ◌∙◌}
use mathlib.Core.Bool.{true, false, not, ◌&&◌}
use mathlib.Core.List.{List, [], ◌∷◌}
use native.Mathlib.Omega.{arith}
use borrow.Author.Tests.{not-true}
use Rattle.model.specs.Lists.{row, among}
use Rattle.model.specs.Rules.{check, passed}
use Rattle.model.specs.Image.{Tree, tree_of, node_count, parent, dimensions, I4, I8}
use Rattle.model.specs.Given.{Sound, NodesTo}
use Rattle.model.specs.Records.{record_rules, data_size_lawful, product}
use Rattle.model.specs.Containment.{role, validated, found, Zone, Elements}
use Rattle.model.specs.Values.{typed, shaped, index_dimension, type_lawful, complete, range_of, connectivity_of, sids_rules}
use Rattle.model.proofs.Logic.{untrue, and_first, and_second}
use Rattle.model.proofs.Passed.{claim, check_pass}
use Rattle.model.proofs.Accepted.{record_rule}
use Rattle.model.proofs.Parents.{parent-lower, lawful_at}
use Rattle.model.proofs.Sections.{not_root}
use Rattle.index.proofs.Marking.{kind-role}
use Rattle.sids.proofs.Context.{section-held}
use Rattle.types.specs.Given.{HasNumber}
use Rattle.types.proofs.StoredNumbers.{whole_wide, whole_four, shaped-is, has_by}
use Rattle.types.proofs.Roles.{based-has}
use Rattle.section_data.specs.Given.{SectionContext}
use Rattle.section_data.proofs.Stored.{type-section, stores_pair, range_ready, connectivity-stores, offsets-stores}

-- the root is no section
no_root : (t : Tree) (s : ℕ) → role t s ≡ Elements → s ≡ 0 → ⊥
no_root t s e = not_root t s Elements e refl

module _ (t : Tree) (s : ℕ) (e : role t s ≡ Elements) where
  pub complete-is : complete t s ≡ (found t (range_of t s) && found t (connectivity_of t s))
  unfolding complete row
  complete-is = rw e

type-zone : (t : Tree) (z : ℕ) → role t z ≡ Zone → type_lawful t z ≡ (typed t z (I4 ∷ I8 ∷ []) && shaped t z (index_dimension t z ∷ 3 ∷ []))
unfolding type_lawful row
type-zone t z e = rw e

-- a dimension is not 0
some_size : (x : ℕ) → among 0 (x ∷ 3 ∷ []) ≡ false → 0 < product (x ∷ 3 ∷ [])
unfolding among product
some_size zero e = untrue (sym e)
some_size (suc x) e = omega arith

zone-has : (b : List ℕ) → Sound b → (z : ℕ) → z < node_count b → role (tree_of b) z ≡ Zone → type_lawful (tree_of b) z ≡ true → HasNumber b z 0
unfolding record_rules data_size_lawful
zone-has b s z h r e =
    let t = tree_of b in
    let q = sym (type-zone t z r) ∙ e in
    let d = shaped-is t z (index_dimension t z ∷ 3 ∷ []) (and_second (typed t z (I4 ∷ I8 ∷ [])) _ q) in
    let n = not-true _ (and_first (not (among 0 (dimensions t z))) _ (record_rule b s.table 16 z h)) in
    has_by b s z h (whole_wide t z (and_first (typed t z (I4 ∷ I8 ∷ [])) _ q)) (index_dimension t z ∷ 3 ∷ []) d 0
    (some_size (index_dimension t z) (subst (λ (l : List ℕ). among 0 l ≡ false) d n))

pub section_ready : {b : List ℕ} {s : ℕ} → NodesTo b s → validated (tree_of b) s ≡ true → role (tree_of b) s ≡ Elements
    → check s (sids_rules (tree_of b) s) ≡ passed → SectionContext b s
unfolding sids_rules
section_ready {b} {s} g v e c =
    let t = tree_of b in
    let held = check_pass s (sids_rules t s) c in
    let full = sym (complete-is t s e) ∙ claim 23 (sids_rules t s) held in
    let own = sym (type-section t s e) ∙ claim 24 (sids_rules t s) held in
    let u = (section-held b s g v held.0 e).zone in
    record {
      inside = g.inside;
      elements = e;
      kind-is = kind-role t s v e;
      own = stores_pair g.sound s g.inside (whole_four t s (and_first (typed t s (I4 ∷ [])) _ own)) (and_second (typed t s (I4 ∷ [])) _ own);
      below = parent-lower t s (lawful_at b g.sound s g.inside) (no_root t s e);
      zone = zone-has b g.sound (parent t s) u.based.inside u.zone u.type;
      base = based-has b g.sound (parent t s) u.based;
      ranged = range_ready g.sound s e (and_first (found t (range_of t s)) _ full);
      connectivity = connectivity-stores g.sound s e (and_second (found t (range_of t s)) _ full);
      offsets = λ h. offsets-stores g.sound s e h;
    }
