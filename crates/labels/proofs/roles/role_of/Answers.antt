-- No label but the one that begins with the field's first word can be the field's.
use Prim.Native.Nat.{ℕ, ◌+◌, ◌-◌, ◌≤◌}
use mathlib.Core.Path.{◌≡◌, sym, ◌∙◌}
use mathlib.Core.List.{List, []}
use lib.ListN.{length, get_or, take, drop}
use Rattle.model.specs.Bytes.{le, spells, place_from}
use Rattle.model.specs.Image.{tree_of}
use Rattle.model.specs.Containment.{role, known_labels}
use Rattle.words.proofs.Same.{Bytes}
use Rattle.labels.specs.Padded.{known_texts, Begins}
use Rattle.labels.specs.Roles.{role_number}
use denote.Enum.Declared.{tag_of}
use Rattle.labels.specs.contracts.roles.Role.{the_type}
use Rattle.labels.proofs.Numbers.{number_tag, role_few}
use Rattle.labels.proofs.KnownTexts.{role_root, role_by_label, rest-spells, is_candidate, no_candidate}
use native.Mathlib.Omega.{arith}
use Rattle.labels.proofs.roles.role_of.Goals as goal
use Rattle.labels.proofs.roles.role_of.Goals.{After-rest_is}

pub returns-then-i-eq0 : goal.returns-then-i-eq0
returns-then-i-eq0 c = role_root _ _ c.if-i-eq0.true

pub returns-in_err-label : goal.returns-in_err-label
returns-in_err-label c =
    let begins = rw c.u64_at.ensures at c.in_err-label.ensures in
    rw c.from_residual.ensures
    (no_candidate c.args.image.now (c.at-at.result + 32) 0 (omega arith) (λ i. omega (arith, c.type_inv.image i)) begins (λ h. absurd (omega arith))
    ∙ role_by_label _ _ c.at-at.ensures (omega arith) c.if-i-eq0.false)

-- a label begins with the field's first word, and its other words are known
module _ (c : After-rest_is) where
  abbrev b : List ℕ
  b = c.args.image.now

  abbrev p : ℕ
  p = c.at-at.result + 32

  abbrev n : ℕ
  n = role_number c.in_ok-label.label

  inside : p + 32 ≤ length b
  inside = omega arith

  bytes : Bytes b
  bytes = λ i. omega (arith, c.type_inv.image i)

  begins : Begins (le 8 (drop p b)) n
  begins = rw c.u64_at.ensures at c.in_ok-label.ensures

  by_label : place_from 1 (take 32 (drop p b)) known_labels ≡ role (tree_of b) c.args.i
  by_label = role_by_label _ _ c.at-at.ensures (omega arith) c.if-i-eq0.false

  spelled : c.rest_is.result ≡ spells (take 32 (drop p b)) (get_or known_texts (n - 1) [])
  spelled =
      let f = role_few c.in_ok-label.label in
      let e : tag_of the_type c.in_ok-label.label + 1 - 1 ≡ n - 1 = omega (arith, number_tag c.in_ok-label.label) in
      rw (c.u64_at-second.ensures, c.u64_at-third.ensures, c.u64_at-fourth.ensures, e) at c.rest_is.ensures
      ∙ rest-spells b p (n - 1) inside bytes (omega (arith, begins.inside)) (begins.is (omega arith))

pub returns-then-rest_is : goal.returns-then-rest_is
returns-then-rest_is c =
    let d = (goal.at.returns-then-rest_is c).After-rest_is in
    is_candidate (b d) (p d) (n d) (inside d) (bytes d) (begins d) (omega (arith, role_few c.in_ok-label.label)) (sym (spelled d) ∙ c.if-rest_is.true) ∙ by_label d

pub returns-else-rest_is : goal.returns-else-rest_is
returns-else-rest_is c =
    let d = (goal.at.returns-else-rest_is c).After-rest_is in
    no_candidate (b d) (p d) (n d) (inside d) (bytes d) (begins d) (λ h. sym (spelled d) ∙ c.if-rest_is.false) ∙ by_label d
