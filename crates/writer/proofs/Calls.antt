-- A call by its check: a refusal and the room as it was, or the value and the room as written. The check of an addition in groups.
use Prim.Native.Nat.{ℕ, ◌≤◌}
use mathlib.Core.Path.{◌≡◌, refl, ap, ◌∙◌}
use mathlib.Core.List.{List, [], ◌∷◌, ◌++◌}
use native.Mathlib.Omega.{arith}
use lib.ListN.{length}
use lib.Dec.{leb, ltb}
use borrow.Author.Tests.{leb-true, ltb-true}
use Rattle.model.specs.declared.Rejection.{Rejection}
use Rattle.model.specs.Rules.{◌unless◌, rejected, answer, Check, passed, check, ◌then◌, ◌gives◌, leaves}
use Rattle.model.specs.Image.{record_at}
use Rattle.model.proofs.Passed.{check_pass}
use Rattle.model.proofs.Staging.{check-append}
use Rattle.table.specs.Groups.{text_rules, type_rules}
use Rattle.writer_model.specs.declared.Writer.{Writer}
use Rattle.writer_model.specs.Writer.{Addition, room_for, needed_room, tree_with, addition_rules, add_check}
use Rattle.writer_rules.specs.Groups.{line_rules, sizes_after}

module _ {A : Type 0} (v : A) (room new : List ℕ) where
  pub refused : {c : Check} {r : Rejection} → c ≡ rejected r → (rejected r ≡ (c gives v)) × (room ≡ leaves c room new)
  unfolding ◌gives◌ ◌then◌ leaves
  refused e = rw e (refl, refl)

  pub done : {c : Check} → c ≡ passed → (answer v ≡ (c gives v)) × (new ≡ leaves c room new)
  unfolding ◌gives◌ ◌then◌ leaves
  done e = rw e (refl, refl)

-- before the node is looked at
abbrev pub turn : Writer → ℕ → Check
turn s room = check 0 (46 unless leb (needed_room s) room ∷ 50 unless ltb s.node s.nodes ∷ [])

pub turn_room : (s : Writer) (room : ℕ) → turn s room ≡ passed → record_at s.node ≤ room
unfolding needed_room room_for
turn_room s room e =
    let h = check_pass 0 _ e in
    omega (arith, leb-true (needed_room s) room h.0, ltb-true s.node s.nodes h.1.0)

-- its rules, group by group
abbrev pub rules_of : Writer → Addition → List ℕ → Check
rules_of s a room =
    let t = tree_with s a room in
    let i = s.node in
    check i (line_rules t i) then check i (text_rules t i) then check i (type_rules t i) then check i (sizes_after t s.word s.byte i)

module _ (s : Writer) (a : Addition) (room : List ℕ) where
  pub addition_groups : add_check s a room ≡ (turn s (length room) then rules_of s a room)
  unfolding add_check addition_rules
  addition_groups =
      let t = tree_with s a room in
      let i = s.node in
      let sizes = sizes_after t s.word s.byte i in
      ap (λ (c : Check). turn s (length room) then c)
      (check-append i (line_rules t i) (text_rules t i ++ type_rules t i ++ sizes) ∙ ap (λ (c : Check). check i (line_rules t i) then c)
      (check-append i (text_rules t i) (type_rules t i ++ sizes) ∙ ap (λ (c : Check). check i (text_rules t i) then c) (check-append i (type_rules t i) sizes)))
