-- Rules 40 and 46 at a zone.
use Prim.Native.Nat.{ℕ, ◌≤◌, ◌<◌}
use mathlib.Core.Path.{◌≡◌, sym, ap}
use mathlib.Core.Bool.{true, false}
use mathlib.Core.List.{List}
use lib.ListN.{length}
use borrow.Author.Tests.{lt-leb, le-leb}
use Rattle.model.specs.declared.Rejection.{Rejection}
use Rattle.model.specs.Rules.{rejection, rejected, Check, passed, check, ◌then◌, ◌gives◌}
use Rattle.model.specs.Image.{Tree, tree_of}
use Rattle.model.specs.Containment.{is_zone}
use Rattle.model.specs.Validation.{image_check}
use Rattle.model.specs.Sections.{section_nodes, sections_check, sections_answer}
use Rattle.model.proofs.Passed.{then-on, then-off}
use Rattle.sections.specs.Due.{zone_check}

module _ (t : Tree) (z room : ℕ) where
  pub no_zone : is_zone t z ≡ false → zone_check t z room ≡ rejected (rejection 40 0)
  unfolding zone_check check
  no_zone e = rw e

  pub no_room : is_zone t z ≡ true → room < length (section_nodes t z) → zone_check t z room ≡ rejected (rejection 46 0)
  unfolding zone_check check
  no_room e h = rw (e, lt-leb (length (section_nodes t z)) room h)

  pub room_enough : is_zone t z ≡ true → length (section_nodes t z) ≤ room → zone_check t z room ≡ passed
  unfolding zone_check check
  room_enough e h = rw (e, le-leb (length (section_nodes t z)) room h)

-- validation's rejection, or rules 40 and 46
module _ (b : List ℕ) (z room : ℕ) where
  pub image-off : {r : Rejection} → image_check b ≡ rejected r → rejected r ≡ sections_answer b z room
  unfolding sections_answer sections_check ◌gives◌
  image-off e = sym (then-off _ (then-off _ e))

  pub image-on : image_check b ≡ passed → (zone_check (tree_of b) z room gives length (section_nodes (tree_of b) z)) ≡ sections_answer b z room
  unfolding sections_answer sections_check zone_check
  image-on e = ap (λ (c : Check). c gives length (section_nodes (tree_of b) z)) (sym (then-on _ e))
