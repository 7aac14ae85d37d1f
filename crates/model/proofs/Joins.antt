-- Two tests joined, as code makes them: the second only where the first leaves it open.
use mathlib.Core.Path.{◌≡◌, sym, ◌∙◌}
use mathlib.Core.Bool.{Bool, true, false, ◌&&◌, ◌||◌}

-- r answers a, s answers b
module _ {r s a b : Bool} (e : r ≡ a) where
  pub or_on : r ≡ false → s ≡ b → s ≡ (a || b)
  or_on h f = rw (sym e ∙ h) f

  pub and_on : r ≡ true → s ≡ b → s ≡ (a && b)
  and_on h f = rw (sym e ∙ h) f

module _ {r a : Bool} (b : Bool) (e : r ≡ a) where
  pub or_done : r ≡ true → true ≡ (a || b)
  or_done h = rw (sym e ∙ h)

  pub and_done : r ≡ false → false ≡ (a && b)
  and_done h = rw (sym e ∙ h)
