-- The bit of a sign in a face's byte, and the bytes after a use.
use Rattle.std.specs.Prelude.{ℕ, ◌+◌, Bool, cond, List, get_or, set}

abbrev pub sign_of : Bool → ℕ
sign_of reversed = cond reversed 2 1

-- a use of the face at place p, where the bit of its sign was free or not
abbrev pub after_use : Bool → ℕ → ℕ → List ℕ → List ℕ
after_use free sign p bytes = cond free (set bytes p (get_or bytes p 0 + sign)) bytes
