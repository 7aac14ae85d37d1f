-- Texts of 32 bytes in a table, byte by byte.
use Rattle.std.specs.Prelude.{ℕ, Bool, cond, not, ◌&&◌, List, eqb, leb, take, drop}
use Rattle.model.specs.Lists.{among}
use Rattle.model.specs.Records.{printable}

-- the text that starts at a byte offset
abbrev pub text_at : List ℕ → ℕ → List ℕ
text_at b at = take 32 (drop at b)

-- a byte of a text: 32 to 126, and not the one that is barred
abbrev pub text_byte : ℕ → ℕ → Bool
text_byte barred x = leb 32 x && leb x 126 && not (eqb barred x)

-- 0 where it is one, 1 where it is not
abbrev pub bad_byte : ℕ → ℕ → ℕ
bad_byte barred x = cond (text_byte barred x) 0 1

-- all bytes of a text
abbrev pub text_bytes : ℕ → List ℕ → Bool
text_bytes barred s = printable s && not (among barred s)
