-- 1 where the byte may not stand, as the test says.
use native.Mathlib.Omega.{arith}
use Rattle.texts.proofs.bad.Goals as goal

pub returns-then-is_text_byte : goal.returns-then-is_text_byte
returns-then-is_text_byte c = (rw (← c.is_text_byte.ensures, c.if-is_text_byte.true), omega arith)

pub returns-else-is_text_byte : goal.returns-else-is_text_byte
returns-else-is_text_byte c = (rw (← c.is_text_byte.ensures, c.if-is_text_byte.false), omega arith)
