-- The lowest bytes of x take the place of those from `at` on.
use Prim.Native.Nat.{◌/◌, ◌^◌}
use mathlib.Core.Path.{◌≡◌, ap, ◌∙◌}
use native.Mathlib.Omega.{arith}
use lib.ListN.{take}
use Rattle.std.specs.Int.{bytes_low_first}
use Rattle.model.specs.Bytes.{le_bytes}
use Rattle.model.proofs.LittleEndian.{length-le_bytes}
use Rattle.words.proofs.Writes.{put_mid_over_at, take-bytes_low_first}
use Rattle.words.proofs.put_word.Goals as goal

pub returns : goal.returns
returns c =
    let w = c.args.width in
    let x = c.args.x in
    let bytes : c.to_le_bytes.result ≡ bytes_low_first 0 8 x = c.to_le_bytes.ensures in
    let same : x / 256 ^ 0 ≡ x = omega arith in
    put_mid_over_at _ _ _ _ _
    (c.copy_from_slice.ensures.after ∙ ap (take w) bytes ∙ take-bytes_low_first w 0 8 x (omega arith) ∙ ap (le_bytes w) same)
    (rw length-le_bytes (omega arith))
