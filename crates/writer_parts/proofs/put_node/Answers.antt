-- The record, the words and the data at their places, which have room since the node passed.
use native.Mathlib.Omega.{arith}
use mathlib.Core.Path.{ap, ◌∙◌}
use lib.ListN.{length}
use Rattle.writer_model.specs.Writer.{words_place, bytes_place}
use Rattle.writer_model.proofs.RoomKept.{has_parts, below, long, record_end, words-end, bytes-end}
use Rattle.writer_parts.proofs.PartLaws.{padded-short, type-two, node_put}
use Rattle.writer_parts.proofs.put_node.Goals as goal

pub padded-name_field-requires : goal.padded-name_field-requires
padded-name_field-requires c = padded-short _ (has_parts _ _ _ c.requires).name-size

pub padded-label_field-requires : goal.padded-label_field-requires
padded-label_field-requires c = padded-short _ (has_parts _ _ _ c.requires).label-size

pub put_record-requires : goal.put_record-requires
put_record-requires c =
    let h = c.requires in
    let p = has_parts _ _ _ h in (
      (ap length c.padded-name_field.ensures ∙ p.name-size, (ap length c.padded-label_field.ensures ∙ p.label-size, type-two _ p.type-size)),
      omega (arith, long _ _ _ h, record_end _ _ _ h),
    )

pub put_words-requires : goal.put_words-requires
unfolding words_place
put_words-requires c =
    let h = c.requires in
    omega (arith, below _ _ _ h, long _ _ _ h, words-end _ _ _ h, c.put_record.auto.room)

pub put_bytes-requires : goal.put_bytes-requires
unfolding bytes_place
put_bytes-requires c =
    let h = c.requires in
    omega (arith, below _ _ _ h, long _ _ _ h, bytes-end _ _ _ h, c.put_words.auto.out, c.put_record.auto.room)

pub returns : goal.returns
unfolding words_place bytes_place
returns c =
    let h = c.requires in
    node_put _ _ _ _ _ _ _ _ c.padded-name_field.ensures c.padded-label_field.ensures (has_parts _ _ _ h).type-size c.put_record.ensures
    c.put_words.ensures c.put_bytes.ensures
