-- A slot of this kind is for this child.
use Rattle.model.specs.Lists.{row}
use Rattle.model.specs.Bytes.{text}
use Rattle.labels.specs.Padded.{known_names}
use Rattle.index.specs.Keys.{key_roles, slot_keys, key_at, key_role, key_name}
use Rattle.index.proofs.Marking.{slot_for}
use Rattle.index.proofs.tables.point_list.Goals as goal

pub returns : goal.returns
unfolding key_role key_name key_at key_roles known_names slot_keys row text
returns c = slot_for _ _ _ _ c.look_up.ensures c.requires.p_value
