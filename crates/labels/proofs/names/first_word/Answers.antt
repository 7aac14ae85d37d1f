-- Each arm has its name's word.
use mathlib.Core.Path.{refl}
use Rattle.model.specs.Bytes.{le, text}
use Rattle.labels.specs.Padded.{field_word, known_names}
use Rattle.labels.proofs.names.first_word.Goals as goal

pub returns-in-LibraryVersion : goal.returns-in-LibraryVersion
unfolding field_word le known_names text
returns-in-LibraryVersion c = rw c.in-LibraryVersion.is refl

pub returns-in-ZoneType : goal.returns-in-ZoneType
unfolding field_word le known_names text
returns-in-ZoneType c = rw c.in-ZoneType.is refl

pub returns-in-Rind : goal.returns-in-Rind
unfolding field_word le known_names text
returns-in-Rind c = rw c.in-Rind.is refl

pub returns-in-GridLocation : goal.returns-in-GridLocation
unfolding field_word le known_names text
returns-in-GridLocation c = rw c.in-GridLocation.is refl

pub returns-in-ElementRange : goal.returns-in-ElementRange
unfolding field_word le known_names text
returns-in-ElementRange c = rw c.in-ElementRange.is refl

pub returns-in-ElementConnectivity : goal.returns-in-ElementConnectivity
unfolding field_word le known_names text
returns-in-ElementConnectivity c = rw c.in-ElementConnectivity.is refl

pub returns-in-ElementStartOffset : goal.returns-in-ElementStartOffset
unfolding field_word le known_names text
returns-in-ElementStartOffset c = rw c.in-ElementStartOffset.is refl

pub returns-in-PointRange : goal.returns-in-PointRange
unfolding field_word le known_names text
returns-in-PointRange c = rw c.in-PointRange.is refl

pub returns-in-PointList : goal.returns-in-PointList
unfolding field_word le known_names text
returns-in-PointList c = rw c.in-PointList.is refl

pub returns-in-ParentElements : goal.returns-in-ParentElements
unfolding field_word le known_names text
returns-in-ParentElements c = rw c.in-ParentElements.is refl
