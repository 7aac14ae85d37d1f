-- Each arm has its key's role.
use mathlib.Core.Path.{refl}
use Rattle.index.specs.Keys.{key_roles}
use Rattle.index.proofs.keys.key_role.Goals as goal

pub returns-in-LibraryVersion : goal.returns-in-LibraryVersion
unfolding key_roles
returns-in-LibraryVersion c = rw c.in-LibraryVersion.is refl

pub returns-in-ZoneType : goal.returns-in-ZoneType
unfolding key_roles
returns-in-ZoneType c = rw c.in-ZoneType.is refl

pub returns-in-Rind : goal.returns-in-Rind
unfolding key_roles
returns-in-Rind c = rw c.in-Rind.is refl

pub returns-in-GridLocation : goal.returns-in-GridLocation
unfolding key_roles
returns-in-GridLocation c = rw c.in-GridLocation.is refl

pub returns-in-ElementRange : goal.returns-in-ElementRange
unfolding key_roles
returns-in-ElementRange c = rw c.in-ElementRange.is refl

pub returns-in-ElementConnectivity : goal.returns-in-ElementConnectivity
unfolding key_roles
returns-in-ElementConnectivity c = rw c.in-ElementConnectivity.is refl

pub returns-in-ElementStartOffset : goal.returns-in-ElementStartOffset
unfolding key_roles
returns-in-ElementStartOffset c = rw c.in-ElementStartOffset.is refl

pub returns-in-PointRange : goal.returns-in-PointRange
unfolding key_roles
returns-in-PointRange c = rw c.in-PointRange.is refl

pub returns-in-PointList : goal.returns-in-PointList
unfolding key_roles
returns-in-PointList c = rw c.in-PointList.is refl

pub returns-in-ParentElements : goal.returns-in-ParentElements
unfolding key_roles
returns-in-ParentElements c = rw c.in-ParentElements.is refl
