-- The roles of the model as numbers, and those of code as an enum.
use Rattle.std.specs.Prelude.{ℕ, Option, Some, None}
use Rattle.model.specs.Containment.{LibraryVersion, Base, Zone, ZoneType, GridCoordinates, FlowSolution, Elements, IndexRange, Rind, GridLocation, DataArray, Descriptor, UserDefinedData, IndexArray, Root}
use Rattle.labels.specs.declared.roles.Role.{Role}
use Rattle.labels.specs.declared.roles.Role.TheVariants as a

-- the model's number of a role
abbrev pub role_number : Role → ℕ
role_number a.LibraryVersion = LibraryVersion
role_number a.Base = Base
role_number a.Zone = Zone
role_number a.ZoneType = ZoneType
role_number a.GridCoordinates = GridCoordinates
role_number a.FlowSolution = FlowSolution
role_number a.Elements = Elements
role_number a.IndexRange = IndexRange
role_number a.Rind = Rind
role_number a.GridLocation = GridLocation
role_number a.DataArray = DataArray
role_number a.Descriptor = Descriptor
role_number a.UserDefinedData = UserDefinedData
role_number a.IndexArray = IndexArray
role_number a.Root = Root

-- 0 where there is none: another label, or a node that is not validated
abbrev pub kind_number : Option Role → ℕ
kind_number None = 0
kind_number (Some r) = role_number r
