-- The known names of code by their place.
use Rattle.std.specs.Prelude.{ℕ}
use Rattle.labels.specs.declared.names.Name.{Name}
use Rattle.labels.specs.declared.names.Name.TheVariants as known

-- the place of a name in `known_names`
abbrev pub name_number : Name → ℕ
name_number known.LibraryVersion = 0
name_number known.ZoneType = 1
name_number known.Rind = 2
name_number known.GridLocation = 3
name_number known.ElementRange = 4
name_number known.ElementConnectivity = 5
name_number known.ElementStartOffset = 6
name_number known.PointRange = 7
name_number known.PointList = 8
name_number known.ParentElements = 9
