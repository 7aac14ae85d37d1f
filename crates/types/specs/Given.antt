-- What the functions here are given, in place of tests that were made before them; a zone's type.
use Rattle.std.specs.Prelude.{ℕ, ◌+◌, ◌*◌, ◌≤◌, ◌<◌, ◌≡◌, Bool, true, false, ◌&&◌, List, T, eqb}
use Rattle.model.specs.Bytes.{text}
use Rattle.model.specs.Image.{Tree, tree_of, node_count, node, width, parent}
use Rattle.model.specs.Containment.{role, validated, child, Root, Base, Zone, ZoneType, FlowSolution, Rind}
use Rattle.model.specs.Values.{zone_type_shape, reads, type_lawful, value_lawful, zone_above}
use Rattle.words.specs.Width.{is_width}
use Rattle.index.specs.Index.{kind}

-- the zone's ZoneType has the shape of one and reads this text
abbrev pub zone_type_reads : Tree → ℕ → List ℕ → Bool
zone_type_reads t z s = let j = child t z ZoneType (text "ZoneType") in zone_type_shape t j && reads t j s

-- node i stores numbers of 4 or 8 bytes, more than k of them
pub record HasNumber (b : List ℕ) (i k : ℕ) : Type 0 where
  pub inside : i < node_count b
  pub wide : T (is_width (width (tree_of b) i))
  pub room : width (tree_of b) i * k + width (tree_of b) i ≤ (node (tree_of b) i).data_size

-- node z is a zone, and what holds it is a CGNSBase_t that meets 24 and 25
pub record ZoneInBase (b : List ℕ) (z : ℕ) : Type 0 where
  pub inside : z < node_count b
  pub zone : kind (tree_of b) z ≡ Zone
  pub above : parent (tree_of b) z < node_count b
  pub base : role (tree_of b) (parent (tree_of b) z) ≡ Base
  pub type : type_lawful (tree_of b) (parent (tree_of b) z) ≡ true
  pub value : value_lawful (tree_of b) (parent (tree_of b) z) ≡ true

-- a node under a validated one; under flow, its zone
pub record HeldContext (b : List ℕ) (i : ℕ) : Type 0 where
  pub above : parent (tree_of b) i < node_count b
  pub above-validated : validated (tree_of b) (parent (tree_of b) i) ≡ true
  pub flow : role (tree_of b) (parent (tree_of b) i) ≡ FlowSolution → ZoneInBase b (zone_above (tree_of b) i)

-- a validated node, and what its data type and values depend on: a zone's base, the zone of a Rind_t and of what stands under flow
pub record NodeContext (b : List ℕ) (i : ℕ) : Type 0 where
  pub inside : i < node_count b
  pub is-validated : validated (tree_of b) i ≡ true
  pub zone : role (tree_of b) i ≡ Zone → ZoneInBase b i
  pub rind : role (tree_of b) i ≡ Rind → ZoneInBase b (zone_above (tree_of b) i)
  pub flow : eqb (role (tree_of b) i) Root ≡ false → role (tree_of b) (parent (tree_of b) i) ≡ FlowSolution → ZoneInBase b (zone_above (tree_of b) i)
