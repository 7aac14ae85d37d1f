-- What a walk over a zone's sections has before it, and what the functions here are given.
use Rattle.std.specs.Prelude.{ℕ, ◌+◌, ◌-◌, ◌<◌, ◌≡◌, true, List, length}
use Rattle.model.specs.Lists.{list_from}
use Rattle.model.specs.Image.{Tree, tree_of, node_count}
use Rattle.model.specs.Containment.{Elements, validated_as, section_of}
use Rattle.model.specs.Given.{Accepted}
use Rattle.index.specs.Index.{Index}

-- the zone's sections after node i, in node order
unfoldable pub sections_after : Tree → ℕ → ℕ → List ℕ
sections_after t z i = list_from (section_of t z) (t.count - (i + 1)) (i + 1)

-- a validated section s of an accepted image
pub record AcceptedSection (b : List ℕ) (s : ℕ) : Type 0 where
  pub accepted : Accepted b
  pub inside : s < node_count b
  pub is-section : validated_as (tree_of b) Elements s ≡ true

-- the image is accepted, has this index, and the zone has sections after node i
pub record Onward (b index : List ℕ) (z i : ℕ) : Type 0 where
  pub indexed : Index b index
  pub accepted : Accepted b
  pub inside : i < node_count b
  pub some : 0 < length (sections_after (tree_of b) z i)
