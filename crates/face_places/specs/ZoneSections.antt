-- A section of an accepted image, as the functions here are given it.
use Rattle.std.specs.Prelude.{ℕ, ◌≤◌, ◌<◌, ◌≡◌, true, List}
use Rattle.model.specs.Image.{tree_of, node_count, parent}
use Rattle.model.specs.Given.{Accepted}
use Rattle.model.specs.Containment.{section_of}
use Rattle.model.specs.Elements.{NFACE, element_type_of, first_element, last_element}
use Rattle.index.specs.Index.{Index}
use Rattle.face_places.specs.declared.zone_sections.Span.{Span}

-- node s of an accepted image is a section
pub record Section (b index : List ℕ) (s : ℕ) : Type 0 where
  pub accepted : Accepted b
  pub indexed : Index b index
  pub inside : s < node_count b
  pub is-section : section_of (tree_of b) (parent (tree_of b) s) s ≡ true

-- it has cells: it is of type 23
pub record Cells (b index : List ℕ) (s : ℕ) : Type 0 where
  pub section : Section b index s
  pub cells : element_type_of (tree_of b) s ≡ NFACE

-- its first and last element
pub record Spans (b : List ℕ) (s : ℕ) (r : Span) : Type 0 where
  pub is-first : r.first ≡ first_element (tree_of b) s
  pub is_last : r.last ≡ last_element (tree_of b) s
  pub one : 1 ≤ r.first
  pub up : r.first ≤ r.last
  pub most : r.last ≤ 2147483647
