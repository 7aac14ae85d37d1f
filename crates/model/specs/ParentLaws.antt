-- What a solver may rely on: the parents stand in the image where the section entry says, and where they agree they are the cells that use the face.
use Rattle.std.specs.Prelude.{ℕ, ◌+◌, ◌*◌, ◌≤◌, ◌<◌, ◌≡◌, ◌⊎◌, List, [], ◌∷◌, length}
use Rattle.model.specs.Rules.{answer}
use Rattle.model.specs.Image.{Tree, tree_of}
use Rattle.model.specs.Elements.{element_count, face_number, first_parent, second_parent}
use Rattle.model.specs.Sections.{entry}
use Rattle.model.specs.Corner.{number_at}
use Rattle.model.specs.FaceUsage.{element_holding, uses_in}
use Rattle.model.specs.ParentElements.{FaceParents, parents_answer, users}

-- the parents of the k-th face of section s, read in place by the last two numbers of its entry
pub record InPlace (b : List ℕ) (s : ℕ) : Type 0 where
  pub wide : ((entry (tree_of b) s).parents_width ≡ 4) ⊎ ((entry (tree_of b) s).parents_width ≡ 8)
  pub inside : (entry (tree_of b) s).parents_at + (entry (tree_of b) s).parents_width * (element_count (tree_of b) s * 2) ≤ length b
  pub first-is : (k : ℕ) → k < element_count (tree_of b) s
      → number_at b (entry (tree_of b) s).parents_at (entry (tree_of b) s).parents_width k ≡ first_parent (tree_of b) s k
  pub second_is : (k : ℕ) → k < element_count (tree_of b) s
      → number_at b (entry (tree_of b) s).parents_at (entry (tree_of b) s).parents_width (element_count (tree_of b) s + k) ≡ second_parent (tree_of b) s k

-- cell c of zone z uses face f: an entry of a type 23 section refers to it, and c holds the entry
pub record UsedBy (t : Tree) (z f c : ℕ) : Type 0 where
  pub section : ℕ
  pub place : ℕ
  pub listed : section < t.count
  pub inside : place < uses_in t z section
  pub refers : face_number t section place ≡ f
  pub held : element_holding t section place ≡ c

-- the parents that are answered for a face are exactly the cells that use it, as often as they use it; the second is 0 where there is one use
pub record Exact (b : List ℕ) (z f : ℕ) (p : FaceParents) : Type 0 where
  pub each_use : ((users (tree_of b) z f ≡ (p.first ∷ [])) × (p.second ≡ 0)) ⊎ ((users (tree_of b) z f ≡ (p.first ∷ p.second ∷ [])) ⊎ (users (tree_of b) z f ≡ (p.second ∷ p.first ∷ [])))
  pub no_other : (c : ℕ) → UsedBy (tree_of b) z f c → (c ≡ p.first) ⊎ (c ≡ p.second)
  pub first_uses : UsedBy (tree_of b) z f p.first
  pub second_uses : 0 < p.second → UsedBy (tree_of b) z f p.second

-- so it is of every face whose parents are answered
abbrev pub AllExact : List ℕ → ℕ → Type 0
AllExact b z = (f : ℕ) (p : FaceParents) → parents_answer b z f ≡ answer p → Exact b z f p
