-- The type of a zone: its ZoneType's shape and one comparison tell it.
use Prim.Native.Nat.{ℕ}
use mathlib.Core.Path.{◌≡◌, refl, sym, ◌∙◌}
use mathlib.Core.Bool.{Bool, true, false, ◌&&◌}
use mathlib.Core.List.{List}
use native.Mathlib.Omega.{arith}
use Rattle.model.specs.Bytes.{text}
use Rattle.model.specs.Image.{Tree, tree_of, node_count}
use Rattle.model.specs.Containment.{ZoneType, child, or_missing}
use Rattle.model.specs.Values.{reads, zone_type_shape, zone_type_value, zone_type_of, structured, unstructured}
use Rattle.model.proofs.Logic.{untrue, or_left, or_right}
use Rattle.types.specs.Given.{zone_type_reads}
use Rattle.types.proofs.Missing.{reads_past}

-- the test f of a child that conforms where its shape s and its value w do: w holds where f does, and f of nothing does not
pub picked : (f : ℕ → Bool) (t : Tree) (j : ℕ) (s w : Bool) → f t.count ≡ false → (f j ≡ true → w ≡ true) → (s && f j) ≡ f (or_missing t (s && w) j)
unfolding or_missing
picked f t j false w e h = sym e
picked f t j true true e h = refl
picked f t j true false e h = by_test (f j) refl ∙ sym e
  where
    by_test : (c : Bool) → f j ≡ c → c ≡ false
    by_test true q = untrue (h q)
    by_test false q = refl

module _ (b : List ℕ) (z : ℕ) where
  j : ℕ
  j = child (tree_of b) z ZoneType (text "ZoneType")

  by_text : (s : List ℕ) → reads (tree_of b) (node_count b) s ≡ false → (reads (tree_of b) j s ≡ true → zone_type_value (tree_of b) j ≡ true)
      → zone_type_reads (tree_of b) z s ≡ reads (tree_of b) (zone_type_of (tree_of b) z) s
  unfolding zone_type_of tree_of j
  by_text s e h = picked (λ (i : ℕ). reads (tree_of b) i s) (tree_of b) j (zone_type_shape (tree_of b) j) (zone_type_value (tree_of b) j) e h

  pub is-structured : zone_type_reads (tree_of b) z (text "Structured") ≡ structured (tree_of b) z
  unfolding structured zone_type_value text
  is-structured = by_text (text "Structured") (reads_past b (node_count b) (omega arith) (text "Structured")) (λ e. or_left _ _ e)

  pub is-unstructured : zone_type_reads (tree_of b) z (text "Unstructured") ≡ unstructured (tree_of b) z
  unfolding unstructured zone_type_value text
  is-unstructured =
      by_text (text "Unstructured") (reads_past b (node_count b) (omega arith) (text "Unstructured"))
      (λ e. or_right (reads (tree_of b) j (text "Structured")) _ e)
