-- The header's offsets as words of the image.
use Prim.Native.Nat.{ℕ}
use mathlib.Core.Path.{◌≡◌, refl}
use mathlib.Core.List.{List}
use lib.ListN.{drop}
use Rattle.model.specs.Bytes.{le}
use Rattle.model.specs.Image.{header_word, node_count, data_offset, tree_of}

module _ (b : List ℕ) where
  pub node-count-at : node_count b ≡ le 4 (drop 8 b)
  unfolding node_count header_word
  node-count-at = refl

  pub data_offset-at : data_offset b ≡ le 4 (drop 24 b)
  unfolding data_offset header_word
  data_offset-at = refl

  pub area_at_lem : (tree_of b).area_at ≡ data_offset b
  unfolding tree_of
  area_at_lem = refl
