-- Keys of names: the marks of those met so far, and the nodes linked by them.
use Rattle.std.specs.Prelude.{ℕ, ◌+◌, ◌*◌, ◌/◌, ◌%◌, ◌≤◌, ◌<◌, ◌≡◌, Bool, true, cond, ◌||◌, List, eqb, length, get_or, drop, set}
use Rattle.model.specs.Bytes.{le}
use Rattle.model.specs.Image.{Tree, parent, name}
use Rattle.texts.specs.Links.{Linked, with_link}

-- the four words of a text, each by its factor
unfoldable pub text_sum : List ℕ → ℕ
text_sum s =
    le 8 s % 4100011 * 1000003
    + le 8 (drop 8 s) % 4100011 * 1500007
    + le 8 (drop 16 s) % 4100011 * 2000003
    + le 8 (drop 24 s) % 4100011 * 2500009

-- the key of a name under a parent
unfoldable pub name_key : ℕ → List ℕ → ℕ
name_key up s = (text_sum s + up * 3000017) % 4100011

unfoldable pub key_at : Tree → ℕ → ℕ
key_at t i = name_key (parent t i) (name t i)

-- the class of a node: nodes of one class are linked
unfoldable pub class_of : Tree → ℕ → ℕ
class_of t i = key_at t i % 4096

-- a key's place among the marks, which stand behind the links, and its mark there
abbrev pub place_of : ℕ → ℕ
place_of key = 8192 + key / 512

abbrev pub mark_of : ℕ → ℕ
mark_of key = key % 512 + 1

-- what a mark leaves of a place that held x: the mark where x was 0 or that mark, else 65535
abbrev pub marked : ℕ → ℕ → ℕ
marked x m = cond (eqb x 0) m (cond (eqb x m) m 65535)

-- the marks with a key more
unfoldable pub with_key : List ℕ → ℕ → List ℕ
with_key seen key = set seen (place_of key) (marked (get_or seen (place_of key) 0) (mark_of key))

-- with the key of node i, and the node linked
abbrev pub with_node : List ℕ → ℕ → ℕ → List ℕ
with_node seen i key = with_link (with_key seen key) i (key % 4096)

-- the key may have been marked
unfoldable pub may_be_marked : List ℕ → ℕ → Bool
may_be_marked seen key = eqb (get_or seen (place_of key) 0) 65535 || eqb (get_or seen (place_of key) 0) (mark_of key)

-- the keys of the nodes before i are marked, and these nodes are linked by their classes
pub record Seen (t : Tree) (i : ℕ) (seen : List ℕ) : Type 0 where
  pub room : 16384 ≤ length seen
  pub keys : (j : ℕ) → j < i → may_be_marked seen (key_at t j) ≡ true
  pub linked : Linked (class_of t) i seen
