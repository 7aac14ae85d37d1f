-- Numbers and texts in bytes. All numbers are little-endian.
use Rattle.std.specs.Prelude.{ℕ, zero, suc, ◌+◌, ◌*◌, ◌-◌, ◌/◌, ◌%◌, ◌^◌, Bool, true, false, cond, not, ◌&&◌, ◌||◌, List, [], ◌∷◌, ◌++◌, drop, eqb, leb, ltb, ℤ, pos, negsuc}
use Prim.Native.Char.{code}
use Prim.Native.String.{String, [] as ending, ◌∷◌ as ◌∷ᶜ◌}

-- the number in the first w bytes
unfoldable pub le : ℕ → List ℕ → ℕ
le zero s = 0
le (suc w) [] = 0
le (suc w) (x ∷ s) = x + 256 * le w s

-- n numbers of w bytes each
unfoldable pub numbers : ℕ → ℕ → List ℕ → List ℕ
numbers w zero s = []
numbers w (suc n) s = le w s ∷ numbers w n (drop w s)

-- x in w bytes, and a list of such
abbrev pub le_bytes : ℕ → ℕ → List ℕ
le_bytes zero x = []
le_bytes (suc w) x = x % 256 ∷ le_bytes w (x / 256)

abbrev pub all_bytes : ℕ → List ℕ → List ℕ
all_bytes w [] = []
all_bytes w (x ∷ xs) = le_bytes w x ++ all_bytes w xs

-- A signed number of w bytes stays its bits x, two's complement; half the bit patterns are negative.
unfoldable pub half : ℕ → ℕ
half w = 2 ^ (8 * w - 1)

unfoldable pub negative : ℕ → ℕ → Bool
negative w x = leb (half w) x

-- the order of two signed numbers: x before y
unfoldable pub below : ℕ → ℕ → ℕ → Bool
below w x y = cond (negative w x) (not (negative w y) || ltb x y) (not (negative w y) && ltb x y)

-- the magnitude, at the smallest number too: nothing is negated
unfoldable pub magnitude : ℕ → ℕ → ℕ
magnitude w x = cond (negative w x) (2 * half w - x) x

-- its distance from the smallest number of w bytes: the difference of two numbers is that of their distances
unfoldable pub distance : ℕ → ℕ → ℕ
distance w x = cond (negative w x) (x - half w) (x + half w)

-- the number itself, where an answer is signed
unfoldable pub signed : ℕ → ℕ → ℤ
signed w x = cond (negative w x) (negsuc (2 * half w - suc x)) (pos x)

-- two lists of bytes are the same
unfoldable pub same : List ℕ → List ℕ → Bool
same [] [] = true
same [] (y ∷ t) = false
same (x ∷ s) [] = false
same (x ∷ s) (y ∷ t) = let rest = same s t in eqb x y && rest

-- the bytes of a text
unfoldable pub text : String → List ℕ
text ending = []
text (c ∷ᶜ t) = code c ∷ text t

-- blanks to the end
unfoldable pub blank : List ℕ → Bool
blank [] = true
blank (x ∷ s) = let rest = blank s in eqb x 32 && rest

-- a field holds a text, padded right with blanks
unfoldable pub spells : List ℕ → List ℕ → Bool
spells s [] = blank s
spells [] (y ∷ t) = false
spells (x ∷ s) (y ∷ t) = let rest = spells s t in eqb x y && rest

-- the place of a field's text in a list of texts, counted from k; 0 where it is none of them
unfoldable pub place_from : ℕ → List ℕ → List (List ℕ) → ℕ
place_from k s [] = 0
place_from k s (t ∷ ts) = let later = place_from (suc k) s ts in cond (spells s t) k later
