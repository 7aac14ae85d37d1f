-- Ranges of numbers in two tables, in ascending order of their first numbers: firsts[j], and reach[j], the greatest last number of the ranges up to j.
use Rattle.std.specs.Prelude.{◌≡◌, ℕ, suc, ◌+◌, ◌*◌, ◌<◌, ◌≤◌, max, Bool, true, false, ◌&&◌, ◌||◌, List, length, nat_le, nat_lt, slice_index, slice_index_or, Option, MatchOption}
use Rattle.model.specs.Lists.{some_from, count_from}
use Rattle.ranges.specs.declared.Interval.{Interval}

-- the number of an element with its zone, so that one table serves all zones of an image
unfoldable pub key : ℕ → ℕ → ℕ
key z f = 4294967296 * z + f

-- entry j begins no later than `last`, and a range up to it reaches `first`
unfoldable pub meets_at : List ℕ → List ℕ → ℕ → ℕ → ℕ → Bool
meets_at firsts reach first last j = nat_le (slice_index firsts j) last && nat_le first (slice_index reach j)

-- entry j holds f
abbrev pub holds : List ℕ → List ℕ → ℕ → ℕ → Bool
holds firsts reach f = meets_at firsts reach f f

-- one of the first n entries holds f
abbrev pub in_ranges : List ℕ → List ℕ → ℕ → ℕ → Bool
in_ranges firsts reach n f = some_from (holds firsts reach f) n 0

-- the answer of a search: an entry of n that meets the numbers from first to last, none where no entry does
abbrev pub Found : List ℕ → List ℕ → ℕ → ℕ → ℕ → Option ℕ → Type 0
Found firsts reach n first last r =
    MatchOption r (some_from (meets_at firsts reach first last) n 0 ≡ false) (λ j. (j < n) × (meets_at firsts reach first last j ≡ true))

-- n entries of a table, none below the one before it
pub record Rising (s : List ℕ) (n : ℕ) : Type 0 where
  pub room : n ≤ length s
  pub rises : (i : ℕ) → suc i < n → slice_index s i ≤ slice_index s (suc i)

-- first numbers rise, and are below half of 64 bits, so that a difference tells which of two is greater
pub record Firsts (s : List ℕ) (n : ℕ) : Type 0 where
  pub rise : Rising s n
  pub small : (i : ℕ) → i < n → slice_index s i < 9223372036854775808

-- both tables rise
pub record Ordered (firsts reach : List ℕ) (n : ℕ) : Type 0 where
  pub firsts_rise : Firsts firsts n
  pub reach_rises : Rising reach n

-- of n entries the first r begin no later than f, those after the next `left` later
pub record Begun (firsts : List ℕ) (n f r left : ℕ) : Type 0 where
  pub inside : r + left ≤ n
  pub begins : (i : ℕ) → i < r → slice_index firsts i ≤ f
  pub later : (i : ℕ) → r + left ≤ i → i < n → f < slice_index firsts i

-- a table whose entries from a place to n are raised to `least` where they were below
pub record Raised (least : ℕ) (old new : List ℕ) (n place : ℕ) : Type 0 where
  pub before : (i : ℕ) → i < place → slice_index new i ≡ slice_index old i
  pub after : (i : ℕ) → place ≤ i → i < n → slice_index new i ≡ max (slice_index old i) least

-- x put at a place of a table of n entries, those after it moved up by one
pub record Placed (x : ℕ) (old new : List ℕ) (n place : ℕ) : Type 0 where
  pub before : (i : ℕ) → i < place → slice_index new i ≡ slice_index old i
  pub here : slice_index_or new place 0 ≡ x
  pub after : (i : ℕ) → place ≤ i → i < n → slice_index new (suc i) ≡ slice_index old i

-- the range from first to last put at a place among n: the tables meet what they met, and what it meets
pub record Inserted (firsts reach : List ℕ) (n first last : ℕ) (firsts' reach' : List ℕ) (place : ℕ) : Type 0 where
  pub inside : place ≤ n
  pub placed : Placed first firsts firsts' n place
  pub ordered : Ordered firsts' reach' (n + 1)
  pub meets : (a c : ℕ) → some_from (meets_at firsts' reach' a c) (n + 1) 0 ≡ (some_from (meets_at firsts reach a c) n 0 || (nat_le first c && nat_le a last))

-- an interval holds f
unfoldable pub is_within : Interval → ℕ → Bool
is_within r f = nat_le r.low f && nat_lt f (r.low + r.size)

-- an interval of a zone's numbers, all of them in ranges
pub record Covered (firsts reach : List ℕ) (n zone : ℕ) (r : Interval) : Type 0 where
  pub small : r.low + r.size ≤ 4294967296
  pub covered : (g : ℕ) → is_within r g ≡ true → in_ranges firsts reach n (key zone g) ≡ true

-- the answer of a search for f in a zone: an interval of numbers in ranges that holds f, none where f is in no range
abbrev pub Around : List ℕ → List ℕ → ℕ → ℕ → ℕ → Option Interval → Type 0
Around firsts reach n zone f r = MatchOption r (in_ranges firsts reach n (key zone f) ≡ false) (λ i. Covered firsts reach n zone i × (is_within i f ≡ true))

-- section s meets the test, and its range the numbers from first to last
unfoldable pub meets_section : (ℕ → Bool) → (ℕ → ℕ) → (ℕ → ℕ) → ℕ → ℕ → ℕ → Bool
meets_section test first_of last_of first last s = test s && (nat_le (first_of s) last && nat_le first (last_of s))

-- section s meets the test, and its range holds f
abbrev pub has : (ℕ → Bool) → (ℕ → ℕ) → (ℕ → ℕ) → ℕ → ℕ → Bool
has test first_of last_of f = meets_section test first_of last_of f f

-- n entries are the ranges of the sections before i that meet the test; `meets f f` is that they hold f where one of these has it
pub record Gathered (test : ℕ → Bool) (first_of last_of : ℕ → ℕ) (firsts reach : List ℕ) (n i : ℕ) : Type 0 where
  pub few : n ≤ count_from test i 0
  pub ordered : Ordered firsts reach n
  pub meets : (a c : ℕ) → some_from (meets_at firsts reach a c) n 0 ≡ some_from (meets_section test first_of last_of a c) i 0
