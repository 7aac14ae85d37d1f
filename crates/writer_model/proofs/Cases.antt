-- Document 02 §8 on worked cases, as one record of claims, by computation.
use Prim.Native.Nat.{ℕ}
use Prim.Native.String.{String}
use mathlib.Core.Path.{◌≡◌, refl}
use mathlib.Core.List.{List, [], ◌∷◌, ◌++◌}
use lib.ListN.{replicate, set}
use Rattle.writer_model.specs.declared.Writer.{Writer}
use Rattle.model.specs.Bytes.{all_bytes, text}
use Rattle.model.specs.Rules.{Answer, rejected, answer, rejection}
use Rattle.model.specs.Image.{tree_of}
use Rattle.model.specs.Build.{Plan, plan, image}
use Rattle.writer_model.specs.Writer.{Addition, start_answer, start_memory, add_answer, finish_answer}
use Rattle.writer_model.specs.Claims.{Draft, start_draft, draft_of, added_of, nodes_read, all_stored}
use Rattle.writer_model.specs.Computed.{computed_writer}
use Rattle.model.proofs.Tetrahedron.{root_plan, tetra_plans}

abbrev addition : Plan → Addition
addition (plan n l y ds up xs) =
    record { name = text n; label = text l; data_type = text y; dimensions = ds; parent = up; bytes = xs }

abbrev additions : List Plan → List Addition
additions [] = []
additions (p ∷ ps) = addition p ∷ additions ps

abbrev tetra_additions : List Addition
tetra_additions = additions tetra_plans

abbrev tetra : List ℕ
tetra = image tetra_plans

-- an MT node
abbrev empty : String → String → ℕ → Addition
empty n l up = addition (plan n l "MT" [] up [])

abbrev root : Addition
root = addition root_plan

abbrev thirty_three : String
thirty_three = "a name of thirty-three bytes, yes"

-- wrong ones: each is refused after the root and changes nothing
abbrev wrong : List Addition
wrong =
    empty "Base" "CGNSBase_t" 1
    ∷ empty "a/b" "CGNSBase_t" 0
    ∷ empty "" "CGNSBase_t" 0
    ∷ empty thirty_three "CGNSBase_t" 0
    ∷ empty "Base" " CGNSBase_t" 0
    ∷ empty "Base" "" 0
    ∷ empty "Base" thirty_three 0
    ∷ addition (plan "Base" "CGNSBase_t" "LK" [] 0 [])
    ∷ addition (plan "Base" "CGNSBase_t" "MT " [] 0 [])
    ∷ addition (plan "Base" "CGNSBase_t" "M" [] 0 [])
    ∷ addition (plan "Base" "CGNSBase_t" "I2" (1 ∷ []) 0 (1 ∷ 1 ∷ []))
    ∷ addition (plan "Base" "CGNSBase_t" "MT" (1 ∷ []) 0 [])
    ∷ addition (plan "Base" "CGNSBase_t" "C1" [] 0 [])
    ∷ addition (plan "Base" "CGNSBase_t" "I4" (1 ∷ 1 ∷ 1 ∷ 1 ∷ 1 ∷ 1 ∷ 1 ∷ 1 ∷ 1 ∷ 1 ∷ 1 ∷ 1 ∷ 1 ∷ []) 0 (replicate 4 0))
    ∷ addition (plan "Base" "CGNSBase_t" "I4" (0 ∷ []) 0 [])
    ∷ addition (plan "Base" "CGNSBase_t" "I4" (2 ∷ []) 0 (replicate 7 0))
    ∷ addition (plan "Base" "CGNSBase_t" "MT" [] 0 (1 ∷ []))
    ∷ addition (plan "Base" "CGNSBase_t" "C1" (257 ∷ []) 0 (replicate 257 1))
    ∷ []

abbrev answers : Writer → List ℕ → List Addition → List (Answer Writer)
answers s room [] = []
answers s room (a ∷ rest) = add_answer s a room ∷ answers s room rest

abbrev after_root : Draft
after_root = draft_of (start_draft 2 1 8 (replicate 220 9)) (root ∷ [])

abbrev base_plan : Plan
base_plan = plan "Base" "CGNSBase_t" "I4" (2 ∷ []) 0 (all_bytes 4 (3 ∷ 3 ∷ []))

abbrev no : ℕ → Answer Writer
no rule = rejected (rejection rule 1)

-- a root and a base; the parent field of the base, or of the root, altered
abbrev two : Draft
two = draft_of (start_draft 3 0 0 (replicate 284 9)) (root ∷ empty "Base" "CGNSBase_t" 0 ∷ [])

abbrev altered : ℕ → ℕ → List ℕ
altered at y = set two.room at y

-- a chain of k nodes below the root, each under the one before
abbrev chain : ℕ → ℕ → List Addition
chain ℕ.zero up = []
chain (ℕ.suc k) up = empty "Below" "UserDefinedData_t" up ∷ chain k (ℕ.suc up)

abbrev deepest : List ℕ
deepest = (draft_of (start_draft 40 0 0 (replicate 3392 9)) (root ∷ chain 32 0)).room

abbrev state : ℕ → ℕ → ℕ → ℕ → ℕ → ℕ → Writer
state n d x i w y = record { nodes = n; words = d; bytes = x; node = i; word = w; byte = y }

pub record Right : Type 0 where
  -- (a) node by node: the image, six bytes beyond it as they were; it finishes, and reads back
  pub tetra_written : draft_of (start_draft 17 16 256 (replicate 1850 9)) tetra_additions
      ≡ record { state = state 17 16 256 17 16 256; room = tetra ++ replicate 6 9 }
  pub tetra_finishes : finish_answer (state 17 16 256 17 16 256) (tetra ++ replicate 6 9) ≡ answer 1844
  pub tetra_reads : nodes_read (tree_of tetra) ≡ all_stored tetra_additions
  -- a root and a base, with refused additions between
  pub wrong_answers : answers after_root.state after_root.room wrong
      ≡ no 7 ∷ no 9 ∷ no 9 ∷ no 9 ∷ no 10 ∷ no 10 ∷ no 10 ∷ no 12 ∷ no 13 ∷ no 13 ∷ no 13 ∷ no 14 ∷ no 14 ∷ no 14 ∷ no 16 ∷ no 16 ∷ no 16 ∷ no 17 ∷ []
  pub wrong_nothing : draft_of (start_draft 2 1 8 (replicate 220 9)) (root ∷ wrong ++ addition base_plan ∷ wrong)
      ≡ record { state = state 2 1 8 2 1 8; room = image (root_plan ∷ base_plan ∷ []) ++ replicate 4 9 }
  pub wrong_left_out : added_of (start_draft 2 1 8 (replicate 220 9)) (root ∷ wrong ++ addition base_plan ∷ wrong) ≡ root ∷ addition base_plan ∷ []
  -- refusals of a start
  pub start_4 : start_answer 0 49153 16777216 0 ≡ rejected (rejection 4 0)
  pub start_4_more : start_answer 4097 0 0 0 ≡ rejected (rejection 4 0)
  pub start_5 : start_answer 4096 49153 16777216 0 ≡ rejected (rejection 5 0)
  pub start_1 : start_answer 1 0 16777101 0 ≡ rejected (rejection 1 0)
  pub start_46 : start_answer 1 0 16777100 16777215 ≡ rejected (rejection 46 0)
  pub start_words : start_answer 4096 49152 0 737312 ≡ answer (state 4096 49152 0 0 0 0)
  pub start_most : start_answer 1 0 16777100 16777216 ≡ answer (state 1 0 16777100 0 0 0)
  pub start_short : start_memory 1 0 0 (replicate 115 9) ≡ replicate 115 9
  -- of an addition: a short room, all nodes added, a sibling's name, words and data past what was stated
  pub add-46 : add_answer two.state (empty "Zone" "Zone_t" 1) (replicate 283 0) ≡ rejected (rejection 46 0)
  pub add-46-first : add_answer (state 2 0 0 2 0 0) (empty "Zone" "Zone_t" 1) (replicate 199 0) ≡ rejected (rejection 46 0)
  pub add-50 : add_answer (state 2 0 0 2 0 0) (empty "Zone" "Zone_t" 1) two.room ≡ rejected (rejection 50 0)
  pub add-11 : add_answer two.state (empty "Base   " "Zone_t" 0) two.room ≡ rejected (rejection 11 2)
  pub add_right : add_answer two.state (empty "Base   " "Zone_t" 1) two.room ≡ answer (state 3 0 0 3 0 0)
  -- a name of 32 bytes, a slash in a label, twelve dimensions
  pub add_most : add_answer (state 3 12 1 2 0 0) (addition (plan "a name of thirty-two bytes, fine" "a/b" "C1" (replicate 12 1) 1 (1 ∷ []))) (two.room ++ replicate 97 0)
      ≡ answer (state 3 12 1 3 12 1)
  pub add-15 : add_answer two.state (addition (plan "Zone" "Zone_t" "C1" (1 ∷ []) 1 (1 ∷ []))) two.room ≡ rejected (rejection 15 2)
  pub add-15-past : add_answer (state 3 0 0 2 1 0) (empty "Zone" "Zone_t" 1) two.room ≡ rejected (rejection 15 2)
  pub add-17-past : add_answer (state 3 0 0 2 0 1) (empty "Zone" "Zone_t" 1) two.room ≡ rejected (rejection 17 2)
  -- dimensions whose product is 0 modulo 2 ^ 64
  pub add-16-exact : add_answer (state 3 2 0 2 0 0) (addition (plan "Zone" "Zone_t" "C1" (4294967296 ∷ 4294967296 ∷ []) 1 [])) (two.room ++ replicate 16 0)
      ≡ rejected (rejection 16 2)
  -- a root with another parent; a parent field altered to its own node, to a later one; the root's
  pub add-7-root : add_answer (state 3 0 0 0 0 0) (empty "Root" "Root" 0) two.room ≡ rejected (rejection 7 0)
  pub altered_own : add_answer two.state (empty "Zone" "Zone_t" 1) (altered 188 1) ≡ rejected (rejection 7 2)
  pub altered_later : add_answer two.state (empty "Zone" "Zone_t" 1) (altered 188 2) ≡ rejected (rejection 7 2)
  pub altered_root : add_answer two.state (empty "Zone" "Zone_t" 1) (altered 104 0) ≡ rejected (rejection 7 2)
  pub altered_header : add_answer two.state (empty "Zone" "Zone_t" 1) (altered 8 77) ≡ answer (state 3 0 0 3 0 0)
  -- depth 32 is lawful, 33 is not; where the root's parent is altered too, 7 comes first
  pub deep : added_of (start_draft 40 0 0 (replicate 3392 9)) (root ∷ chain 33 0) ≡ root ∷ chain 32 0
  pub deep_8 : add_answer (state 40 0 0 33 0 0) (empty "Below" "UserDefinedData_t" 32) deepest ≡ rejected (rejection 8 33)
  pub deep_7 : add_answer (state 40 0 0 33 0 0) (empty "Below" "UserDefinedData_t" 32) (set deepest 104 0) ≡ rejected (rejection 7 33)
  -- of finishing: a short room, before N nodes, data or words not used, a header altered, no header
  pub finish_46 : finish_answer two.state (replicate 283 0) ≡ rejected (rejection 46 0)
  pub finish_51 : finish_answer two.state two.room ≡ rejected (rejection 51 0)
  pub finish_18 : finish_answer (state 1 0 1 1 0 0) (draft_of (start_draft 1 0 1 (replicate 117 9)) (root ∷ [])).room ≡ rejected (rejection 18 1)
  pub finish_18_words : finish_answer (state 1 1 0 1 0 0) (draft_of (start_draft 1 1 0 (replicate 124 9)) (root ∷ [])).room ≡ rejected (rejection 18 1)
  pub finish_4 : finish_answer (state 2 0 0 2 0 0) (set (draft_of (start_draft 2 0 0 (replicate 200 9)) (root ∷ empty "Base" "CGNSBase_t" 0 ∷ [])).room 8 0) ≡ rejected (rejection 4 0)
  pub finish_2 : finish_answer (state 0 0 0 0 0 0) (replicate 32 0) ≡ rejected (rejection 2 0)

pub all_right : Right
unfolding computed_writer
all_right =
    record {
      tetra_written = refl;
      tetra_finishes = refl;
      tetra_reads = refl;
      wrong_answers = refl;
      wrong_nothing = refl;
      wrong_left_out = refl;
      start_4 = refl;
      start_4_more = refl;
      start_5 = refl;
      start_1 = refl;
      start_46 = refl;
      start_words = refl;
      start_most = refl;
      start_short = refl;
      add-46 = refl;
      add-46-first = refl;
      add-50 = refl;
      add-11 = refl;
      add_right = refl;
      add_most = refl;
      add-15 = refl;
      add-15-past = refl;
      add-17-past = refl;
      add-16-exact = refl;
      add-7-root = refl;
      altered_own = refl;
      altered_later = refl;
      altered_root = refl;
      altered_header = refl;
      deep = refl;
      deep_8 = refl;
      deep_7 = refl;
      finish_46 = refl;
      finish_51 = refl;
      finish_18 = refl;
      finish_18_words = refl;
      finish_4 = refl;
      finish_2 = refl;
    }
