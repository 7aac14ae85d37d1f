-- Parts written one after the other.
use Prim.Native.Nat.{ℕ, ◌+◌, ◌*◌, ◌-◌, ◌≤◌}
use native.Mathlib.Omega.{arith}
use mathlib.Core.Path.{◌≡◌, refl, sym, ap, ◌∙◌}
use mathlib.Core.Bool.{Bool, true, false, cond}
use mathlib.Core.List.{List, [], ◌++◌}
use lib.ListN.{length, replicate, length-append}
use lib.Dec.{leb, eqb}
use borrow.Author.Tests.{leb-true}
use Rattle.model.specs.Lists.{over, over_at}
use Rattle.model.specs.Bytes.{le_bytes, all_bytes}
use Rattle.model.specs.Rules.{passed}
use Rattle.model.specs.Image.{record_at}
use Rattle.model.specs.Build.{header_words}
use Rattle.model.proofs.Passed.{check_pass}
use Rattle.model.proofs.Overlays.{over_at_nil, over_more, over_at_more}
use Rattle.writer_model.specs.declared.Writer.{Writer}
use Rattle.writer_model.specs.Writer.{Addition, room_for, start_check, blank_image, padded, type_field, added_node, record_bytes, words_place, bytes_place, with_node}

-- the n bytes of p were written from `at` on
pub record Put (out₀ : List ℕ) (at n : ℕ) (p out : List ℕ) : Type 0 where
  pub is : out ≡ over_at at out₀ p
  pub size : length p ≡ n

pub none : (out : List ℕ) (at : ℕ) → Put out at 0 [] out
none out at = record { is = sym (over_at_nil at out); size = refl }

pub next : {out₀ : List ℕ} {at n : ℕ} {p out out' : List ℕ} (q : List ℕ) (m : ℕ) → Put out₀ at n p out → out' ≡ over_at (at + n) out q → length q ≡ m
    → at ≤ length out₀
    → Put out₀ at (n + m) (p ++ q) out'
next {out₀} {at} {n} {p} {out} q m l e f h =
    record {
      is =
          e ∙ ap (λ (o : List ℕ). over_at (at + n) o q) l.is ∙ ap (λ (j : ℕ). over_at (at + j) (over_at at out₀ p) q) (sym l.size)
          ∙ over_at_more at out₀ p q h;
      size = length-append p q ∙ omega (arith, l.size, f);
    }

-- the needed room as a sum
pub room_sum : (n d x m : ℕ) → room_for n d x ≤ m → 32 + 84 * n + 8 * d + x ≤ m
unfolding room_for
room_sum n d x m h = omega (arith, h)

-- a start that passes
pub start_limits : (n d x room : ℕ) → start_check n d x room ≡ passed → (room_for n d x ≤ 16777216) × (room_for n d x ≤ room)
unfolding start_check
start_limits n d x room e = let h = check_pass 0 _ e in (leb-true _ _ h.1.1.0, leb-true _ _ h.1.1.1.0)

pub blank_put : (n d x : ℕ) (room r₁ r₂ : List ℕ) → r₁ ≡ over room (all_bytes 4 (header_words n d x)) → r₂ ≡ over_at 32 r₁ (replicate (84 * n + 8 * d + x) 0)
    → r₂ ≡ over room (blank_image n d x)
unfolding blank_image
blank_put n d x room r₁ r₂ e₁ e₂ =
    let zeros = replicate {A = ℕ} (84 * n + 8 * d + x) 0 in
    e₂ ∙ ap (λ (r : List ℕ). over_at 32 r zeros) e₁ ∙ over_more room (all_bytes 4 (header_words n d x)) zeros

-- a text that has its field fits it, and a type is its own
pub padded-short : (s : List ℕ) → length (padded s) ≡ 32 → length s ≤ 32
unfolding padded
padded-short s = by_test (leb (length s) 32) refl
  where
    by_test : (t : Bool) → leb (length s) 32 ≡ t → length (cond t (s ++ replicate (32 - length s) 32) []) ≡ 32 → length s ≤ 32
    by_test true e h = leb-true (length s) 32 e
    by_test false e h = absurd (omega arith)

pub type-kept : (s : List ℕ) → length (type_field s) ≡ 2 → type_field s ≡ s
unfolding type_field
type-kept s = by_test (eqb (length s) 2)
  where
    by_test : (t : Bool) → length (cond t s []) ≡ 2 → cond t s [] ≡ s
    by_test true h = refl
    by_test false h = absurd (omega arith)

pub type-two : (s : List ℕ) → length (type_field s) ≡ 2 → length s ≡ 2
type-two s h = rw (type-kept s h) at h

-- a node's three parts
pub node_put : (s : Writer) (a : Addition) (room name label r₁ r₂ r₃ : List ℕ)
    → name ≡ padded a.name → label ≡ padded a.label → length (type_field a.data_type) ≡ 2
    → r₁ ≡ over_at (record_at s.node) room (name ++ label ++ a.data_type ++ le_bytes 2 (length a.dimensions)
    ++ le_bytes 4 s.word ++ le_bytes 4 a.parent ++ le_bytes 4 s.byte ++ le_bytes 4 (length a.bytes))
    → r₂ ≡ over_at (words_place s) r₁ (all_bytes 8 a.dimensions) → r₃ ≡ over_at (bytes_place s) r₂ a.bytes → r₃ ≡ with_node s a room
unfolding with_node record_bytes added_node
node_put s a room name label r₁ r₂ r₃ en el et e₁ e₂ e₃ = rw (type-kept a.data_type et, ← en, ← el, ← e₁, ← e₂, ← e₃)
