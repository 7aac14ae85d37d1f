-- Rules 7 to 17 by given sums in place of those over the records before; what a call leaves, of anything.
use Rattle.std.specs.Prelude.{ℕ, ◌+◌, Bool, not, ◌&&◌, List, [], ◌∷◌, eqb, leb, ltb}
use Rattle.model.specs.Rules.{Rule, ◌unless◌, Answer, rejected, answer}
use Rattle.model.specs.Image.{Tree, node, name, label, data_type_of}
use Rattle.model.specs.Records.{parent_lawful, deeper_than, max_depth, name_lawful, label_lawful, name_taken, link, rank_lawful, data_size_lawful}

-- 15, where w is the sum
abbrev pub words_after : Tree → ℕ → ℕ → Bool
words_after t w i = eqb (node t i).first_word w && leb (w + (node t i).rank) t.word_total

-- 17, where x is the sum
abbrev pub bytes_after : Tree → ℕ → ℕ → Bool
bytes_after t x i = eqb (node t i).data_at x && leb (x + (node t i).data_size) t.byte_total

-- 7 to 17 at node i, after w dimension words and x data bytes
abbrev pub rules_after : Tree → ℕ → ℕ → ℕ → List Rule
rules_after t w x i =
    7 unless parent_lawful t i
    ∷ 8 unless not (deeper_than t max_depth i)
    ∷ 9 unless name_lawful (name t i)
    ∷ 10 unless label_lawful (label t i)
    ∷ 11 unless not (name_taken t i)
    ∷ 12 unless not (link t i)
    ∷ 13 unless ltb 0 (data_type_of t i)
    ∷ 14 unless rank_lawful t i
    ∷ 15 unless words_after t w i
    ∷ 16 unless data_size_lawful t i
    ∷ 17 unless bytes_after t x i
    ∷ []

-- what a call leaves of a value that a success would make new
unfoldable pub after : {A B : Type 0} → Answer A → B → B → B
after (rejected r) old new = old
after (answer x) old new = new
