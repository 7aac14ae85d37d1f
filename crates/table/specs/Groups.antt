-- The rules 1 to 17 in groups, one group a function.
use Rattle.std.specs.Prelude.{ℕ, ◌+◌, ◌*◌, Bool, not, ◌&&◌, List, [], ◌∷◌, eqb, leb, ltb}
use Rattle.records.specs.declared.Header.{Header}
use Rattle.model.specs.Rules.{Rule, ◌unless◌}
use Rattle.model.specs.Image.{Tree, name, label, data_type_of}
use Rattle.model.specs.Header.{max_nodes, max_words}
use Rattle.model.specs.Records.{parent_lawful, deeper_than, max_depth, name_lawful, label_lawful, name_taken}
use Rattle.model.specs.Records.{link, rank_lawful, words_lawful, data_size_lawful, data_at_lawful}

-- low to high
abbrev pub is_within : ℕ → ℕ → ℕ → Bool
is_within x low high = leb low x && leb x high

-- rule 6 of a header
abbrev pub laid_out_by : Header → Bool
laid_out_by h =
    eqb h.record_offset 32
    && eqb h.dimension_offset (32 + 84 * h.node_count)
    && eqb h.data_offset (32 + 84 * h.node_count + 8 * h.word_count)
    && eqb (h.data_offset + h.data_length) h.total_length

-- rules 2 and 3 of the header of an image with n bytes; rules 4 to 6
abbrev pub word_rules : Header → ℕ → List Rule
word_rules h n = 2 unless eqb h.form 1 ∷ 3 unless eqb h.total_length n ∷ []

abbrev pub layout_rules : Header → List Rule
layout_rules h = 4 unless is_within h.node_count 1 max_nodes ∷ 5 unless leb h.word_count max_words ∷ 6 unless laid_out_by h ∷ []

abbrev pub place_rules : Tree → ℕ → List Rule
place_rules t i = 7 unless parent_lawful t i ∷ 8 unless not (deeper_than t max_depth i) ∷ []

abbrev pub text_rules : Tree → ℕ → List Rule
text_rules t i = 9 unless name_lawful (name t i) ∷ 10 unless label_lawful (label t i) ∷ 11 unless not (name_taken t i) ∷ []

abbrev pub type_rules : Tree → ℕ → List Rule
type_rules t i = 12 unless not (link t i) ∷ 13 unless ltb 0 (data_type_of t i) ∷ 14 unless rank_lawful t i ∷ []

abbrev pub size_rules : Tree → ℕ → List Rule
size_rules t i = 15 unless words_lawful t i ∷ 16 unless data_size_lawful t i ∷ 17 unless data_at_lawful t i ∷ []
