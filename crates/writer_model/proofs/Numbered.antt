-- No refusal of the writer has the number 0: each stands in a list of rules.
use mathlib.Core.Path.{refl}
use Rattle.model.specs.Exports.{tells_entry}
use Rattle.model.proofs.Numbered.{none_of_entries, of_check, of_then, of_gives, of_table}
use Rattle.writer_model.specs.Writer.{start_check, start_answer, addition_rules, add_check, add_answer, finish_check, finish_answer}
use Rattle.writer_model.specs.Exports.{WriterNumbered}

pub writer_numbered : WriterNumbered
unfolding start_answer start_check add_answer add_check addition_rules finish_answer finish_check none_of_entries tells_entry
writer_numbered =
    record {
      of_start = λ n d x room. of_gives _ _ (of_check 0 _ refl);
      of_add = λ s a room. of_gives _ _ (of_then _ _ (of_check 0 _ refl) (of_check s.node _ refl));
      of_finish = λ s room. of_gives _ _ (of_then _ _ (of_check 0 _ refl) (of_table _));
    }
