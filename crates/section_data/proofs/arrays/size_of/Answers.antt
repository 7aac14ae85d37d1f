-- What is missing stores nothing; a node with one dimension has its word.
use native.Mathlib.Omega.{arith}
use mathlib.Core.Path.{sym}
use Rattle.model.specs.Values.{size}
use Rattle.section_data.proofs.ArrayLaws.{no_size, one_word, words_inside}
use Rattle.section_data.proofs.arrays.size_of.Goals as goal

pub returns-in-None : goal.returns-in-None
returns-in-None c = rw c.in-None.is (sym (no_size c.args.image.now _ (omega arith)))

pub dimension-requires : goal.dimension-requires
dimension-requires c =
    let i = c.requires.indexed _ c.in-Some.is in
    let x = one_word c.requires.sound i in
    record { laid = (c.requires.sound.laid, i.numbers.inside); k_bound = (omega arith, words_inside c.requires.sound i) }

pub returns-in-Some : goal.returns-in-Some
unfolding size
returns-in-Some c = rw c.in-Some.is c.dimension.ensures
