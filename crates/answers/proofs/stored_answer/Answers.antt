-- By the case of the answer; a float that is no NaN has its bits.
use mathlib.Core.Path.{refl, ap}
use Rattle.std.specs.Prelude.{Ok}
use borrow.Author.Rules.{sfits_of}
use mir.Syntax.{w64}
use mir.Facts.{to_z-of_z}
use Rattle.model.specs.Exports.{value_words}
use Rattle.model.proofs.NoNan.{single_no_nan, double_no_nan}
use Rattle.answers.proofs.stored_answer.Goals as goal

pub float_to_bits-x : goal.float_to_bits-x
float_to_bits-x c = single_no_nan {v = Ok c.args.v} _ c.requires (ap Ok c.in-Single.is)

pub float_to_bits-x-in-Double : goal.float_to_bits-x-in-Double
float_to_bits-x-in-Double c = double_no_nan {v = Ok c.args.v} _ c.requires (ap Ok c.in-Double.is)

pub returns-in-Whole : goal.returns-in-Whole
unfolding value_words
returns-in-Whole c =
    rw (c.answered.ensures.0, c.answered.ensures.1, c.whole_bits.ensures)
    (rw (c.in-Whole.is, to_z-of_z (sfits_of {w = w64} c.in-Whole.known_told-1-own.given.0.1))
    (refl, refl))

pub returns-in-Single : goal.returns-in-Single
unfolding value_words
returns-in-Single c = rw (c.single_answer.ensures.0, c.single_answer.ensures.1, c.in-Single.is) (refl, refl)

pub returns-in-Double : goal.returns-in-Double
unfolding value_words
returns-in-Double c = rw (c.answered-in-Double.ensures.0, c.answered-in-Double.ensures.1, c.in-Double.is) (refl, refl)

pub returns-in-SingleNan : goal.returns-in-SingleNan
unfolding value_words
returns-in-SingleNan c = rw (c.single_answer-in-SingleNan.ensures.0, c.single_answer-in-SingleNan.ensures.1, c.in-SingleNan.is) (refl, refl)

pub returns-in-DoubleNan : goal.returns-in-DoubleNan
unfolding value_words
returns-in-DoubleNan c = rw (c.answered-in-DoubleNan.ensures.0, c.answered-in-DoubleNan.ensures.1, c.in-DoubleNan.is) (refl, refl)
