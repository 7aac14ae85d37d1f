-- What a start or an addition tells: a state, or a refusal.
use Rattle.std.specs.Prelude.{Result}
use Rattle.model.specs.declared.Rejection.{Rejection}
use Rattle.model.specs.Rules.{Answer}
use Rattle.model.specs.Answers.{tells}
use Rattle.writer_model.specs.declared.Writer.{Writer}

abbrev pub writing_tells : Result Writer Rejection → Answer Writer
writing_tells = tells (λ s. s)
