-- Rule 47, rule 42, then the value.
use native.Mathlib.Omega.{arith}
use mathlib.Core.Path.{◌≡◌, sym, ap, ◌∙◌}
use mathlib.Core.Bool.{true}
use lib.Dec.{T}
use Rattle.model.specs.Lists.{among}
use Rattle.model.specs.Rules.{rejected, answer}
use Rattle.model.specs.Image.{tree_of, data_type_of}
use Rattle.words.specs.Width.{is_width}
use Rattle.array_values.specs.Readable.{readable}
use Rattle.array_values.proofs.Laws.{readable-wide, width_is}
use Rattle.array_values.proofs.Answer.{unreadable, not-from-one, past_end, in_range_lem}
use Rattle.array_values.proofs.node_value.Goals as goal
use Rattle.array_values.proofs.node_value.Goals.{Else-not-is_readable}

-- values of the data type are handed out
readable-type : (c : Else-not-is_readable) → among c.data_type_of-data_type.result readable ≡ true
readable-type c = sym c.is_readable.ensures ∙ c.if-not-is_readable.false

readable-node : (c : Else-not-is_readable) → let a = c.args in among (data_type_of (tree_of a.image.now) a.i) readable ≡ true
readable-node c = rw c.data_type_of-data_type.ensures.0 at (readable-type c)

pub returns-then-not-is_readable : goal.returns-then-not-is_readable
returns-then-not-is_readable c =
    let e = rw c.data_type_of-data_type.ensures.0 at (sym c.is_readable.ensures ∙ c.if-not-is_readable.true) in
    (ap rejected c.at.ensures ∙ unreadable c.requires.0 c.args.i c.args.k c.requires.1 e, tt)

pub returns-then-k-lt1 : goal.returns-then-k-lt1
returns-then-k-lt1 c =
    let d = (goal.at.returns-then-k-lt1 c).Else-not-is_readable in
    (ap rejected c.at-then-k-lt1.ensures ∙ not-from-one d.requires.0 d.args.i d.args.k d.requires.1 (readable-node d) (omega arith), tt)

pub array_length-requires : goal.array_length-requires
array_length-requires c =
    let d = (goal.at.array_length-requires c).Else-not-is_readable in
    let w = c.width_of.ensures.0 in
    let t : T (is_width c.width_of.result) = rw w (readable-wide _ (readable-type d)).0 in
    (d.requires, (t, w ∙ width_is _ _ d.data_type_of-data_type.ensures.0))

pub returns-then-array_length-k : goal.returns-then-array_length-k
returns-then-array_length-k c =
    let d = (goal.at.returns-then-array_length-k c).Else-not-is_readable in
    (ap rejected c.at-then-array_length-k.ensures ∙ past_end d.requires.0 d.args.i d.args.k d.requires.1 (readable-node d) (omega arith) (omega arith), tt)

pub value_at-requires : goal.value_at-requires
value_at-requires c =
    let d = (goal.at.value_at-requires c).Else-not-is_readable in
    record { sound = (d.requires, (readable-type d, d.data_type_of-data_type.ensures.0)); k_bound = omega arith }

pub returns : goal.returns
returns c =
    let d = (goal.at.returns c).Else-not-is_readable in (
      ap answer c.value_at.ensures.0 ∙ in_range_lem d.requires.0 d.args.i d.args.k d.requires.1 (readable-node d) (omega arith)
          (omega arith),
      c.value_at.ensures.1,
    )
