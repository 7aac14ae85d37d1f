-- Three tests in order, after the words and bytes of the nodes before.
use native.Mathlib.Omega.{arith}
use mathlib.Core.Path.{◌≡◌, sym, ap, ◌∙◌}
use mathlib.Core.Bool.{true}
use mathlib.Core.List.{[], ◌∷◌}
use lib.ListN.{length}
use Rattle.model.specs.Rules.{Check, check, ◌unless◌}
use Rattle.model.specs.Records.{data_size_lawful}
use Rattle.writer_model.specs.After.{words_after, bytes_after}
use Rattle.model.proofs.Staging.{holds, fails, no_rule}
use Rattle.writer_model.specs.Writer.{Addition, tree_with}
use Rattle.writer_rules.specs.Groups.{sizes_after}
use Rattle.writer_rules.proofs.RuleLaws.{added_type, added_words, added_size, added_bytes, words_known}
use Rattle.writer_rules.proofs.sizes.size_stage.Goals as goal
use Rattle.writer_rules.proofs.sizes.size_stage.Goals.{After-data_size_lawful, After-fits-2, Else-not-data_size_lawful, Else-not-fits}

pub returns-then-not-fits : goal.returns-then-not-fits
returns-then-not-fits c = λ a e f g. fails _ 15 _ (added_words _ a _ (ap length f) ∙ sym c.fits.ensures ∙ c.if-not-fits.true) c.reject.ensures

-- rule 15 holds
fitted : (o : Else-not-fits) (a : Addition) → let p = o.args in a.dimensions ≡ p.dimensions.now
    → words_after (tree_with p.state a p.room.now) p.state.word p.state.node ≡ true
fitted o a f = added_words _ a _ (ap length f) ∙ sym o.fits.ensures ∙ o.if-not-fits.false

-- the test of rule 16
sized : (k : After-data_size_lawful) (a : Addition)
    → let p = k.args in
    a.data_type ≡ p.data_type.now → a.dimensions ≡ p.dimensions.now → length a.bytes ≡ p.size
    → data_size_lawful (tree_with p.state a p.room.now) p.state.node ≡ k.data_size_lawful.result
sized k a e f g =
    let p = k.args in
    let q = added_type _ a p.room.now e ∙ sym k.data_type_of.ensures.0 in
    added_size _ a _ q f g (words_known p.dimensions.now (λ i. omega (arith, k.type_inv.dimensions i)))
    ∙ rw (← k.width_of-width.ensures.0) (sym k.data_size_lawful.ensures)

pub returns-then-not-data_size_lawful : goal.returns-then-not-data_size_lawful
returns-then-not-data_size_lawful c = λ a e f g.
    let k = (goal.at.returns-then-not-data_size_lawful c).After-data_size_lawful in
    holds _ 15 _ (fitted (goal.at.returns-then-not-data_size_lawful c).Else-not-fits a f) (fails _ 16 _ (sized k a e f g ∙ c.if-not-data_size_lawful.true) c.reject-then-not-data_size_lawful.ensures)

-- rule 17 is left, and its test
left : {x : Check} (b : Else-not-data_size_lawful) (a : Addition)
    → let p = b.args in let t = tree_with p.state a p.room.now in
    a.data_type ≡ p.data_type.now → a.dimensions ≡ p.dimensions.now → length a.bytes ≡ p.size
    → x ≡ check p.state.node (17 unless bytes_after t p.state.byte p.state.node ∷ [])
    → x ≡ check p.state.node (sizes_after t p.state.word p.state.byte p.state.node)
left b a e f g q =
    let p = b.args in
    let t = added_type _ a p.room.now e ∙ sym b.data_type_of.ensures.0 in
    let s =
    added_size _ a _ t f g (words_known p.dimensions.now (λ i. omega (arith, b.type_inv.dimensions i)))
    ∙ rw (← b.width_of-width.ensures.0) (sym b.data_size_lawful.ensures) in
    holds _ 15 _ (added_words _ a _ (ap length f) ∙ sym b.fits.ensures ∙ b.if-not-fits.false) (holds _ 16 _ (s ∙ b.if-not-data_size_lawful.false) q)

room-left : (k : After-fits-2) (a : Addition)
    → let p = k.args in
    length a.bytes ≡ p.size → bytes_after (tree_with p.state a p.room.now) p.state.byte p.state.node ≡ k.fits-2.result
room-left k a g = added_bytes _ a _ g ∙ sym k.fits-2.ensures

pub returns-then-not-fits-2 : goal.returns-then-not-fits-2
returns-then-not-fits-2 c = λ a e f g.
    let k = (goal.at.returns-then-not-fits-2 c).After-fits-2 in
    left (goal.at.returns-then-not-fits-2 c).Else-not-data_size_lawful a e f g (fails _ 17 _ (room-left k a g ∙ c.if-not-fits-2.true) c.reject-then-not-fits-2.ensures)

pub returns : goal.returns
returns c = λ a e f g.
    let k = (goal.at.returns c).After-fits-2 in
    left (goal.at.returns c).Else-not-data_size_lawful a e f g (holds _ 17 _ (room-left k a g ∙ c.if-not-fits-2.false) (sym (no_rule _)))
