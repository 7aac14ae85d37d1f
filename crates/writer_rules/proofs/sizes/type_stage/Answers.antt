-- Three tests in order.
use native.Mathlib.Omega.{arith}
use mathlib.Core.Path.{◌≡◌, refl, sym, ap, ◌∙◌}
use mathlib.Core.Bool.{true, not}
use mathlib.Core.List.{[], ◌∷◌}
use lib.Dec.{eqb}
use lib.ListN.{length}
use borrow.Author.Tests.{eq-eqb, ne_eqb, le-ltb, lt-ltb}
use Rattle.model.specs.Image.{data_type_of}
use Rattle.model.specs.Rules.{Check, check, ◌unless◌}
use Rattle.model.specs.Records.{link, rank_lawful}
use Rattle.model.proofs.Staging.{holds, fails, no_rule}
use Rattle.records.proofs.Codes.{link_by_code}
use Rattle.table.specs.Groups.{type_rules}
use Rattle.writer_model.specs.Writer.{Addition, tree_with}
use Rattle.writer_rules.proofs.RuleLaws.{added_link, added_type, added_rank}
use Rattle.writer_rules.proofs.sizes.type_stage.Goals as goal
use Rattle.writer_rules.proofs.sizes.type_stage.Goals.{After-data_type_of-known, After-rank_lawful, After-type_code, Else-known-eq0, Else-type_code-eq-LINK}

-- the test of rule 12
linked : (k : After-type_code) (a : Addition) → let p = k.args in a.data_type ≡ p.data_type.now
    → link (tree_with p.state a p.room.now) p.state.node ≡ eqb k.type_code.result 19276
linked k a e =
    added_link _ a k.args.room.now e ∙ k.type_code.ensures.0.1 ∙ sym (link_by_code k.type_code.result refl)

pub returns-then-type_code-eq-LINK : goal.returns-then-type_code-eq-LINK
returns-then-type_code-eq-LINK c = λ a e f. fails _ 12 _ (ap not (linked (goal.at.returns-then-type_code-eq-LINK c).After-type_code a e ∙ eq-eqb _ _ c.if-type_code-eq-LINK.true)) c.reject.ensures

no-link : (g : Else-type_code-eq-LINK) (a : Addition) → let p = g.args in a.data_type ≡ p.data_type.now
    → not (link (tree_with p.state a p.room.now) p.state.node) ≡ true
no-link g a e =
    ap not (added_link _ a g.args.room.now e ∙ g.type_code.ensures.0.1 ∙ sym (link_by_code g.type_code.result refl) ∙ ne_eqb _ _ g.if-type_code-eq-LINK.false)

typed : (k : After-data_type_of-known) (a : Addition) → let p = k.args in a.data_type ≡ p.data_type.now
    → data_type_of (tree_with p.state a p.room.now) p.state.node ≡ k.data_type_of-known.result
typed k a e = added_type _ a k.args.room.now e ∙ sym k.data_type_of-known.ensures.0

pub returns-then-known-eq0 : goal.returns-then-known-eq0
returns-then-known-eq0 c = λ a e f.
    let k = (goal.at.returns-then-known-eq0 c).After-data_type_of-known in
    holds _ 12 _ (no-link (goal.at.returns-then-known-eq0 c).Else-type_code-eq-LINK a e)
    (fails _ 13 _ (rw (typed k a e) (le-ltb 0 k.data_type_of-known.result (omega (arith, c.if-known-eq0.true)))) c.reject-then-known-eq0.ensures)

-- rule 14 is left, and its test
left : {x : Check} (g : Else-known-eq0) (a : Addition) → let p = g.args in
    let t = tree_with p.state a p.room.now in a.data_type ≡ p.data_type.now
    → x ≡ check p.state.node (14 unless rank_lawful t p.state.node ∷ []) → x ≡ check p.state.node (type_rules t p.state.node)
left g a e q =
    let n = added_link _ a g.args.room.now e ∙ g.type_code.ensures.0.1 ∙ sym (link_by_code g.type_code.result refl) in
    let t : data_type_of (tree_with g.args.state a g.args.room.now) g.args.state.node ≡ g.data_type_of-known.result = added_type _ a g.args.room.now e ∙ sym g.data_type_of-known.ensures.0 in
    holds _ 12 _ (ap not (n ∙ ne_eqb _ _ g.if-type_code-eq-LINK.false)) (holds _ 13 _ (rw t (lt-ltb 0 g.data_type_of-known.result (omega (arith, g.if-known-eq0.false)))) q)

ranked : (k : After-rank_lawful) (a : Addition) → let p = k.args in
    a.data_type ≡ p.data_type.now → length a.dimensions ≡ p.rank → rank_lawful (tree_with p.state a p.room.now) p.state.node ≡ k.rank_lawful.result
ranked k a e f =
    added_rank _ a k.args.room.now (added_type _ a k.args.room.now e ∙ sym k.data_type_of-known.ensures.0) f
    ∙ sym k.rank_lawful.ensures

pub returns-then-not-rank_lawful : goal.returns-then-not-rank_lawful
returns-then-not-rank_lawful c = λ a e f.
    let k = (goal.at.returns-then-not-rank_lawful c).After-rank_lawful in
    left (goal.at.returns-then-not-rank_lawful c).Else-known-eq0 a e (fails _ 14 _ (ranked k a e f ∙ c.if-not-rank_lawful.true) c.reject-then-not-rank_lawful.ensures)

pub returns : goal.returns
returns c = λ a e f.
    left (goal.at.returns c).Else-known-eq0 a e (holds _ 14 _ (ranked (goal.at.returns c).After-rank_lawful a e f ∙ c.if-not-rank_lawful.false) (sym (no_rule _)))
