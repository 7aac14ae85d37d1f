-- Each test leaves the rules after it; rules 28 and 39 are broken at one node at most that validation comes to.
use Prim.Native.Nat.{ℕ}
use mathlib.Core.Path.{◌≡◌, sym, ap, ◌∙◌}
use mathlib.Core.Bool.{not}
use lib.Dec.{eqb}
use native.Mathlib.Omega.{arith}
use borrow.Author.Tests.{lt-ltb}
use Rattle.types.proofs.Missing.{there, is_there}
use Rattle.std.proofs.Common.{Some}
use Rattle.std.specs.Option.{option_eq}
use Rattle.model.specs.Lists.{◌⊃◌}
use Rattle.model.specs.Rules.{Check, check, rejected, ◌then◌}
use Rattle.model.specs.Image.{Tree, tree_of}
use Rattle.model.specs.Containment.{found}
use Rattle.model.specs.Elements.{overlaps, element_rules, reference_check, parents_of, parents_lawful}
use Rattle.model.proofs.Staging.{stop, go}
use Rattle.references.specs.Groups.{shape_rules, connectivity_check}
use Rattle.section_data.specs.Given.{SectionContext}
use Rattle.section_data.proofs.Stored.{stores-has}
use Rattle.section_data.proofs.SectionContext.{section_ready}
use Rattle.section_data.proofs.RangeLaws.{ready_ranged, overlap-is}
use Rattle.parents.proofs.ParentLaws.{parents_is}
use Rattle.elements.proofs.StageLaws.{type_read, type_broken, overlap_broken, arrays_left, parents_broken_lem, parents_kept}
use Rattle.elements.proofs.stage.element_stage.Goals as goal
use Rattle.elements.proofs.stage.element_stage.Goals.{After-array_stage, Start}

-- what rules 20 to 26 buy
module _ (c : Start) where
  ready : SectionContext c.args.image.now c.args.s
  ready = section_ready c.requires.nodes_to.0 c.requires.s_value.0 c.requires.s_value.1 c.requires.s_value_2

  overlap : option_eq eqb c.args.overlap (Some c.args.s) ≡ overlaps (tree_of c.args.image.now) c.args.s
  overlap = overlap-is c.requires.nodes_to.0 (ready_ranged ready c.requires.s_value.0) c.requires.overlap_value.0

pub whole-element_type-requires : goal.whole-element_type-requires
whole-element_type-requires c = let p = (goal.at.whole-element_type-requires c).Start in let g = p.requires.nodes_to.0.sound in (g, stores-has g (ready p).own 0 (omega arith))

pub returns-then-not-is_supported : goal.returns-then-not-is_supported
returns-then-not-is_supported c = ap rejected c.at.ensures
    ∙ type_broken _ _ (type_read _ _ c.whole-element_type.ensures) c.is_supported.ensures _
    (c.if-not-is_supported.true)

pub returns-then-eq : goal.returns-then-eq
returns-then-eq c =
    ap rejected c.at-then-eq.ensures
    ∙ overlap_broken _ _ (type_read _ _ c.whole-element_type.ensures) c.is_supported.ensures
    (c.if-not-is_supported.false) (c.eq.ensures ∙ overlap (goal.at.returns-then-eq c).Start) _ c.if-eq.true

pub range_of-requires : goal.range_of-requires
range_of-requires c =
    let p = (goal.at.range_of-requires c).Start in record { index = (p.requires.nodes_to.1, p.requires.nodes_to.0.inside); s_value = (ready p).kind-is }

pub element_count-n-requires : goal.element_count-n-requires
element_count-n-requires c =
    let p = (goal.at.element_count-n-requires c).Start in
    (p.requires.nodes_to.0.sound, ((there (sym c.unwrap.ensures ∙ c.range_of.ensures)).0, (ready p).ranged))

pub unwrap-requires : goal.unwrap-requires
unwrap-requires c =
    let p = (goal.at.unwrap-requires c).Start in
    is_there _ _ c.range_of.ensures ∙ lt-ltb _ _ (ready p).ranged.range.inside

pub array_stage-requires : goal.array_stage-requires
array_stage-requires c =
    let p = (goal.at.array_stage-requires c).Start in
    let e = type_read _ _ c.whole-element_type.ensures in
    record { index = (p.requires.nodes_to.1, ready p); element_type_value = (e, c.element_count-n.ensures.0); faces = p.requires.faces }

-- rules 27 and 28 hold, and the others are left
module _ (c : After-array_stage) where
  abbrev t : Tree
  t = tree_of c.args.image.now

  abbrev s : ℕ
  s = c.args.s

  prepared : SectionContext c.args.image.now c.args.s
  prepared = section_ready c.requires.nodes_to.0 c.requires.s_value.0 c.requires.s_value.1 c.requires.s_value_2

  left : {x : Check} (rest : Check) → x ≡ ((check s (shape_rules t s) then connectivity_check t s) then rest)
      → x ≡ (check s (element_rules t s) then reference_check t s then rest)
  left rest e =
      arrays_left t s (type_read t s c.whole-element_type.ensures) c.is_supported.ensures (c.if-not-is_supported.false)
      (c.eq.ensures ∙ overlap-is c.requires.nodes_to.0 (ready_ranged prepared c.requires.s_value.0) c.requires.overlap_value.0) rest c.if-eq.false e

  parents : option_eq eqb c.args.parents (Some s) ≡ not (found t (parents_of t s) ⊃ parents_lawful t s)
  parents = parents_is c.requires.nodes_to.0 prepared c.requires.s_value.0 c.requires.s_value_2 c.requires.overlap_value.1

pub returns-in_err-array_stage : goal.returns-in_err-array_stage
returns-in_err-array_stage c = let a = (goal.at.returns-in_err-array_stage c).After-array_stage in left a _ (stop a.array_stage.ensures _ _ _ c.in_err-array_stage.was c.from_residual.ensures.1)

pub returns-then-eq-2 : goal.returns-then-eq-2
returns-then-eq-2 c =
    let a = (goal.at.returns-then-eq-2 c).After-array_stage in
    left a _
    (go a.array_stage.ensures c.in_ok-array_stage.was
    (ap rejected c.at-then-eq-2.ensures ∙ parents_broken_lem _ _ (c.eq-2.ensures ∙ parents a) c.if-eq-2.true))

pub returns : goal.returns
returns c =
    let a = (goal.at.returns c).After-array_stage in
    left a _ (go a.array_stage.ensures c.in_ok-array_stage.was (parents_kept _ _ (c.eq-2.ensures ∙ parents a) c.if-eq-2.false))
