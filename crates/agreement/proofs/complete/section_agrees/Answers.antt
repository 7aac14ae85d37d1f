-- A section that has no faces or no parents is not asked; the others agree where the parents of each face are matched.
use mathlib.Core.Path.{◌≡◌, sym, ◌∙◌}
use Rattle.model.specs.Image.{tree_of}
use Rattle.model.specs.FaceUsage.{faces_in}
use Rattle.types.proofs.Missing.{there}
use Rattle.face_parents.proofs.Columns.{looked_up}
use Rattle.agreement.proofs.CompleteLaws.{unasked, no_parents, section-type, section-elements, stores, not_there, two-each, faces_room, section-is}
use Rattle.agreement.proofs.complete.section_agrees.Goals as goal

pub returns-then-n-eq0 : goal.returns-then-n-eq0
returns-then-n-eq0 c =
    let a = c.requires.accepted.0 in
    sym (unasked a c.args.z c.args.s c.requires.accepted.1.1 (no_parents a c.args.z c.args.s c.requires.accepted.1.1 (sym c.requires.n_value.0 ∙ c.if-n-eq0.true)))

pub parents_of-requires : goal.parents_of-requires
parents_of-requires c =
    let a = c.requires.accepted.0 in
    let m : faces_in (tree_of c.args.image.now) c.args.z c.args.s ≡ 0 → ⊥ = λ q. c.if-n-eq0.false (c.requires.n_value.0 ∙ q) in record { index = (c.requires.accepted.1.0, c.requires.accepted.1.1); s_value = section-elements a c.args.z c.args.s c.requires.accepted.1.1 m c.requires.accepted.1.0; element_type_value = section-type a c.args.z c.args.s c.requires.accepted.1.1 m }

pub parents_row-row-requires : goal.parents_row-row-requires
parents_row-row-requires c =
    let a = c.requires.accepted.0 in
    let m = stores a c.args.z c.args.s c.requires.accepted.1.1 (λ q. c.if-n-eq0.false (c.requires.n_value.0 ∙ q)) in
    record { sound = a.sound; columns = λ j q. let l = there (sym q ∙ c.parents_of.ensures) in rw l.0 (m (rw (← l.0) l.1)) }

pub returns-then-row-eq0 : goal.returns-then-row-eq0
returns-then-row-eq0 c =
    let a = c.requires.accepted.0 in
    let r = rw (looked_up _ _ _ c.parents_of.ensures) at c.parents_row-row.ensures in
    sym (unasked a c.args.z c.args.s c.requires.accepted.1.1 (not_there a c.args.z c.args.s c.requires.accepted.1.1 (λ q. c.if-n-eq0.false (c.requires.n_value.0 ∙ q)) r c.if-row-eq0.true))

pub faces_complete-requires : goal.faces_complete-requires
faces_complete-requires c =
    let a = c.requires.accepted.0 in
    let r = rw (looked_up _ _ _ c.parents_of.ensures) at c.parents_row-row.ensures in
    let m : faces_in (tree_of c.args.image.now) c.args.z c.args.s ≡ 0 → ⊥ = λ q. c.if-n-eq0.false (c.requires.n_value.0 ∙ q) in
    (r.numbers, (rw c.requires.n_value.0 (two-each a c.args.z c.args.s c.requires.accepted.1.1 m r c.if-row-eq0.false), rw c.requires.n_value.0 (faces_room a c.args.z c.args.s c.requires.accepted.1.1 m r c.if-row-eq0.false c.requires.n_value.1 c.requires.z_in_bounds.0)))

pub returns : goal.returns
returns c =
    let a = c.requires.accepted.0 in
    let r = rw (looked_up _ _ _ c.parents_of.ensures) at c.parents_row-row.ensures in
    c.faces_complete.ensures
    ∙ section-is a c.args.z c.args.s c.requires.accepted.1.1 (λ q. c.if-n-eq0.false (c.requires.n_value.0 ∙ q)) r c.if-row-eq0.false c.requires.n_value.0 c.requires.n_value.1 c.requires.z_in_bounds.1
