-- A node that stores no parents breaks nothing.
use mathlib.Core.Path.{sym, ◌∙◌}
use Rattle.parents.proofs.ParentLaws.{has_parents_lem, no_parents, stores-ranged, stored_inside, none_broken, broken_by}
use Rattle.parents.proofs.rule.is_broken.Goals as goal

pub returns-in_default : goal.returns-in_default
returns-in_default c = sym (none_broken _ _ (no_parents _ _ (sym c.in_default.is ∙ c.parents_if.ensures)))

pub is_lawful-requires : goal.is_lawful-requires
is_lawful-requires c = let o = has_parents_lem _ _ c.in-Some.ensures in
    record { index = (c.requires.index, stores-ranged _ _ o.0); j_value = (sym o.1, rw o.1 at (stored_inside _ _ o.0)); cells = c.requires.cells }

pub returns : goal.returns
returns c = rw c.is_lawful.ensures (broken_by _ _ (has_parents_lem _ _ c.in-Some.ensures).0)
