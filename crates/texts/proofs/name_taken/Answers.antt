-- A key that was not marked has no earlier sibling of its name.
use mathlib.Core.Path.{sym, ◌∙◌}
use Rattle.texts.proofs.Marks.{key_fits, not_taken}
use Rattle.texts.proofs.name_taken.Goals as goal

pub may_be_marked-requires : goal.may_be_marked-requires
may_be_marked-requires c = let p = c.requires.key_value in (p.1.room, key_fits p.1 p.0)

pub returns-then-not-may_be_marked : goal.returns-then-not-may_be_marked
returns-then-not-may_be_marked c =
    let p = c.requires.key_value in
    sym (not_taken p.1 p.0 (sym c.may_be_marked.ensures ∙ c.if-not-may_be_marked.true))

pub returns : goal.returns
returns c = c.is_linked_namesake.ensures
