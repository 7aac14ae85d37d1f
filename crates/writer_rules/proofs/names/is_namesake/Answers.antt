-- A record with this parent, and with this name.
use borrow.Author.Tests.{eq-eqb, ne_eqb}
use Rattle.writer_rules.proofs.names.is_namesake.Goals as goal

pub returns-then-parent_in-parent : goal.returns-then-parent_in-parent
returns-then-parent_in-parent c = rw (← c.parent_in.ensures.0, ne_eqb _ _ c.if-parent_in-parent.true)

pub returns : goal.returns
returns c =
    rw (← c.parent_in.ensures.0, eq-eqb _ _ c.if-parent_in-parent.false) c.has_name.ensures
