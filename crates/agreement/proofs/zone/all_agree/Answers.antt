-- A use that is not matched tells that a face does not agree; where all are, the marks tell.
use mathlib.Core.Path.{sym}
use native.Mathlib.Omega.{arith}
use Rattle.agreement.proofs.ZoneLaws.{matching_start, matching_end}
use Rattle.agreement.proofs.zone.all_agree.Goals as goal

pub match_nodes-requires : goal.match_nodes-requires
match_nodes-requires c = record { index = c.requires.index; tables = c.requires.tables; arrays = c.requires.arrays }

pub returns-then-not-match_nodes : goal.returns-then-not-match_nodes
returns-then-not-match_nodes c =
    let m = c.match_nodes.ensures in
    (sym (m.off (c.if-not-match_nodes.true) (matching_start c.requires.tables.accepted c.requires.by_index)), m.kept)

pub zone_complete-requires : goal.zone_complete-requires
zone_complete-requires c =
    let m = c.match_nodes.ensures in
    let a = c.requires.tables.accepted in
    record { accepted = (a, c.requires.index.0); z_in_bounds = (omega (arith, c.requires.tables.room, m.kept.long), matching_end (m.on (c.if-not-match_nodes.false) (matching_start a c.requires.by_index))) }

pub returns : goal.returns
returns c = (c.zone_complete.ensures, c.match_nodes.ensures.kept)
