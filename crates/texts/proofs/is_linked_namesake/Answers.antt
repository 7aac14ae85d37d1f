-- From node to node of the class: those from j on are no namesakes.
use native.Mathlib.Omega.{arith}
use Prim.Native.Nat.{◌+◌, ◌-◌, ◌≤◌}
use mathlib.Core.Path.{◌≡◌, sym, ◌∙◌}
use lib.ListN.{get_or}
use Rattle.records.specs.Table.{all_records}
use Rattle.texts.specs.Keys.{class_of}
use Rattle.texts.proofs.Marks.{search_start, search_on, search_found, search_end}
use Rattle.texts.proofs.is_linked_namesake.Goals as goal
use Rattle.texts.proofs.is_linked_namesake.Goals.{Else-is_namesake}

pub loop-j-init : goal.loop-j-init
unfolding class_of
loop-j-init c =
    let k = c.class_of in
    let q : k.result ≡ class_of (all_records c.args.table.now) c.args.i = rw (k.ensures.0, c.requires.key_value.0) in
    rw q (search_start c.requires.key_value.1 (rw (← q) k.ensures.1))

pub is_namesake-requires : goal.is_namesake-requires
is_namesake-requires c =
    let b = c.loop-j.invariant.below in
    record { has_record = (c.requires.has_record, (omega arith, omega arith)); up_value = c.parent_of-up.ensures.0 }

pub returns-then-is_namesake : goal.returns-then-is_namesake
returns-then-is_namesake c = sym (search_found c.loop-j.invariant (omega arith) (sym c.is_namesake.ensures ∙ c.if-is_namesake.true))

-- the node before the one that was asked, in the same class
earlier : (e : Else-is_namesake) → get_or e.args.seen.now (4096 + (e.loop-j.j - 1)) 0 ≤ e.loop-j.j - 1
earlier e =
    let b = e.loop-j.invariant.below in
    (e.requires.key_value.1.linked.before (e.loop-j.j - 1) (omega arith)).small

pub loop-j-smaller : goal.loop-j-smaller
loop-j-smaller c = omega (arith, earlier (goal.at.loop-j-smaller c).Else-is_namesake)

pub loop-j-preserved : goal.loop-j-preserved
loop-j-preserved c =
    search_on c.loop-j.invariant c.requires.key_value.1 (omega arith) (sym c.is_namesake.ensures ∙ c.if-is_namesake.false)

pub returns : goal.returns
returns c = sym (search_end c.loop-j.invariant (omega arith))

pub bounds-seen-class_of : goal.bounds-seen-class_of
bounds-seen-class_of c = omega (arith, c.class_of.ensures.1, c.requires.key_value.1.room)

pub overflow_cast-j : goal.overflow_cast-j
overflow_cast-j c = omega (arith, (loop-j-init c).below)

pub overflow_add-j : goal.overflow_add-j
overflow_add-j c = omega (arith, c.loop-j.invariant.below)

pub bounds-seen-j : goal.bounds-seen-j
bounds-seen-j c = omega (arith, c.loop-j.invariant.below, c.requires.key_value.1.room)

pub overflow_cast-j-in-loop-j : goal.overflow_cast-j-in-loop-j
overflow_cast-j-in-loop-j c = omega (arith, earlier (goal.at.overflow_cast-j-in-loop-j c).Else-is_namesake, c.loop-j.invariant.below)
