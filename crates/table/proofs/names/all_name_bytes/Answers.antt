-- The sum of what stands before node i; the nodes before it are linked.
use native.Mathlib.Omega.{arith}
use mathlib.Core.Path.{◌≡◌, refl, sym, ap, ◌∙◌}
use Rattle.model.specs.Lists.{sum_before}
use Rattle.model.proofs.Walks.{sum_before_step}
use Rattle.texts.proofs.Linking.{linked_start}
use Rattle.table.proofs.names.all_name_bytes.Goals as goal

pub loop-i-init : goal.loop-i-init
unfolding sum_before
loop-i-init c = ((refl, omega arith), linked_start _ _ c.clear.ensures)

pub link-requires : goal.link-requires
link-requires c =
    record { has_record = (((omega arith, omega arith), λ j h. c.requires.count_bound.1 j (omega arith)), omega arith); linked = c.loop-i.invariant.1 }

pub bytes_with_earlier-sum-requires : goal.bytes_with_earlier-sum-requires
bytes_with_earlier-sum-requires c =
    record { has_record = ((omega arith, omega arith), omega arith); linked = c.link.ensures }

pub loop-i-preserved : goal.loop-i-preserved
loop-i-preserved c =
    let l = c.loop-i in
    let p = c.bytes_with_earlier-sum.ensures in
    ((rw (l.invariant.0.0, p.0) (sym (sum_before_step _ l.i)), omega (arith, p.1)), c.link.ensures)

pub returns : goal.returns
returns c =
    let l = c.loop-i in
    let e : l.i ≡ c.args.count = omega arith in
    l.invariant.0.0 ∙ ap (sum_before _) e
