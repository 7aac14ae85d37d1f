-- Each direction by itself: the inner size and the two rind numbers.
use mathlib.Core.Path.{refl}
use mathlib.Core.Logic.{⊎_elim}
use borrow.Author.Rules.{rules}
use Rattle.model.specs.Bytes.{text}
use Rattle.sids.proofs.Found.{found_ready, conforming_by}
use Rattle.sids.proofs.data_size.data_sizes.Goals as goal
use Rattle.sids.proofs.data_size.data_sizes.Goals.{After-conforming-rind}

pub conforming-rind-requires : goal.conforming-rind-requires
conforming-rind-requires c =
    let e = c.rind.ensures in record {
      index = c.requires.index.0;
      node_context = ⊎_elim (λ q. found_ready _ c.requires.index.0.sound _ 9 (text "Rind") q refl (λ z. c.requires.index.1.held.zone.based) e)
          (λ q. found_ready _ c.requires.index.0.sound _ 9 (text "Rind") q refl (λ z. c.requires.index.1.held.zone.based) e) c.requires.index.1.kind-is;
    }

pub data_size_at-i-requires : goal.data_size_at-i-requires
unfolding text
data_size_at-i-requires c =
    let e = conforming_by _ _ 9 (text "Rind") _ c.rind.ensures c.conforming-rind.ensures in
    record { sound = (c.requires.index.0.sound, c.requires.index.1.held); rind_value = (e, c.requires.n_value.0); n_bound = (c.requires.n_value.1, search rules); inner_value = c.inner_sizes-inner.ensures }

pub data_size_at-j-requires : goal.data_size_at-j-requires
data_size_at-j-requires c =
    let r = data_size_at-i-requires (goal.at.data_size_at-j-requires c).After-conforming-rind in
    record { sound = r.sound; rind_value = r.rind_value; n_bound = (r.n_bound.0, search rules); inner_value = r.inner_value }

pub data_size_at-k-requires : goal.data_size_at-k-requires
data_size_at-k-requires c =
    let r = data_size_at-i-requires (goal.at.data_size_at-k-requires c).After-conforming-rind in
    record { sound = r.sound; rind_value = r.rind_value; n_bound = (r.n_bound.0, search rules); inner_value = r.inner_value }

pub returns : goal.returns
returns c = rw (c.data_size_at-i.ensures, c.data_size_at-j.ensures, c.data_size_at-k.ensures)

pub rind-requires : goal.rind-requires
rind-requires c = record { index = (c.requires.index.0, c.requires.index.1.held.inside); fact = c.requires.index.1.kind-is }
