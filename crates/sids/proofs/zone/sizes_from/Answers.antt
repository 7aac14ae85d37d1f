-- Direction by direction.
use Rattle.sids.proofs.zone.sizes_from.Goals as goal

pub returns : goal.returns
returns c = rw (c.size_at-i.ensures, c.size_at-j.ensures, c.size_at-k.ensures)
