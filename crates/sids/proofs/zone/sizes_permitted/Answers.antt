-- The zone's type decides.
use Rattle.sids.proofs.zone.sizes_permitted.Goals as goal

pub returns-then-structured : goal.returns-then-structured
returns-then-structured c = rw c.if-structured.true c.structured_sizes.ensures

pub returns : goal.returns
returns c = rw c.if-structured.false c.unstructured_sizes.ensures
