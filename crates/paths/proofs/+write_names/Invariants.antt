-- The node number falls at each call.
use Rattle.paths.proofs.+write_names.Given as goal

abbrev pub decreases-write_names : goal.decreases-write_names
decreases-write_names l = l.i
