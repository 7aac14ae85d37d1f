-- The stored type has as many nodes as follow it.
use Rattle.references.specs.Mixed.{fits_in}
use Rattle.references.proofs.mixed.type_fits.Goals as goal

pub returns : goal.returns
unfolding fits_in
returns c = rw (← c.number_at-own_type.ensures) c.fits_length.ensures
