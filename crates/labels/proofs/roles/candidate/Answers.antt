-- Each arm has its label's first word, and these are all different.
use native.Mathlib.Omega.{arith}
use Rattle.model.specs.Bytes.{le, text}
use Rattle.model.specs.Containment.{known_labels}
use Rattle.labels.specs.Padded.{field_word, known_names, known_texts}
use Rattle.labels.proofs.KnownTexts.{begins_with, begins-none}
use Rattle.labels.proofs.roles.candidate.Goals as goal

pub returns-in-8242266044577498947 : goal.returns-in-8242266044577498947
unfolding field_word le known_texts known_names known_labels text
returns-in-8242266044577498947 c = begins_with 0 (omega arith) c.in-8242266044577498947.is

pub returns-in-7310293557645821763 : goal.returns-in-7310293557645821763
unfolding field_word le known_texts known_names known_labels text
returns-in-7310293557645821763 c = begins_with 1 (omega arith) c.in-7310293557645821763.is

pub returns-in-2314978161540886362 : goal.returns-in-2314978161540886362
unfolding field_word le known_texts known_names known_labels text
returns-in-2314978161540886362 c = begins_with 2 (omega arith) c.in-2314978161540886362.is

pub returns-in-7309475598608265050 : goal.returns-in-7309475598608265050
unfolding field_word le known_texts known_names known_labels text
returns-in-7309475598608265050 c = begins_with 3 (omega arith) c.in-7309475598608265050.is

pub returns-in-8245931777976791623 : goal.returns-in-8245931777976791623
unfolding field_word le known_texts known_names known_labels text
returns-in-8245931777976791623 c = begins_with 4 (omega arith) c.in-8245931777976791623.is

pub returns-in-8461260204199078982 : goal.returns-in-8461260204199078982
unfolding field_word le known_texts known_names known_labels text
returns-in-8461260204199078982 c = begins_with 5 (omega arith) c.in-8461260204199078982.is

pub returns-in-8319395793566264389 : goal.returns-in-8319395793566264389
unfolding field_word le known_texts known_names known_labels text
returns-in-8319395793566264389 c = begins_with 6 (omega arith) c.in-8319395793566264389.is

pub returns-in-7953729093963640393 : goal.returns-in-7953729093963640393
unfolding field_word le known_texts known_names known_labels text
returns-in-7953729093963640393 c = begins_with 7 (omega arith) c.in-7953729093963640393.is

pub returns-in-2314978161524107602 : goal.returns-in-2314978161524107602
unfolding field_word le known_texts known_names known_labels text
returns-in-2314978161524107602 c = begins_with 8 (omega arith) c.in-2314978161524107602.is

pub returns-in-7017575018266194503 : goal.returns-in-7017575018266194503
unfolding field_word le known_texts known_names known_labels text
returns-in-7017575018266194503 c = begins_with 9 (omega arith) c.in-7017575018266194503.is

pub returns-in-7021800394157482308 : goal.returns-in-7021800394157482308
unfolding field_word le known_texts known_names known_labels text
returns-in-7021800394157482308 c = begins_with 10 (omega arith) c.in-7021800394157482308.is

pub returns-in-8390322045806929220 : goal.returns-in-8390322045806929220
unfolding field_word le known_texts known_names known_labels text
returns-in-8390322045806929220 c = begins_with 11 (omega arith) c.in-8390322045806929220.is

pub returns-in-7594869166258352981 : goal.returns-in-7594869166258352981
unfolding field_word le known_texts known_names known_labels text
returns-in-7594869166258352981 c = begins_with 12 (omega arith) c.in-7594869166258352981.is

pub returns-in-8246725853021761097 : goal.returns-in-8246725853021761097
unfolding field_word le known_texts known_names known_labels text
returns-in-8246725853021761097 c = begins_with 13 (omega arith) c.in-8246725853021761097.is

pub returns-in_default : goal.returns-in_default
unfolding field_word le known_texts known_names known_labels text
returns-in_default c = begins-none c.in_default.in_default-own.rest
