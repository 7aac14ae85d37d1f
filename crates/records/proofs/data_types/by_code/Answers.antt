-- Each arm has its data type's two bytes; no other data type has any.
use mathlib.Core.Path.{refl, sym}
use native.Mathlib.Omega.{arith}
use Rattle.model.specs.Bytes.{text, spells, blank, place_from}
use Rattle.model.specs.Image.{data_types}
use Rattle.model.proofs.Logic.{listed}
use Rattle.records.specs.Table.{type_by_code}
use Rattle.records.proofs.Codes.{no_type}
use Rattle.records.proofs.data_types.by_code.Goals as goal

pub returns-in-21581 : goal.returns-in-21581
unfolding place_from spells blank data_types text
returns-in-21581 c = listed type_by_code 11 c.in-21581.is refl refl

pub returns-in-12611 : goal.returns-in-12611
unfolding place_from spells blank data_types text
returns-in-12611 c = listed type_by_code 11 c.in-12611.is refl refl

pub returns-in-12610 : goal.returns-in-12610
unfolding place_from spells blank data_types text
returns-in-12610 c = listed type_by_code 11 c.in-12610.is refl refl

pub returns-in-13385 : goal.returns-in-13385
unfolding place_from spells blank data_types text
returns-in-13385 c = listed type_by_code 11 c.in-13385.is refl refl

pub returns-in-13397 : goal.returns-in-13397
unfolding place_from spells blank data_types text
returns-in-13397 c = listed type_by_code 11 c.in-13397.is refl refl

pub returns-in-13394 : goal.returns-in-13394
unfolding place_from spells blank data_types text
returns-in-13394 c = listed type_by_code 11 c.in-13394.is refl refl

pub returns-in-14409 : goal.returns-in-14409
unfolding place_from spells blank data_types text
returns-in-14409 c = listed type_by_code 11 c.in-14409.is refl refl

pub returns-in-14421 : goal.returns-in-14421
unfolding place_from spells blank data_types text
returns-in-14421 c = listed type_by_code 11 c.in-14421.is refl refl

pub returns-in-14418 : goal.returns-in-14418
unfolding place_from spells blank data_types text
returns-in-14418 c = listed type_by_code 11 c.in-14418.is refl refl

pub returns-in-13400 : goal.returns-in-13400
unfolding place_from spells blank data_types text
returns-in-13400 c = listed type_by_code 11 c.in-13400.is refl refl

pub returns-in-14424 : goal.returns-in-14424
unfolding place_from spells blank data_types text
returns-in-14424 c = listed type_by_code 11 c.in-14424.is refl refl

pub returns-in_default : goal.returns-in_default
unfolding place_from spells blank data_types text
returns-in_default c = (sym (no_type _ c.in_default.in_default-own.rest), omega arith)
