-- One law at each type of the table.
use mathlib.Core.Path.{refl}
use native.Mathlib.Omega.{arith}
use Rattle.model.specs.Lists.{row}
use Rattle.model.specs.Elements.{nodes_per}
use Rattle.element_types.proofs.Laws.{listed, unlisted}
use Rattle.element_types.proofs.nodes_per.Goals as goal

pub returns-in-2 : goal.returns-in-2
unfolding nodes_per row
returns-in-2 c = listed c.in-2.is refl refl

pub returns-in-3 : goal.returns-in-3
unfolding nodes_per row
returns-in-3 c = listed c.in-3.is refl refl

pub returns-in-4 : goal.returns-in-4
unfolding nodes_per row
returns-in-4 c = listed c.in-4.is refl refl

pub returns-in-5 : goal.returns-in-5
unfolding nodes_per row
returns-in-5 c = listed c.in-5.is refl refl

pub returns-in-6 : goal.returns-in-6
unfolding nodes_per row
returns-in-6 c = listed c.in-6.is refl refl

pub returns-in-7 : goal.returns-in-7
unfolding nodes_per row
returns-in-7 c = listed c.in-7.is refl refl

pub returns-in-8 : goal.returns-in-8
unfolding nodes_per row
returns-in-8 c = listed c.in-8.is refl refl

pub returns-in-9 : goal.returns-in-9
unfolding nodes_per row
returns-in-9 c = listed c.in-9.is refl refl

pub returns-in-10 : goal.returns-in-10
unfolding nodes_per row
returns-in-10 c = listed c.in-10.is refl refl

pub returns-in-11 : goal.returns-in-11
unfolding nodes_per row
returns-in-11 c = listed c.in-11.is refl refl

pub returns-in-12 : goal.returns-in-12
unfolding nodes_per row
returns-in-12 c = listed c.in-12.is refl refl

pub returns-in-13 : goal.returns-in-13
unfolding nodes_per row
returns-in-13 c = listed c.in-13.is refl refl

pub returns-in-14 : goal.returns-in-14
unfolding nodes_per row
returns-in-14 c = listed c.in-14.is refl refl

pub returns-in-15 : goal.returns-in-15
unfolding nodes_per row
returns-in-15 c = listed c.in-15.is refl refl

pub returns-in-16 : goal.returns-in-16
unfolding nodes_per row
returns-in-16 c = listed c.in-16.is refl refl

pub returns-in-17 : goal.returns-in-17
unfolding nodes_per row
returns-in-17 c = listed c.in-17.is refl refl

pub returns-in-18 : goal.returns-in-18
unfolding nodes_per row
returns-in-18 c = listed c.in-18.is refl refl

pub returns-in-19 : goal.returns-in-19
unfolding nodes_per row
returns-in-19 c = listed c.in-19.is refl refl

pub returns-in-21 : goal.returns-in-21
unfolding nodes_per row
returns-in-21 c = listed c.in-21.is refl refl

pub returns-in_default : goal.returns-in_default
unfolding nodes_per row
returns-in_default c = omega (arith, unlisted _ c.in_default.in_default-own.rest)
