-- Each arm has its data type's width.
use mathlib.Core.Path.{refl}
use native.Mathlib.Omega.{arith}
use lib.ListN.{get_or}
use Prim.Native.Nat.{ℕ}
use Rattle.model.specs.Image.{widths}
use Rattle.model.proofs.Logic.{listed, last_arm}
use Rattle.records.proofs.data_types.width_of.Goals as goal

abbrev width_of : ℕ → ℕ
width_of d = get_or widths d 0

pub returns-in-0 : goal.returns-in-0
unfolding widths
returns-in-0 c = listed width_of 16 c.in-0.is refl refl

pub returns-in-1 : goal.returns-in-1
unfolding widths
returns-in-1 c = listed width_of 16 c.in-1.is refl refl

pub returns-in-2 : goal.returns-in-2
unfolding widths
returns-in-2 c = listed width_of 16 c.in-2.is refl refl

pub returns-in-3 : goal.returns-in-3
unfolding widths
returns-in-3 c = listed width_of 16 c.in-3.is refl refl

pub returns-in-4 : goal.returns-in-4
unfolding widths
returns-in-4 c = listed width_of 16 c.in-4.is refl refl

pub returns-in-5 : goal.returns-in-5
unfolding widths
returns-in-5 c = listed width_of 16 c.in-5.is refl refl

pub returns-in-6 : goal.returns-in-6
unfolding widths
returns-in-6 c = listed width_of 16 c.in-6.is refl refl

pub returns-in-7 : goal.returns-in-7
unfolding widths
returns-in-7 c = listed width_of 16 c.in-7.is refl refl

pub returns-in-8 : goal.returns-in-8
unfolding widths
returns-in-8 c = listed width_of 16 c.in-8.is refl refl

pub returns-in-9 : goal.returns-in-9
unfolding widths
returns-in-9 c = listed width_of 16 c.in-9.is refl refl

pub returns-in-10 : goal.returns-in-10
unfolding widths
returns-in-10 c = listed width_of 16 c.in-10.is refl refl

pub returns-in_default : goal.returns-in_default
unfolding widths
returns-in_default c = listed width_of 16 (last_arm 11 _ c.in_default.in_default-own.rest (omega arith)) refl refl
