-- Each field is read at the entry's place and its own.
use mathlib.Core.Path.{refl}
use native.Mathlib.Omega.{arith}
use Rattle.model.specs.Reads.{section_at}
use Rattle.entries.proofs.section_at.Goals as goal

pub returns : goal.returns
unfolding section_at
returns c = refl

pub overflow_mul-i : goal.overflow_mul-i
overflow_mul-i c = omega arith

pub offset_bounds-entries-i : goal.offset_bounds-entries-i
offset_bounds-entries-i c = omega arith

pub bounds-entries-i : goal.bounds-entries-i
bounds-entries-i c = omega arith

pub overflow_add-result : goal.overflow_add-result
overflow_add-result c = omega arith

pub offset_bounds-entries-i-2 : goal.offset_bounds-entries-i-2
offset_bounds-entries-i-2 c = omega arith

pub bounds-entries-i-2 : goal.bounds-entries-i-2
bounds-entries-i-2 c = omega arith

pub overflow_add-result-2 : goal.overflow_add-result-2
overflow_add-result-2 c = omega arith

pub offset_bounds-entries-i-3 : goal.offset_bounds-entries-i-3
offset_bounds-entries-i-3 c = omega arith

pub bounds-entries-i-3 : goal.bounds-entries-i-3
bounds-entries-i-3 c = omega arith

pub overflow_add-result-3 : goal.overflow_add-result-3
overflow_add-result-3 c = omega arith

pub offset_bounds-entries-i-4 : goal.offset_bounds-entries-i-4
offset_bounds-entries-i-4 c = omega arith

pub bounds-entries-i-4 : goal.bounds-entries-i-4
bounds-entries-i-4 c = omega arith

pub overflow_add-result-4 : goal.overflow_add-result-4
overflow_add-result-4 c = omega arith

pub offset_bounds-entries-i-5 : goal.offset_bounds-entries-i-5
offset_bounds-entries-i-5 c = omega arith

pub bounds-entries-i-5 : goal.bounds-entries-i-5
bounds-entries-i-5 c = omega arith

pub overflow_add-result-5 : goal.overflow_add-result-5
overflow_add-result-5 c = omega arith

pub offset_bounds-entries-i-6 : goal.offset_bounds-entries-i-6
offset_bounds-entries-i-6 c = omega arith

pub bounds-entries-i-6 : goal.bounds-entries-i-6
bounds-entries-i-6 c = omega arith

pub overflow_add-result-6 : goal.overflow_add-result-6
overflow_add-result-6 c = omega arith

pub offset_bounds-entries-i-7 : goal.offset_bounds-entries-i-7
offset_bounds-entries-i-7 c = omega arith

pub bounds-entries-i-7 : goal.bounds-entries-i-7
bounds-entries-i-7 c = omega arith

pub overflow_add-result-7 : goal.overflow_add-result-7
overflow_add-result-7 c = omega arith

pub offset_bounds-entries-i-8 : goal.offset_bounds-entries-i-8
offset_bounds-entries-i-8 c = omega arith

pub bounds-entries-i-8 : goal.bounds-entries-i-8
bounds-entries-i-8 c = omega arith

pub overflow_add-result-8 : goal.overflow_add-result-8
overflow_add-result-8 c = omega arith

pub offset_bounds-entries-i-9 : goal.offset_bounds-entries-i-9
offset_bounds-entries-i-9 c = omega arith

pub bounds-entries-i-9 : goal.bounds-entries-i-9
bounds-entries-i-9 c = omega arith

pub overflow_add-result-9 : goal.overflow_add-result-9
overflow_add-result-9 c = omega arith

pub offset_bounds-entries-i-10 : goal.offset_bounds-entries-i-10
offset_bounds-entries-i-10 c = omega arith

pub bounds-entries-i-10 : goal.bounds-entries-i-10
bounds-entries-i-10 c = omega arith

pub overflow_add-result-10 : goal.overflow_add-result-10
overflow_add-result-10 c = omega arith

pub offset_bounds-entries-i-11 : goal.offset_bounds-entries-i-11
offset_bounds-entries-i-11 c = omega arith

pub bounds-entries-i-11 : goal.bounds-entries-i-11
bounds-entries-i-11 c = omega arith
