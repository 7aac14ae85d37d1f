-- What a call's `Result` tells, in the documents' numbers and values. Contracts go through these definitions.
use Rattle.std.specs.Prelude.{ℕ, ◌≡◌, Bool, true, false, ℤ, Result, Ok, Err}
use Rattle.std.specs.Int.{w64}
use Rattle.std.proofs.Common.{of_z}
use Rattle.std.specs.Float.{binary32, binary64}
use Rattle.std.specs.Float.Ieee.{is_nan, nan_bits, to_bits}
use Rattle.model.specs.declared.Table.{Table}
use Rattle.model.specs.declared.Validation.{Validation}
use Rattle.model.specs.declared.DataSize.{DataSize}
use Rattle.model.specs.declared.ArrayValue.{ArrayValue}
use Rattle.model.specs.declared.ParentPair.{ParentPair}
use Rattle.model.specs.declared.Rejection.{Rejection}
use Rattle.model.specs.Rules.{Answer, rejected, answer, rejection, Check, passed}
use Rattle.model.specs.Records.{TableCounts}
use Rattle.model.specs.Validation.{Counts}
use Rattle.model.specs.DataSize.{Sizes}
use Rattle.model.specs.ArrayValue.{Value, whole, single, double}
use Rattle.model.specs.ParentElements.{FaceParents}

-- a refusal or its values; each value is told by f
abbrev pub tells : {A B : Type 0} → (A → B) → Result A Rejection → Answer B
tells f (Ok x) = answer (f x)
tells f (Err r) = rejected r

abbrev pub stage_tells : Result (Unit {0}) Rejection → Check
stage_tells = tells (λ x. x)

abbrev pub table_tells : Result Table Rejection → Answer TableCounts
table_tells = tells (λ t. record { nodes = t.nodes; dimensions = t.dimensions; bytes = t.bytes })

abbrev pub validation_tells : Result Validation Rejection → Answer Counts
validation_tells = tells (λ v. record { validated = v.validated; skipped = v.skipped; zones = v.zones; sections = v.sections })

abbrev pub count_tells : Result ℕ Rejection → Answer ℕ
count_tells = tells (λ n. n)

abbrev pub data_size_tells : Result DataSize Rejection → Answer Sizes
data_size_tells = tells (λ d. record { directions = d.directions; i = d.i; j = d.j; k = d.k })

abbrev pub corner_tells : Result ℤ Rejection → Answer ℤ
corner_tells = tells (λ n. n)

-- a single and a double by their bits, a NaN's too
abbrev pub value_of : ArrayValue → Value
value_of (ArrayValue.Whole n) = whole n
value_of (ArrayValue.Single x) = single (to_bits binary32 x)
value_of (ArrayValue.Double x) = double (to_bits binary64 x)
value_of (ArrayValue.SingleNan bits) = single bits
value_of (ArrayValue.DoubleNan bits) = double bits

abbrev pub value_tells : Result ArrayValue Rejection → Answer Value
value_tells = tells value_of

-- the two NaN cases are for NaNs, and the others for no NaN
abbrev pub NanCase : ArrayValue → Type 0
NanCase (ArrayValue.Whole n) = Unit {0}
NanCase (ArrayValue.Single x) = is_nan x ≡ false
NanCase (ArrayValue.Double x) = is_nan x ≡ false
NanCase (ArrayValue.SingleNan bits) = nan_bits binary32 bits ≡ true
NanCase (ArrayValue.DoubleNan bits) = nan_bits binary64 bits ≡ true

abbrev pub NanCases : Result ArrayValue Rejection → Type 0
NanCases (Ok v) = NanCase v
NanCases (Err r) = Unit {0}

-- the bits of a value, a whole number's at 64 bits
abbrev pub bits_of_value : ArrayValue → ℕ
bits_of_value (ArrayValue.Whole n) = of_z w64 n
bits_of_value (ArrayValue.Single x) = to_bits binary32 x
bits_of_value (ArrayValue.Double x) = to_bits binary64 x
bits_of_value (ArrayValue.SingleNan bits) = bits
bits_of_value (ArrayValue.DoubleNan bits) = bits

-- 0 for a refusal
abbrev pub bits_of : Result ArrayValue Rejection → ℕ
bits_of (Ok v) = bits_of_value v
bits_of (Err r) = 0

abbrev pub usage_tells : Result ℕ Rejection → Answer ℕ
usage_tells = tells (λ n. n)

abbrev pub parents_tells : Result ParentPair Rejection → Answer FaceParents
parents_tells = tells (λ p. record { first = p.first; second = p.second })

abbrev pub agreement_tells : Result Bool Rejection → Answer Bool
agreement_tells = tells (λ y. y)
