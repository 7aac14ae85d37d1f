-- The numbers of roles and names: below 16 and 10, and each of one role.
use Prim.Native.Nat.{suc, ◌<◌}
use mathlib.Core.Path.{◌≡◌, refl, sym, ◌∙◌}
use mathlib.Core.Bool.{Bool}
use borrow.Author.Tests.{ne_eqb, lt-ltb}
use Rattle.std.specs.Option.{option_eq, is_some}
use native.Mathlib.Omega.{arith}
use lib.Dec.{eqb, ltb, eqb-suc-suc}
use Rattle.std.proofs.Common.{Option, None, Some, MatchOption}
use Rattle.labels.specs.Roles.{role_number, kind_number}
use Rattle.labels.specs.declared.roles.Role.{Role}
use Rattle.labels.specs.declared.roles.Role.TheVariants as a
use Rattle.labels.specs.Names.{name_number}
use Rattle.labels.specs.declared.names.Name.{Name}
use Rattle.labels.specs.declared.names.Name.TheVariants as known
use denote.Enum.Declared.{tag_of}
use denote.Enum.Bare.{tag_one}
use Rattle.labels.specs.contracts.roles.Role.{the_type}
use Rattle.labels.specs.contracts.names.Name.{the_type as name_type}

-- in the order of the variants
pub number_tag : (r : Role) → role_number r ≡ suc (tag_of the_type r)
number_tag a.LibraryVersion = refl
number_tag a.Base = refl
number_tag a.Zone = refl
number_tag a.ZoneType = refl
number_tag a.GridCoordinates = refl
number_tag a.FlowSolution = refl
number_tag a.Elements = refl
number_tag a.IndexRange = refl
number_tag a.Rind = refl
number_tag a.GridLocation = refl
number_tag a.DataArray = refl
number_tag a.Descriptor = refl
number_tag a.UserDefinedData = refl
number_tag a.IndexArray = refl
number_tag a.Root = refl

pub role_few : (r : Role) → (0 < role_number r) × (role_number r < 16)
role_few a.LibraryVersion = (omega arith, omega arith)
role_few a.Base = (omega arith, omega arith)
role_few a.Zone = (omega arith, omega arith)
role_few a.ZoneType = (omega arith, omega arith)
role_few a.GridCoordinates = (omega arith, omega arith)
role_few a.FlowSolution = (omega arith, omega arith)
role_few a.Elements = (omega arith, omega arith)
role_few a.IndexRange = (omega arith, omega arith)
role_few a.Rind = (omega arith, omega arith)
role_few a.GridLocation = (omega arith, omega arith)
role_few a.DataArray = (omega arith, omega arith)
role_few a.Descriptor = (omega arith, omega arith)
role_few a.UserDefinedData = (omega arith, omega arith)
role_few a.IndexArray = (omega arith, omega arith)
role_few a.Root = (omega arith, omega arith)

pub kind_few : (o : Option Role) → kind_number o < 16
kind_few None = omega arith
kind_few (Some r) = (role_few r).1

-- a number is of one role
pub one_role : (r s : Role) → role_number r ≡ role_number s → r ≡ s
one_role r s e = tag_one the_type tt r s (let p = number_tag r in let q = number_tag s in omega arith)

pub not_role : (r s : Role) → (r ≡ s → ⊥) → role_number r ≡ role_number s → ⊥
not_role r s n e = n (one_role r s e)

-- code compares two roles
pub same_role : (r s : Role) → eqb (tag_of the_type r) (tag_of the_type s) ≡ eqb (role_number r) (role_number s)
same_role r s = rw (number_tag r, number_tag s) (sym (eqb-suc-suc (tag_of the_type r) (tag_of the_type s)))

pub same_kind : {E : Role → Role → Bool} → ((r s : Role) → E r s ≡ eqb (tag_of the_type r) (tag_of the_type s)) → (o : Option Role) (r : Role)
    → option_eq E o (Some r) ≡ eqb (kind_number o) (role_number r)
same_kind e None r = sym (ne_eqb 0 (role_number r) (λ q. absurd (let f = role_few r in omega arith)))
same_kind e (Some s) r = e s r ∙ same_role s r

pub some_kind : (o : Option Role) → is_some o ≡ ltb 0 (kind_number o)
some_kind None = refl
some_kind (Some r) = sym (lt-ltb 0 (role_number r) (role_few r).0)

-- what an Option tells, in other words
pub turned : {A : Type 0} {P Q : Type 0} {F G : A → Type 0} (o : Option A) → MatchOption o P F → (P → Q) → ((x : A) → F x → G x) → MatchOption o Q G
turned None m f g = f m
turned (Some x) m f g = g x m

pub name_few : (n : Name) → name_number n < 10
name_few known.LibraryVersion = omega arith
name_few known.ZoneType = omega arith
name_few known.Rind = omega arith
name_few known.GridLocation = omega arith
name_few known.ElementRange = omega arith
name_few known.ElementConnectivity = omega arith
name_few known.ElementStartOffset = omega arith
name_few known.PointRange = omega arith
name_few known.PointList = omega arith
name_few known.ParentElements = omega arith

pub name_tag : (n : Name) → name_number n ≡ tag_of name_type n
name_tag known.LibraryVersion = refl
name_tag known.ZoneType = refl
name_tag known.Rind = refl
name_tag known.GridLocation = refl
name_tag known.ElementRange = refl
name_tag known.ElementConnectivity = refl
name_tag known.ElementStartOffset = refl
name_tag known.PointRange = refl
name_tag known.PointList = refl
name_tag known.ParentElements = refl
