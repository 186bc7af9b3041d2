-- The member specifications of a rule by the names that they are for (only the proof of seeds_of needs it).
use Rattle.std.specs.Prelude.{◌≡◌, ◌<◌, ◌⊎◌, ℕ, Bool, true, false, ◌||◌, List, [], ◌∷◌, ◌++◌, length, nat_lt}
use Rattle.std.specs.Prelude.{Some, slice_get, slice_index_or, slice_set, if◌then◌else◌}
use Rattle.std.specs.List.{list_any, position}
use Rattle.std.specs.Option.{is_some, option_map_or}
use Rattle.std.specs.Str.{IsUtf8, chars}
use Rattle.jv_base.specs.Names.{is_text}
use Rattle.keep_rules.specs.declared.rules.MemberSpec.{MemberSpec}
use Rattle.keep_match.specs.declared.member_table.MemberTable.{MemberTable}
use Rattle.keep_match.specs.bodies.Marks.{is_wildcard}

-- a specification has a type or parameters
abbrev pub has_form : MemberSpec → Bool
has_form spec = is_some spec.ty || is_some spec.args

-- it is for members of one name, which is the one that it has itself
pub record IsNamed (spec : MemberSpec) : Type 0 where
  pub form : has_form spec ≡ true
  pub free : list_any is_wildcard (chars spec.name) ≡ false
  pub text : IsUtf8 spec.name

-- the specification of a number, if there is one, passes a test
abbrev pub passes_at : (MemberSpec → Bool) → List MemberSpec → ℕ → Bool
passes_at test specs number = option_map_or test (slice_get specs number) false

-- a number stands in a list
abbrev pub IsListed : ℕ → List ℕ → Type 0
IsListed number numbers = (j : ℕ) × (slice_get numbers j ≡ Some number)

-- one more number in the group of a place
abbrev pub with_number : ℕ → ℕ → List (List ℕ) → List (List ℕ)
with_number place number groups =
    if nat_lt place (length groups) then slice_set groups place (slice_index_or groups place [] ++ number ∷ [])
    else groups

-- the group of a name
abbrev pub in_group : List ℕ → MemberTable → List ℕ
in_group name table =
    option_map_or (λ p. slice_index_or table.groups.items p []) (position (is_text name) table.names) []

-- a specification is found by its name
pub record IsInGroup (number : ℕ) (spec : MemberSpec) (table : MemberTable) : Type 0 where
  pub named : IsNamed spec
  pub place : ℕ
  pub is : position (is_text spec.name) table.names ≡ Some place
  pub listed : IsListed number (slice_index_or table.groups.items place [])

-- it is found by its name, or among those that are tried on each member
abbrev pub IsFound : ℕ → MemberSpec → MemberTable → Type 0
IsFound number spec table = IsListed number table.others.items ⊎ IsInGroup number spec table

-- one more specification is found, and each that was found before
pub record Adds (number : ℕ) (spec : MemberSpec) (old new : MemberTable) : Type 0 where
  pub found : IsFound number spec new
  pub stays : (k : ℕ) (other : MemberSpec) → IsFound k other old → IsFound k other new

-- of the first specifications each is found
abbrev pub AreFound : ℕ → List MemberSpec → MemberTable → Type 0
AreFound count specs table = (k : ℕ) (spec : MemberSpec) → k < count → slice_get specs k ≡ Some spec
    → IsFound k spec table

-- each specification is found
abbrev pub IsTable : List MemberSpec → MemberTable → Type 0
IsTable specs table = AreFound (length specs) specs table
