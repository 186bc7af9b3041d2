-- What tables of new names are while names are given (only the proof of new_names needs it).
use Rattle.std.specs.Prelude.{◌≡◌, ℕ, ◌+◌, Bool, List, [], ◌∷◌, ◌++◌, map, Option}
use Rattle.std.specs.Map.{keys_of, lookup}
use Rattle.jv_base.specs.Names.{is_text}
use Rattle.class_rename.specs.Names.{MethodName, or_else}
use Rattle.fresh_names.specs.Fresh.{given, is_taken, next_free}
use Rattle.fresh_names.specs.Given.{NameTable, applied, front_of, if_in_package, news_of, of_type, olds, stays_for}
use Rattle.fresh_names.specs.Given.{table_given}
use Rattle.fresh_names.specs.declared.stays.Stays.{Stays}
use Rattle.fresh_names.specs.declared.stays.Stays.TheVariants as stay
use Rattle.fresh_names.specs.declared.taken.Named.{Named}
use Rattle.fresh_names.specs.declared.taken.Named.TheVariants as named

-- ---- groups: each class, field or method has a name, and the front of its package, nothing, or its descriptor

-- the group of a class or a field
abbrev pub group_of : Named → List ℕ → List ℕ
group_of named.Class name = front_of name
group_of _ name = []

-- a class or a field with its group
abbrev pub name_in_group : Named → List ℕ → MethodName
name_in_group what name = (name, group_of what name)

-- what an earlier mapping gives in a group: to a class none of another package
abbrev pub told_in : Named → List ℕ → Option (List ℕ) → Option (List ℕ)
told_in named.Class group new = if_in_package group new
told_in _ group new = new

-- what stays in a group
abbrev pub stays_in : Stays → List ℕ → List (List ℕ)
stays_in (stay.Classes names) group = names.now
stays_in (stay.Fields names) group = names.now
stays_in (stay.Methods fixed) group = stays_for fixed.now group

-- what is named
abbrev pub what_stays : Stays → Named
what_stays (stay.Classes names) = named.Class
what_stays (stay.Fields names) = named.Field
what_stays (stay.Methods fixed) = named.Method

-- what its new names begin with
abbrev pub front_in : Stays → List ℕ → List ℕ
front_in (stay.Classes names) group = group
front_in _ group = []

-- the number behind that of the last name which was given
unfoldable pub after : List ℕ → List (List ℕ) → ℕ → List (List ℕ) → ℕ
after front taken n [] = n
after front taken n (old ∷ olds) = after front taken (next_free front taken n + 1) olds

-- the number that is kept for a group
abbrev pub number_of : List (List ℕ × ℕ) → List ℕ → ℕ
number_of next group = or_else (lookup (is_text group) next) 0

-- the names of a group among keys
abbrev pub in_group : {K : Type 0} → (K → MethodName) → List ℕ → List K → List (List ℕ)
in_group pair group keys = of_type group (map pair keys)

-- what those of a group get from an earlier mapping, by their group and name
abbrev pub first : {K : Type 0} → (K → MethodName) → (List ℕ → List ℕ → Option (List ℕ)) → (List ℕ → List (List ℕ))
    → List ℕ → List K → NameTable
first pair told stays group keys = applied (told group) (stays group) (in_group pair group keys)

module _ {K : Type 0} (same : K → K → Bool) (pair : K → MethodName) (told : List ℕ → List ℕ → Option (List ℕ))
    (stays : List ℕ → List (List ℕ)) where
  -- the table has what the keys so far get from the earlier mapping, and beside it stand these new names by groups
  pub record IsApplied (done : List K) (table : List (K × List ℕ)) (news : List MethodName) : Type 0 where
    pub found : (k : K) → lookup (same k) table ≡ lookup (is_text (pair k).0) (first pair told stays (pair k).1 done)
    pub taken : (group name : List ℕ)
        → is_taken (of_type group news) name ≡ is_taken (news_of (first pair told stays group done)) name

-- a table of the earlier mapping tells so, by groups and names
abbrev pub TellsSo : {K : Type 0} → (K → K → Bool) → (K → MethodName) → Named → List (K × List ℕ)
    → (List ℕ → List ℕ → Option (List ℕ)) → Type 0
TellsSo {K} same pair what table told =
    (k : K) → told_in what (pair k).1 (lookup (same k) table) ≡ told (pair k).1 (pair k).0

-- these are the new names, by groups, that keys get from an earlier mapping
abbrev pub HasNews : {K : Type 0} → (K → MethodName) → (List ℕ → List ℕ → Option (List ℕ)) → (List ℕ → List (List ℕ))
    → List K → List MethodName → Type 0
HasNews pair told stays keys news = (group name : List ℕ)
    → is_taken (of_type group news) name ≡ is_taken (news_of (first pair told stays group keys)) name

-- ---- fresh names

module _ {K : Type 0} (pair : K → MethodName) (told : List ℕ → List ℕ → Option (List ℕ))
    (stays : List ℕ → List (List ℕ)) (keys : List K) where
  -- what no name of a group is given
  abbrev pub skipped : List ℕ → List (List ℕ)
  skipped group = stays group ++ news_of (first pair told stays group keys)

  -- those of a group that get fresh names
  abbrev pub others : List ℕ → List K → List (List ℕ)
  others group done = olds (stays group ++ keys_of (first pair told stays group keys)) (in_group pair group done)

  -- what a group has when some keys have got fresh names
  abbrev pub table_so_far : (List ℕ → List ℕ) → List K → List ℕ → NameTable
  table_so_far front done group =
      first pair told stays group keys ++ given (front group) (skipped group) 0 (others group done)

module _ {K : Type 0} (same : K → K → Bool) (pair : K → MethodName) (told : List ℕ → List ℕ → Option (List ℕ))
    (stays : List ℕ → List (List ℕ)) (front : List ℕ → List ℕ) (keys : List K) where
  -- the table has that of all keys, and fresh names of the keys so far; and each group has its next number
  pub record IsGiven (done : List K) (table : List (K × List ℕ)) (next : List (List ℕ × ℕ)) : Type 0 where
    pub found : (k : K) → lookup (same k) table
        ≡ lookup (is_text (pair k).0) (table_so_far pair told stays keys front done (pair k).1)
    pub counted : (group : List ℕ) → number_of next group
        ≡ after (front group) (skipped pair told stays keys group) 0 (others pair told stays keys group done)

  -- the table has the new names of all keys
  abbrev pub HasAll : List (K × List ℕ) → Type 0
  HasAll table = (k : K) → lookup (same k) table ≡ lookup (is_text (pair k).0)
      (table_given (told (pair k).1) (stays (pair k).1) (front (pair k).1) (in_group pair (pair k).1 keys))
