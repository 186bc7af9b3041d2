-- The members of a program class by their names and descriptors, numbered as the class has them: fields first, then
-- methods (JVMS 4.5, 4.6; only the proof of ClassSet needs it).
use Rattle.std.specs.Prelude.{◌≡◌, ◌<◌, ◌≤◌, ℕ, ◌+◌, ◌-◌, Bool, true, false, List, [], length, nat_lt, slice_get}
use Rattle.std.specs.Prelude.{slice_index_or, ◌&&◌, Option, Some, None, if◌then◌else◌}
use Rattle.std.specs.Cmp.Lexicographic.{slice_cmp}
use Rattle.std.specs.List.{All, Contains}
use Rattle.std.specs.List.Sorted.{IsSorted}
use Rattle.std.specs.Option.{option_and_then, option_map_or}
use Rattle.std.specs.Ordering.{is_lt, nat_cmp, ordering_then}
use Rattle.std.specs.declared.cmp.Ordering.{Ordering}
use Rattle.jv_base.specs.Names.{is_text}
use Rattle.jv_base.specs.Types.{field_text, method_text}
use Rattle.class_model.specs.declared.class.Class.{Class}
use Rattle.class_pool.specs.declared.set.members.MemberIndex.{MemberIndex}

-- the name and the descriptor of the member with the number n (JVMS 4.4.6)
abbrev pub named_in : Class → ℕ → List ℕ × List ℕ
named_in c n =
    if nat_lt n (length c.fields) then option_map_or (λ f. (f.name, field_text f.ty)) (slice_get c.fields n) ([], [])
    else option_map_or (λ m. (m.name, method_text m.ty)) (slice_get c.methods (n - length c.fields)) ([], [])

-- a name, a descriptor and a number (only the proof of the look-up needs it)
abbrev pub Key : Type 0
Key = List ℕ × (List ℕ × ℕ)

-- by name, then by descriptor, then by number (only the proof of the look-up needs it)
abbrev pub key_cmp : Key → Key → Ordering
key_cmp x y =
    ordering_then (slice_cmp nat_cmp x.0 y.0)
    (ordering_then (slice_cmp nat_cmp x.1.0 y.1.0) (nat_cmp x.1.1 y.1.1))

-- the key of a member (only the proof of the look-up needs it)
abbrev pub key_of : Class → ℕ → Key
key_of c n = ((named_in c n).0, ((named_in c n).1, n))

-- the keys of the first n members, in some order (only the proof of the look-up needs it)
pub record HasKeys (c : Class) (n : ℕ) (keys : List Key) : Type 0 where
  pub all : (k : ℕ) → k < n → Contains keys (key_of c k)
  pub only : All (λ key. (key.1.1 < n) × (key ≡ key_of c key.1.1)) keys

-- the index has each member, in the order of their keys (only the proof of the look-up needs it)
pub record IsIndexOf (c : Class) (index : MemberIndex) : Type 0 where
  pub keys : HasKeys c (length c.fields + length c.methods) index.keys.items
  pub sorted : IsSorted key_cmp index.keys.items

-- a key stands before all keys of a name and a descriptor (only the proof of the look-up needs it)
abbrev pub is_before : List ℕ → List ℕ → Key → Bool
is_before name descriptor key = is_lt (key_cmp key (name, (descriptor, 0)))

-- just the keys before a place stand before those of a name and a descriptor (only the proof of the look-up needs it)
pub record IsPlace (keys : List Key) (name descriptor : List ℕ) (low high : ℕ) : Type 0 where
  pub within : high ≤ length keys
  pub before : (p : ℕ) (d : Key) → p < low → is_before name descriptor (slice_index_or keys p d) ≡ true
  pub behind : (p : ℕ) (d : Key) → high ≤ p → p < length keys
      → is_before name descriptor (slice_index_or keys p d) ≡ false

-- the number of the key at a place, where it has a name and a descriptor (only the proof of the look-up needs it)
abbrev pub number_at : List Key → ℕ → List ℕ → List ℕ → Option ℕ
number_at keys place name descriptor =
    option_and_then (λ key. if is_text key.0 name && is_text key.1.0 descriptor then Some key.1.1 else None)
    (slice_get keys place)
