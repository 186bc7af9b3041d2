-- Fields that were set, as a function of all fields (JVMS 2.3, 2.4).
use Rattle.std.specs.Prelude.{◌≡◌, ℕ, ◌<◌, List, [], ◌∷◌, ◌++◌, length, Option, Some, None, get_or}
use Rattle.std.specs.Prelude.{slice_set, Bool, if◌then◌else◌}
use Rattle.jvm_model.specs.Fields.{blank}
use Rattle.jvm_model.specs.Value.{Key, Value, same_key}
use Rattle.run_heap.specs.declared.fields.Held.{Held}
use Rattle.run_heap.specs.declared.key.MemberNames.{MemberNames}

-- the member that has these names
abbrev pub key_of : MemberNames → Key
key_of n = record { class = n.class; name = n.name; descriptor = n.descriptor }

-- two are one
abbrev pub same_names : MemberNames → MemberNames → Bool
same_names a b = same_key (key_of a) (key_of b)

-- a static field by its names, and its value
abbrev pub held_at : MemberNames × Value → Held
held_at e = record { key = key_of e.0; value = e.1 }

-- the value of a field that was set
abbrev pub found_in : Key → List Held → Option Value
found_in key [] = None
found_in key (h ∷ hs) = if same_key key h.key then Some h.value else found_in key hs

-- the value of each field: that of the first that is it, else the default value
abbrev pub held : List Held → Key → Value
held [] key = blank key
held (h ∷ hs) key = if same_key key h.key then h.value else held hs key

-- the fields with another value of one of them (only the proof of the bodies needs it)
abbrev pub replaced : Key → Value → List Held → List Held
replaced key v [] = record { key = key; value = v } ∷ []
replaced key v (h ∷ hs) =
    if same_key key h.key then record h { value = v } ∷ hs else h ∷ replaced key v hs

-- where another value of a field has to stand, or that it has no place yet (only the proof of the bodies needs it)
abbrev pub IsPlace : Option ℕ → Key → List Held → Type 0
IsPlace (Some n) key hs =
    (n < length hs) × ((v : Value) (h : Held) → h ≡ get_or hs n h
    → replaced key v hs ≡ slice_set hs n (record h { value = v }))
IsPlace None key hs = (v : Value) → replaced key v hs ≡ hs ++ record { key = key; value = v } ∷ []
