-- What tables of entries have (only the proofs of bodies need it).
use Rattle.std.specs.Prelude.{◌≡◌, ℕ, Bool, ◌&&◌, List, map}
use Rattle.std.specs.Borrow.{Bor}
use Rattle.std.specs.List.{find, list_any}
use Rattle.std.specs.Map.{lookup}
use Rattle.std.specs.Option.{option_map}
use Rattle.jv_base.specs.Names.{is_text}
use Rattle.witness_file.specs.Witnesses.{is_method}
use Rattle.witness_file.specs.declared.witness.MethodWitness.{MethodWitness}

-- a method by its class, its name and its descriptor
abbrev pub MethodKey : Type 0
MethodKey = List ℕ × (List ℕ × List ℕ)

-- two are the same
abbrev pub is_same : MethodKey → MethodKey → Bool
is_same a b = is_text a.0 b.0 && (is_text a.1.0 b.1.0 && is_text a.1.1 b.1.1)

-- the method that an entry names
abbrev pub key_of : MethodWitness → MethodKey
key_of e = (e.class, (e.name, e.ty))

-- a table has the first of these entries that names a method
abbrev pub TellsEntries : List (MethodKey × Bor MethodWitness) → List MethodWitness → Type 0
TellsEntries table entries = (key : MethodKey)
    → option_map (λ e. e.now) (lookup (is_same key) table) ≡ find (is_method key.0 key.1.0 key.1.1) entries

-- the keys are those of the methods that these entries name
abbrev pub HasEntries : List MethodKey → List MethodWitness → Type 0
HasEntries keys entries = (key : MethodKey)
    → list_any (is_same key) keys ≡ list_any (λ there. is_same there key) (map key_of entries)
