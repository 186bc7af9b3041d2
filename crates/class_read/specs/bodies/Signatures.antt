-- The signatures of the members before one (only the proof of read_class needs it).
use Rattle.std.specs.Prelude.{◌≡◌, ℕ, Bool, ◌&&◌, List, [], ◌∷◌, ◌++◌, length, nat_eq, nat_le, if◌then◌else◌}
use Rattle.std.specs.List.{list_any}
use Rattle.jv_base.specs.Names.{is_text}
use Rattle.jv_base.specs.Tail.{tail}
use Rattle.class_model.specs.ReadingMembers.{Signature, same_signature}

-- the last one first
abbrev pub newest_first : {A : Type 0} → List A → List A
newest_first [] = []
newest_first (x ∷ xs) = newest_first xs ++ x ∷ []

-- the lengths of two texts, and their tails
abbrev pub Marks : Type 0
Marks = ℕ × ℕ × ℕ × ℕ

-- the marks of a name and a descriptor, then the shorter of the two and the longer one
abbrev pub SignatureKey : Type 0
SignatureKey = Marks × List ℕ × List ℕ

abbrev pub marks_of : Signature → Marks
marks_of s = (length s.0, length s.1, tail s.0, tail s.1)

abbrev pub key_of : Signature → SignatureKey
key_of s = if nat_le (length s.0) (length s.1) then (marks_of s, s.0, s.1) else (marks_of s, s.1, s.0)

abbrev pub signature_of : SignatureKey → Signature
signature_of k = if nat_le k.0.0 k.0.1 then (k.1, k.2) else (k.2, k.1)

abbrev pub same_marks : Marks → Marks → Bool
same_marks one other = ((nat_eq one.0 other.0 && nat_eq one.1 other.1) && nat_eq one.2 other.2) && nat_eq one.3 other.3

abbrev pub same_key : SignatureKey → SignatureKey → Bool
same_key one other = (same_marks one.0 other.0 && is_text one.1 other.1) && is_text one.2 other.2

-- the keys are those of the signatures
abbrev pub Knows : List Signature → List SignatureKey → Type 0
Knows before keys = (s : Signature) → list_any (same_key (key_of s)) keys ≡ list_any (same_signature s) before
