-- What tables of lines that were gone over have (only the proofs of bodies need it).
use Rattle.std.specs.Prelude.{◌≡◌, ℕ, Bool, List, map}
use Rattle.std.specs.List.{list_any}
use Rattle.std.specs.Map.{lookup}
use Rattle.jv_base.specs.Names.{is_text}
use Rattle.new_names.specs.NewNames.{NameAndType, is_same}
use Rattle.pair_clauses.specs.declared.seen.SeenMembers.{SeenMembers}
use Rattle.pair_clauses.specs.declared.seen.SeenMethodPairs.{SeenMethodPairs}
use Rattle.pair_clauses.specs.declared.seen.SeenNames.{SeenNames}
use Rattle.pair_clauses.specs.declared.seen.SeenPairs.{SeenPairs}

-- these names and no others
abbrev pub HasNames : SeenNames → List (List ℕ) → Type 0
HasNames seen names =
    (name : List ℕ) → list_any (is_text name) seen.names ≡ list_any (λ there. is_text there name) names

-- these members and no others
abbrev pub HasMembers : SeenMembers → List NameAndType → Type 0
HasMembers seen members =
    (key : NameAndType) → list_any (is_same key) seen.members ≡ list_any (λ there. is_same there key) members

-- two tables tell the first of these pairs with an old one, and the first with a new one
pub record TellsBoth {K : Type 0} (same : K → K → Bool) (old_table new_table pairs : List (K × K)) : Type 0 where
  pub by_old : (one : K) → lookup (same one) old_table ≡ lookup (λ old. same old one) pairs
  pub by_new : (one : K) → lookup (same one) new_table
      ≡ lookup (λ new. same new one) (map (λ (p : K × K). (p.1, p.0)) pairs)

-- so of names
abbrev pub TellsPairs : SeenPairs → List (List ℕ × List ℕ) → Type 0
TellsPairs seen pairs = TellsBoth is_text seen.by_old seen.by_new pairs

-- so of names with descriptors
abbrev pub TellsMethods : SeenMethodPairs → List (NameAndType × NameAndType) → Type 0
TellsMethods seen pairs = TellsBoth is_same seen.by_old seen.by_new pairs
