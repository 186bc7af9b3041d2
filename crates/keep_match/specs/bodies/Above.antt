-- Supertypes whose names are matched, as they are met in a walk (only the proof of class_matches needs it).
use Rattle.std.specs.Prelude.{◌≡◌, ℕ, Bool, not, ◌&&◌, ◌||◌, List, Option, None, IfSome, slice_index_or}
use Rattle.std.specs.List.{list_any}
use Rattle.class_model.specs.declared.class.Class.{Class}
use Rattle.class_pool.specs.declared.id.ClassId.{ClassId}
use Rattle.class_pool.specs.declared.id.ClassId.TheVariants.{Prog}
use Rattle.class_pool.specs.Found.{name_of}
use Rattle.class_pool.specs.Walk.{own_superinterfaces, same_class}
use Rattle.keep_match.specs.Matches.{is_above_met, matches_class_name}

-- the class is another one than that of the number, and its name is matched (only the proof of class_matches needs it)
abbrev pub is_other_met : List ℕ → List Class → ℕ → ClassId → Bool
is_other_met pattern classes n c = not (same_class c (Prog n)) && matches_class_name pattern (name_of classes c)

-- the same of it or one of its own superinterfaces (only the proof of class_matches needs it)
abbrev pub is_met_at : List ℕ → List Class → ℕ → ClassId → Bool
is_met_at pattern classes n c = is_other_met pattern classes n c
    || list_any (is_other_met pattern classes n) (own_superinterfaces classes c)

-- what is known of the class of a number (only the proof of class_matches needs it)
abbrev pub known_at : List (Option Bool) → ℕ → Option Bool
known_at known n = slice_index_or known n None

-- what is known of classes is right (only the proof of class_matches needs it)
abbrev pub AreKnown : Option (List ℕ) → List Class → List (Option Bool) → Type 0
AreKnown above classes known = (n : ℕ) → IfSome (known_at known n) (λ b. b ≡ is_above_met above classes n)
