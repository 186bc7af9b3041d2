-- A name that no class has means none.
use Rattle.std.proofs.Common.{◌≡◌, ◌∙◌, ℕ, suc, ◌+◌, List, [], ◌∷◌, ◌++◌, drop, map, slice_get, Some, None}
use Rattle.std.proofs.Common.{refl}
use Rattle.std.proofs.Common.{sym, ap, append_assoc, arith}
use Rattle.std.specs.List.{find, position}
use Rattle.std.specs.Option.{option_map}
use Rattle.std.proofs.Math.Seq.{drop-cons}
use Rattle.std.proofs.lemmas.Option.{get_or_from_slice_get, slice_get_within}
use Rattle.jv_base.specs.Names.{is_text}
use Rattle.jv_base.proofs.Equality.{text_Decides, text_sym}
use Rattle.class_model.specs.declared.class.Class.{Class}
use Rattle.lib_table.specs.Library.{LibraryClass, library}
use Rattle.lib_table.specs.Lookups as table
use Rattle.class_pool.specs.Hierarchy.{class_named, or_found}
use Rattle.class_pool.specs.declared.id.ClassId.TheVariants.{Lib}
use Rattle.set_meanings.specs.bodies.AllNames.{all_names}
use Rattle.set_meanings.proofs.Searching.{found_passes, none_at, none_first, none_last, none_mapped}

pub found_alike : (classes : List Class) (names : List (List ℕ)) (text name : List ℕ)
    → find (λ x. is_text x text) names ≡ Some name → class_named classes name ≡ class_named classes text
found_alike classes names text name e =
    ap (class_named classes) ((text_Decides name text).0 (found_passes (λ x. is_text x text) names name e))

pub none_named : (classes : List Class) (text : List ℕ) → find (λ x. is_text x text) (all_names classes) ≡ None
    → class_named classes text ≡ None
none_named classes text e =
    ap (λ o. or_found o (option_map Lib (table.class_named text))) in_set ∙ ap (option_map Lib) in_library
  where
    in_library : table.class_named text ≡ None
    in_library =
        none_at (λ (c : LibraryClass). is_text c.name text) library
        (none_mapped (λ (x : List ℕ). is_text x text) (λ (c : LibraryClass). is_text c.name text)
        (λ (c : LibraryClass). c.name) (λ c. refl) library
        (none_first (λ (x : List ℕ). is_text x text) (map (λ (c : LibraryClass). c.name) library)
        (map (λ (c : Class). c.name) classes) e))

    in_set : position (λ c. is_text text c.name) classes ≡ None
    in_set =
        none_at (λ (c : Class). is_text text c.name) classes
        (none_mapped (λ (x : List ℕ). is_text x text) (λ (c : Class). is_text text c.name) (λ (c : Class). c.name)
        (λ c. text_sym text c.name) classes
        (none_last (λ (x : List ℕ). is_text x text) (map (λ (c : LibraryClass). c.name) library)
        (map (λ (c : Class). c.name) classes) e))

-- one more name
pub names_on : (classes : List Class) (i : ℕ) (c : Class) (old new : List (List ℕ)) (name : List ℕ)
    (due : List (List ℕ)) → slice_get classes i ≡ Some c → name ≡ c.name → new ≡ old ++ name ∷ []
    → old ++ map (λ (d : Class). d.name) (drop i classes) ≡ due
    → new ++ map (λ (d : Class). d.name) (drop (i + 1) classes) ≡ due
names_on classes i c old new name due is same put before =
    ap (λ (ns : List (List ℕ)). ns ++ map (λ (d : Class). d.name) (drop (i + 1) classes)) put
    ∙ append_assoc old (name ∷ []) (map (λ (d : Class). d.name) (drop (i + 1) classes))
    ∙ ap (λ (n : List ℕ). old ++ n ∷ map (λ (d : Class). d.name) (drop (i + 1) classes)) same
    ∙ ap (λ (cs : List Class). old ++ map (λ (d : Class). d.name) cs) (sym dropped)
    ∙ before
  where
    dropped : drop i classes ≡ c ∷ drop (i + 1) classes
    dropped =
        let next : suc i ≡ i + 1 = omega arith in
        drop-cons classes i c (slice_get_within classes i c is)
        ∙ ap (λ (d : Class). d ∷ drop (suc i) classes) (get_or_from_slice_get classes i c c is)
        ∙ ap (λ (k : ℕ). c ∷ drop k classes) next
