-- Names that are taken in any case.
use Rattle.std.proofs.Common.{◌≡◌, ℕ, Bool, true, false, cond, ◌&&◌, ◌||◌, List, [], ◌∷◌, ◌++◌, map, filter, flat_map}
use Rattle.std.proofs.Common.{refl, sym, ap, ◌∙◌}
use Rattle.std.specs.Bool.{beq}
use Rattle.std.specs.List.{list_any}
use Rattle.std.proofs.Math.Bool.{or_assoc}
use Rattle.jv_base.specs.Names.{is_text}
use Rattle.jv_base.proofs.Equality.{text_sym}
use Rattle.lib_table.specs.Library.{LibraryClass, LibraryMember, library}
use Rattle.lib_table.specs.Lookups.{is_named}
use Rattle.fresh_names.specs.Fresh.{is_taken}
use Rattle.fresh_names.specs.Reserved.{library_names}

-- a name is in two lists behind each other where it is in one of them
pub taken_parts : (xs ys : List (List ℕ)) (a : List ℕ) → is_taken (xs ++ ys) a ≡ (is_taken xs a || is_taken ys a)
taken_parts [] ys a = refl
taken_parts (x ∷ xs) ys a = ap (λ (b : Bool). is_text a x || b) (taken_parts xs ys a)
    ∙ sym (or_assoc (is_text a x) (is_taken xs a) (is_taken ys a))

in_class : (method : Bool) (a : List ℕ) (ms : List LibraryMember)
    → is_taken (map (λ (m : LibraryMember). m.name) (filter (λ m. beq m.is_method method) ms)) a
    ≡ list_any (λ m. beq m.is_method method && is_text m.name a) ms
in_class method a [] = refl
in_class method a (m ∷ ms) = on (beq m.is_method method) (in_class method a ms)
  where
    on : (b : Bool) → is_taken (map (λ (m : LibraryMember). m.name) (filter (λ m. beq m.is_method method) ms)) a
        ≡ list_any (λ m. beq m.is_method method && is_text m.name a) ms
        → is_taken (map (λ (m : LibraryMember). m.name)
        (cond b (m ∷ filter (λ m. beq m.is_method method) ms) (filter (λ m. beq m.is_method method) ms))) a
        ≡ ((b && is_text m.name a) || list_any (λ m. beq m.is_method method && is_text m.name a) ms)
    on true rest = (λ i. text_sym a m.name i || rest i)
    on false rest = rest

in_classes : (method : Bool) (a : List ℕ) (cs : List LibraryClass)
    → is_taken (flat_map
    (λ (c : LibraryClass). map (λ (m : LibraryMember). m.name)
    (filter (λ m. beq m.is_method method) c.members)) cs) a
    ≡ list_any (λ (c : LibraryClass). list_any (λ m. beq m.is_method method && is_text m.name a) c.members) cs
in_classes method a [] = refl
in_classes method a (c ∷ cs) =
    taken_parts (map (λ (m : LibraryMember). m.name) (filter (λ m. beq m.is_method method) c.members))
    (flat_map (λ (c : LibraryClass). map (λ (m : LibraryMember). m.name)
    (filter (λ m. beq m.is_method method) c.members)) cs) a
    ∙ (λ i. in_class method a c.members i || in_classes method a cs i)

pub library_named : (method : Bool) (a : List ℕ) → is_taken (library_names method) a ≡ is_named a method
unfolding library_names
library_named method a = in_classes method a library
