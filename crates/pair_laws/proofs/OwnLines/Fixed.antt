-- New names of what is kept are as FixedName and Package ask: a name that stays has itself, no other gets such a name,
-- and packages stay.
use Rattle.std.proofs.Common.{◌≡◌, ◌⊎◌, inl, inr, ℕ, ◌+◌, ◌-◌, not, ◌||◌, Bool, true, false, cond, List, [], length, map}
use Rattle.std.proofs.Common.{Option, Some, None, take, slice_get, refl, sym, ap, ◌∙◌, arith}
use Rattle.std.specs.List.{suffix_len, zip}
use Rattle.std.specs.Map.{lookup}
use Rattle.std.specs.Option.{option_or}
use Rattle.std.proofs.lemmas.List.{length-take-le}
use Rattle.std.proofs.Math.Seq.{take-take}
use Rattle.jv_base.specs.Names.{is_text}
use Rattle.jv_base.specs.Types.{method_text}
use Rattle.jv_base.proofs.Equality.{text_itself}
use Rattle.class_model.specs.declared.class.Class.{Class}
use Rattle.class_pool.specs.Found.{package_of}
use Rattle.class_pool.specs.Items.{class_item}
use Rattle.keep_rules.specs.declared.rules.Rules.{Rules}
use Rattle.member_shrink.specs.Shrunk.{is_marked}
use Rattle.class_rename.specs.Names.{Names, Tables, is_same_method, same_names}
use Rattle.fresh_names.specs.Fresh.{fresh, is_taken}
use Rattle.fresh_names.specs.Given.{class_given, class_names, field_names, front_of, given_name, if_in_package, in_package}
use Rattle.fresh_names.specs.Given.{method_names, of_type, stays_for}
use Rattle.fresh_names.proofs.Fronts.{is_within}
use Rattle.fresh_names.proofs.Tables.{given_cases, name_stays, packages_stay}
use Rattle.rename_map.specs.Fixed.{Stay, names_that_stay}
use Rattle.rename_map.specs.Names.{given_beside, names_of}
use Rattle.mapping_file.specs.declared.mapping.Mapping.{Mapping}
use Rattle.new_names.specs.NewNames.{names_given, new_class, new_field, new_method, tables_of}
use Rattle.pair_clauses.specs.Finding.{first_place}
use Rattle.pair_clauses.specs.FixedNames.{fixed_by, fixed_fault, fixed_in, is_misnamed, is_moved, is_renamed, moved_in}
use Rattle.pair_clauses.specs.FixedNames.{field_fault, method_fault, package_fault}
use Rattle.pair_clauses.specs.Places.{class_place, place_if, place_of_field, place_of_method}
use Rattle.pair_clauses.specs.declared.place.Place.{Place}
use Rattle.pair_clauses.proofs.Zipped.{unplaced}
use Rattle.pair_checker.specs.Clauses.{given_names}
use Rattle.pair_laws.specs.OwnLines.Laws.{IsToldByMarks, name_if}
use Rattle.pair_laws.proofs.OwnLines.Picked.{no_first}

-- ---- one name

-- a name that stays has itself, and another gets none of these
not_misnamed : (stays : List (List ℕ)) (old new : List ℕ) → (is_taken stays old ≡ true → new ≡ old)
    → (is_taken stays old ≡ false → is_taken stays new ≡ false) → is_misnamed (is_taken stays) old new ≡ false
not_misnamed stays old new itself free = by (is_taken stays old) refl
  where
    by : (b : Bool) → is_taken stays old ≡ b → cond b (not (is_text old new)) (is_taken stays new) ≡ false
    by true e = ap (λ (t : List ℕ). not (is_text old t)) (itself e) ∙ ap not (text_itself old)
    by false e = free e

-- so it is of names that are given in one group
given_right : (old : List ℕ → Option (List ℕ)) (stays : List (List ℕ)) (front : List ℕ) (names : List (List ℕ))
    (a : List ℕ) → is_misnamed (is_taken stays) a (given_name old stays front names a) ≡ false
given_right old stays front names a =
    not_misnamed stays a (given_name old stays front names a) (name_stays old stays front names a)
    (λ out. free out (given_cases old stays front names a))
  where
    free : is_taken stays a ≡ false
        → (given_name old stays front names a ≡ a)
        ⊎ (((old a ≡ Some (given_name old stays front names a))
        × (is_taken stays (given_name old stays front names a) ≡ false)
        × (is_taken stays a ≡ false) × (is_taken names a ≡ true))
        ⊎ ((n : ℕ) × (given_name old stays front names a ≡ fresh front n) × (is_taken stays (fresh front n) ≡ false)
        × (is_taken stays a ≡ false) × (is_taken names a ≡ true)))
        → is_taken stays (given_name old stays front names a) ≡ false
    free out (inl same) = ap (is_taken stays) same ∙ out
    free out (inr (inl (is, new, own, among))) = new
    free out (inr (inr (n, is, new, own, among))) = ap (is_taken stays) is ∙ new

-- where each name is fixed, each one stays
stays_misnamed : (old : List ℕ) → not (is_text old old) ≡ false
stays_misnamed old = ap not (text_itself old)

-- the new name by rules
module _ (stay : Stay) (old : Tables) (kept : List Class) where
  abbrev names_by : Bool → Names
  names_by obfuscate = cond obfuscate (given_beside stay old kept) same_names

  class_right : (b : Bool) (a : List ℕ)
      → is_misnamed (λ name. not b || is_taken stay.classes name) a ((names_by b).class a) ≡ false
  class_right true a = given_right (λ c. if_in_package (front_of a) (lookup (is_text c) old.classes)) stay.classes
      (front_of a) (in_package (front_of a) (class_names kept)) a
  class_right false a = stays_misnamed a

  field_right : (b : Bool) (a : List ℕ)
      → is_misnamed (λ name. not b || is_taken stay.fields name) a ((names_by b).field a) ≡ false
  field_right true a = given_right (λ c. lookup (is_text c) old.fields) stay.fields [] (field_names kept) a
  field_right false a = stays_misnamed a

  method_right : (b : Bool) (a d : List ℕ)
      → is_misnamed (λ name. not b || is_taken (stays_for stay.methods d) name) a ((names_by b).method a d) ≡ false
  method_right true a d = given_right (λ c. lookup (is_same_method (c, d)) old.methods) (stays_for stay.methods d) []
      (of_type d (method_names kept)) a
  method_right false a d = stays_misnamed a

-- the same of a name that is given if it is marked
not_renamed : (is_fixed : List ℕ → Bool) (old new : List ℕ) (b : Bool) (o : Option (List ℕ)) → o ≡ name_if b new
    → is_misnamed is_fixed old new ≡ false → is_renamed is_fixed old o ≡ false
not_renamed is_fixed old new true o is right = ap (is_renamed is_fixed old) is ∙ right
not_renamed is_fixed old new false o is right = ap (is_renamed is_fixed old) is

-- ---- packages

-- a package is its front without the last byte
pub package_is : (name : List ℕ) → package_of name ≡ take (length (front_of name) - 1) (front_of name)
package_is name =
    let n = length name - suffix_len is_within name in
    let long : length (front_of name) ≡ n = length-take-le n name (omega arith) in
    sym (take-take (n - 1) n name (omega arith)) ∙ ap (λ (k : ℕ). take (k - 1) (front_of name)) (sym long)

package_stays : (a b : List ℕ) → front_of b ≡ front_of a → package_of b ≡ package_of a
package_stays a b same =
    package_is b ∙ ap (λ (t : List ℕ). take (length t - 1) t) same ∙ sym (package_is a)

pub package_kept : (stay : Stay) (old : Tables) (kept : List Class) (b : Bool) (a : List ℕ)
    → package_of ((names_by stay old kept b).class a) ≡ package_of a
package_kept stay old kept true a = package_stays a (class_given old.classes stay.classes (class_names kept) a)
    (packages_stay old.classes stay.classes (class_names kept) a)
package_kept stay old kept false a = refl

not_moved : (old new : List ℕ) (b : Bool) (o : Option (List ℕ)) → o ≡ name_if b new → package_of new ≡ package_of old
    → is_moved old o ≡ false
not_moved old new true o is stays =
    ap (is_moved old) is ∙ ap (λ (t : List ℕ). not (is_text (package_of old) t)) stays
    ∙ ap not (text_itself (package_of old))
not_moved old new false o is stays = ap (is_moved old) is

-- ---- the clauses

three_none : (a b c : Option Place) → a ≡ None → b ≡ None → c ≡ None → option_or a (option_or b c) ≡ None
three_none a b c ha hb hc =
    ap (λ o. option_or o (option_or b c)) ha ∙ ap (λ o. option_or o c) hb ∙ hc

module _ (classes kept : List Class) (rules : Rules) (old : Option Mapping) (marks : List Bool) (mapping : Mapping)
    (told : IsToldByMarks (names_of classes kept rules old) classes marks mapping) where
  abbrev stay : Stay
  stay = names_that_stay rules classes

  abbrev names : Names
  names = names_of classes kept rules old

  module _ (n : ℕ) (c : Class) (at : slice_get classes n ≡ Some c) where
    class_fixed : place_if (is_renamed (fixed_by rules classes).class c.name (new_class mapping c.name))
        (class_place c.name) ≡ None
    class_fixed = unplaced (is_renamed (fixed_by rules classes).class c.name (new_class mapping c.name))
        (class_place c.name)
        (not_renamed (fixed_by rules classes).class c.name (names.class c.name) (is_marked marks (class_item classes n))
        (new_class mapping c.name) (told.class n c at) (class_right stay (tables_of old) kept rules.obfuscate c.name))

    fields_fixed : None
        ≡ first_place (field_fault (fixed_by rules classes).field c) (zip c.fields (map (new_field mapping c) c.fields))
    fields_fixed = no_first (field_fault (fixed_by rules classes).field c) (new_field mapping c) c.fields
        (λ k x there. unplaced (is_renamed (fixed_by rules classes).field x.name (new_field mapping c x))
        (place_of_field c x)
        (not_renamed (fixed_by rules classes).field x.name (names.field x.name)
        (is_marked marks (class_item classes n + 1 + k)) (new_field mapping c x) (told.field n c at k x there)
        (field_right stay (tables_of old) kept rules.obfuscate x.name)))

    methods_fixed : None
        ≡ first_place (method_fault (fixed_by rules classes).method c)
        (zip c.methods (map (new_method mapping c) c.methods))
    methods_fixed = no_first (method_fault (fixed_by rules classes).method c) (new_method mapping c) c.methods
        (λ k x there. unplaced
        (is_renamed ((fixed_by rules classes).method (method_text x.ty)) x.name (new_method mapping c x))
        (place_of_method c x)
        (not_renamed ((fixed_by rules classes).method (method_text x.ty)) x.name (names.method x.name (method_text x.ty))
        (is_marked marks (class_item classes n + 1 + (length c.fields + k))) (new_method mapping c x)
        (told.method n c at k x there) (method_right stay (tables_of old) kept rules.obfuscate x.name (method_text x.ty))))

    fixed_here : fixed_in (fixed_by rules classes) (c, names_given mapping c) ≡ None
    fixed_here = three_none
        (place_if (is_renamed (fixed_by rules classes).class c.name (new_class mapping c.name)) (class_place c.name))
        (first_place (field_fault (fixed_by rules classes).field c) (zip c.fields (map (new_field mapping c) c.fields)))
        (first_place (method_fault (fixed_by rules classes).method c)
        (zip c.methods (map (new_method mapping c) c.methods)))
        class_fixed (sym fields_fixed) (sym methods_fixed)

    moved_nowhere : moved_in (c, names_given mapping c) ≡ None
    moved_nowhere = unplaced (is_moved c.name (new_class mapping c.name)) (class_place c.name)
        (not_moved c.name (names.class c.name) (is_marked marks (class_item classes n)) (new_class mapping c.name)
        (told.class n c at) (package_kept stay (tables_of old) kept rules.obfuscate c.name))

  pub no_name_differs : None ≡ fixed_fault (fixed_by rules classes) classes (given_names mapping classes)
  no_name_differs = no_first (fixed_in (fixed_by rules classes)) (names_given mapping) classes fixed_here

  pub no_package_differs : None ≡ package_fault classes (given_names mapping classes)
  no_package_differs = no_first moved_in (names_given mapping) classes moved_nowhere
