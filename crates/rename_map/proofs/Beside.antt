-- Names that are given beside the same names.
use Rattle.std.proofs.Common.{◌≡◌, ℕ, Bool, true, false, cond, not, ◌||◌, List, [], ◌∷◌, ◌++◌, Option, Some, None, filter}
use Rattle.std.proofs.Common.{refl, sym, ap, ◌∙◌}
use Rattle.std.specs.List.{fold}
use Rattle.std.specs.Map.{keys_of, lookup}
use Rattle.jv_base.specs.Names.{is_text}
use Rattle.class_model.specs.declared.class.Class.{Class}
use Rattle.keep_rules.specs.declared.rules.Rules.{Rules}
use Rattle.class_rename.specs.Names.{Names, Tables, is_same_method, new_name, same_names}
use Rattle.mapping_file.specs.declared.mapping.Mapping.{Mapping}
use Rattle.new_names.specs.NewNames.{AreAlike, tables_of}
use Rattle.fresh_names.specs.Fresh.{given, is_taken}
use Rattle.fresh_names.specs.Given.{NameTable, applied, class_names, field_names, front_of, given_name, if_in_package}
use Rattle.fresh_names.specs.Given.{in_package, method_names, names_given, news_of, of_type, olds, once, stays_for}
use Rattle.fresh_names.specs.Given.{table_given, with_new}
use Rattle.fresh_names.specs.declared.taken.TakenNames.{TakenNames}
use Rattle.fresh_names.proofs.Free.{same_given}
use Rattle.fresh_names.proofs.Reserved.{taken_parts}
use Rattle.rename_map.specs.Fixed.{Stay, names_that_stay}
use Rattle.rename_map.specs.Names.{AreSame, StaySo, given_beside, names_of}

-- only which names stay matters, and what the earlier mapping tells
given_same : (old other_old : List ℕ → Option (List ℕ)) (taken other : List (List ℕ)) (front : List ℕ)
    (names : List (List ℕ)) → ((a : List ℕ) → old a ≡ other_old a) → AreSame taken other → (a : List ℕ)
    → given_name old taken front names a ≡ given_name other_old other front names a
given_same old other_old taken other front names told same a =
    ap (λ (f : List ℕ → Option (List ℕ)). given_name f taken front names a) (λ i b. told b i)
    ∙ ap (λ (t : NameTable). new_name t a) whole
  where
    first : applied other_old taken names ≡ applied other_old other names
    first = (λ i. fold (λ (t : NameTable) (n : List ℕ). cond (same n i || is_taken (keys_of t) n) t
        (by t n (other_old n) i)) [] names)
      where
        by : (t : NameTable) (n : List ℕ) (o : Option (List ℕ))
            → with_new other_old taken t n o ≡ with_new other_old other t n o
        by t n None = refl
        by t n (Some v) = ap (λ (b : Bool). cond (b || is_taken (news_of t) v) t (t ++ (n, v) ∷ [])) (same v)

    more : (xs : List (List ℕ)) → AreSame (taken ++ xs) (other ++ xs)
    more xs = λ b. taken_parts taken xs b ∙ ap (λ (c : Bool). c || is_taken xs b) (same b)
        ∙ sym (taken_parts other xs b)

    whole : table_given other_old taken front names ≡ table_given other_old other front names
    whole =
        ap (λ (t : NameTable). t ++ given front (taken ++ news_of t) 0 (olds (taken ++ keys_of t) names)) first
        ∙ (λ i. applied other_old other names ++ given front (taken ++ news_of (applied other_old other names)) 0
        (once (filter (λ b. not (more (keys_of (applied other_old other names)) b i)) names)))
        ∙ ap (λ (t : NameTable). applied other_old other names ++ t)
        (same_given front (taken ++ news_of (applied other_old other names))
        (other ++ news_of (applied other_old other names)) (more (news_of (applied other_old other names))) 0
        (olds (other ++ keys_of (applied other_old other names)) names))

beside : (taken : TakenNames) (stay : Stay) (old : Tables) (kept : List Class) → StaySo taken stay
    → names_given taken old kept ≡ given_beside stay old kept
beside taken stay old kept so = λ i. record {
  class = λ a. given_same (λ b. if_in_package (front_of a) (lookup (is_text b) old.classes))
      (λ b. if_in_package (front_of a) (lookup (is_text b) old.classes)) taken.classes stay.classes (front_of a)
      (in_package (front_of a) (class_names kept)) (λ b. refl) so.classes a i;
  field = λ a. given_same (λ b. lookup (is_text b) old.fields) (λ b. lookup (is_text b) old.fields) taken.fields
      stay.fields [] (field_names kept) (λ b. refl) so.fields a i;
  method = λ a d. given_same (λ b. lookup (is_same_method (b, d)) old.methods)
      (λ b. lookup (is_same_method (b, d)) old.methods) (stays_for taken.methods d) (stays_for stay.methods d) []
      (of_type d (method_names kept)) (λ b. refl) (so.methods d) a i;
}

-- tables that tell the same give the same
pub alike_given : (taken : TakenNames) (s t : Tables) (kept : List Class) → AreAlike s t
    → names_given taken s kept ≡ names_given taken t kept
alike_given taken s t kept same = λ i. record {
  class = λ a. given_same (λ b. if_in_package (front_of a) (lookup (is_text b) s.classes))
      (λ b. if_in_package (front_of a) (lookup (is_text b) t.classes)) taken.classes taken.classes (front_of a)
      (in_package (front_of a) (class_names kept)) (λ b. ap (if_in_package (front_of a)) (same.classes b)) (λ b. refl) a i;
  field = λ a. given_same (λ b. lookup (is_text b) s.fields) (λ b. lookup (is_text b) t.fields) taken.fields taken.fields
      [] (field_names kept) same.fields (λ b. refl) a i;
  method = λ a d. given_same (λ b. lookup (is_same_method (b, d)) s.methods)
      (λ b. lookup (is_same_method (b, d)) t.methods) (stays_for taken.methods d) (stays_for taken.methods d) []
      (of_type d (method_names kept)) (λ b. same.methods (b, d)) (λ b. refl) a i;
}

-- the names are those for the rules, where not all names stay
pub named_some : (taken : TakenNames) (kept : List Class) (rules : Rules) (input : List Class) (new : Names)
    (old : Option Mapping) → new ≡ names_given taken (tables_of old) kept → rules.obfuscate ≡ true
    → StaySo taken (names_that_stay rules input) → new ≡ names_of input kept rules old
named_some taken kept rules input new old is obfuscates so =
    is ∙ beside taken (names_that_stay rules input) (tables_of old) kept so
    ∙ sym (ap (λ (b : Bool). cond b (given_beside (names_that_stay rules input) (tables_of old) kept) same_names)
    obfuscates)

-- and where all stay
pub named_none : (kept : List Class) (rules : Rules) (input : List Class) (new : Names)
    (old : Option Mapping) → new ≡ same_names → rules.obfuscate ≡ false → new ≡ names_of input kept rules old
named_none kept rules input new old is stays =
    is ∙ sym (ap (λ (b : Bool). cond b (given_beside (names_that_stay rules input) (tables_of old) kept) same_names)
    stays)
