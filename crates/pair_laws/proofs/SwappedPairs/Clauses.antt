-- What the clauses look at of an input they look at without the codes of its methods. Each lemma is named after the
-- definition of which it says so, and goes the definition's way.
use Rattle.std.proofs.Common.{◌≡◌, ℕ, ◌+◌, not, ◌||◌, Bool, true, false, cond, List, [], ◌∷◌, ◌++◌, map, length, Option}
use Rattle.std.proofs.Common.{Some, None, refl, ap, ◌∙◌, is_some}
use Rattle.std.specs.Prelude.{slice_index_or}
use Rattle.std.specs.List.{enumerate_from, filter, filter_map, flat_map, list_any, zip}
use Rattle.std.specs.Option.{option_map_or, option_or}
use Rattle.jv_base.specs.Names.{is_text}
use Rattle.jv_base.specs.Types.{method_text}
use Rattle.class_model.specs.declared.class.Class.{Class}
use Rattle.class_model.specs.declared.class.Field.{Field}
use Rattle.class_model.specs.declared.class.Method.{Method}
use Rattle.class_pool.specs.declared.id.ClassId.TheVariants.{Prog}
use Rattle.lib_table.proofs.Classes.{position_map}
use Rattle.keep_rules.specs.declared.rules.Rules.{Rules}
use Rattle.keep_match.specs.Fixed.{fixed_rows}
use Rattle.keep_match.specs.declared.fixed.Fixes.TheVariants as fixes
use Rattle.class_rename.specs.Names.{MethodName}
use Rattle.fresh_names.specs.Fresh.{is_taken}
use Rattle.fresh_names.specs.Given.{stays_for}
use Rattle.fresh_names.specs.Reserved.{reserved}
use Rattle.fresh_names.specs.declared.taken.Named.TheVariants as named
use Rattle.member_shrink.specs.Shrunk.{chosen, is_marked}
use Rattle.mapping_file.specs.declared.mapping.MapClass.{MapClass}
use Rattle.mapping_file.specs.declared.mapping.MapField.{MapField}
use Rattle.mapping_file.specs.declared.mapping.MapMethod.{MapMethod}
use Rattle.mapping_file.specs.declared.mapping.Mapping.{Mapping}
use Rattle.rename_map.specs.Fixed.{class_marked, method_type_classes, named_marked, names_that_stay, type_classes}
use Rattle.new_names.specs.NewNames.{NameAndType, class_line, field_names, is_same, names_given, new_method}
use Rattle.new_names.specs.declared.class_names.ClassNames.{ClassNames}
use Rattle.pair_clauses.specs.Finding.{first_place}
use Rattle.pair_clauses.specs.FixedNames.{Fixed, fixed_by, fixed_fault, fixed_in, field_fault, method_fault}
use Rattle.pair_clauses.specs.FixedNames.{is_renamed, moved_in, package_fault}
use Rattle.pair_clauses.specs.LineRanges.{class_range_fault, range_fault, range_fault_of}
use Rattle.pair_clauses.specs.Members.{new_one, with_name}
use Rattle.pair_clauses.specs.Places.{class_place, field_place, item_places, method_place, place_if, place_of_field}
use Rattle.pair_clauses.specs.Places.{place_of_method, places_in}
use Rattle.pair_clauses.specs.Shape as shape
use Rattle.pair_clauses.specs.declared.place.Place.{Place}
use Rattle.pair_checker.specs.Clauses.{given_names}
use Rattle.shape_laws.specs.Bare.{DifferInCodes, bare, bare_method}
use Rattle.shape_laws.proofs.Alike as alike
use Rattle.shape_laws.proofs.BareSets.{bare_keeps, same}
use Rattle.swap_laws.proofs.Matching.{match_alike}

-- ---- lines of the mapping

module _ (s : List Class) where
  abbrev t : List Class
  t = map bare s

  number_of_is : shape.number_of t ≡ shape.number_of s
  number_of_is = λ i name. position_map bare (λ c. is_text name c.name) s i

  has_class_is : shape.has_class t ≡ shape.has_class s
  has_class_is = λ i name. is_some (number_of_is i name)

  has_member_is : shape.has_member t ≡ shape.has_member s
  has_member_is = λ i class key. option_map_or
      (λ n. is_some (alike.declared_at_at bare bare_keeps s (Prog n) key.0 key.1 i)) (number_of_is i class) false

  is_stray_is : shape.is_stray t ≡ shape.is_stray s
  is_stray_is = λ i class own key. not (has_member_is i class key)
      || list_any (λ other. is_same other key) own

  fields_at : (class : List ℕ) (before : List (List ℕ × List ℕ)) (own ls : List MapField)
      → shape.fields_fault t class before own ls ≡ shape.fields_fault s class before own ls
  fields_at class before own [] = refl
  fields_at class before own (l ∷ ls) = λ i. option_or
      (place_if (is_stray_is i class (map shape.field_named own) (shape.field_named l)
      || shape.clashes is_text (before ++ field_names own) l.old l.new) (field_place class l.ty l.old))
      (fields_at class before (own ++ l ∷ []) ls i)

  methods_at : (class : List ℕ) (before : List (NameAndType × NameAndType)) (own ls : List MapMethod)
      → shape.methods_fault t class before own ls ≡ shape.methods_fault s class before own ls
  methods_at class before own [] = refl
  methods_at class before own (l ∷ ls) = λ i. option_or
      (place_if (is_stray_is i class (map shape.method_named own) (shape.method_named l)
      || shape.clashes is_same (before ++ shape.method_pairs own) (shape.method_named l) (shape.method_renamed l))
      (method_place class l.ty l.old))
      (methods_at class before (own ++ l ∷ []) ls i)

  lines_at : (output : List Class) (before ls : List MapClass)
      → shape.lines_fault t output before ls ≡ shape.lines_fault s output before ls
  lines_at output before [] = refl
  lines_at output before (l ∷ ls) = λ i. option_or
      (option_or
      (place_if ((not (has_class_is i l.old) || list_any (λ (b : MapClass). is_text b.old l.old) before)
      || (not (shape.has_class output l.new) || list_any (λ (b : MapClass). is_text b.new l.new) before))
      (class_place l.old))
      (option_or (fields_at l.old (flat_map (λ (b : MapClass). field_names b.fields) before) [] l.fields i)
      (methods_at l.old (flat_map (λ (b : MapClass). shape.method_pairs b.methods) before) [] l.methods i)))
      (lines_at output (before ++ l ∷ []) ls i)

  shape_fault_is : (output : List Class) (mapping : Mapping)
      → shape.shape_fault t output mapping ≡ shape.shape_fault s output mapping
  shape_fault_is output mapping = λ i. option_or (lines_at output [] mapping.classes i)
      (first_place (shape.unlined_fault mapping.classes) output)

-- ---- new names

module _ (mapping : Mapping) where
  new_methods : (c : Class) (ms : List Method)
      → map (new_method mapping (bare c)) (map bare_method ms) ≡ map (new_method mapping c) ms
  new_methods c [] = refl
  new_methods c (m ∷ ms) = ap (λ (xs : List (Option (List ℕ))). new_method mapping c m ∷ xs) (new_methods c ms)

  class_given : (c : Class) → names_given mapping (bare c) ≡ names_given mapping c
  class_given c = λ i. record {
    class = (names_given mapping c).class;
    fields = (names_given mapping c).fields;
    methods = new_methods c c.methods i;
  }

  pub given_names_is : (s : List Class) → given_names mapping (map bare s) ≡ given_names mapping s
  given_names_is [] = refl
  given_names_is (c ∷ s) = λ i. class_given c i ∷ given_names_is s i

-- ---- places

method_places : (c : Class) (ms : List Method)
    → map (place_of_method (bare c)) (map bare_method ms) ≡ map (place_of_method c) ms
method_places c [] = refl
method_places c (m ∷ ms) = ap (λ (ps : List Place). place_of_method c m ∷ ps) (method_places c ms)

places_in_is : (c : Class) → places_in (bare c) ≡ places_in c
places_in_is c = λ i. class_place c.name ∷ (map (place_of_field c) c.fields ++ method_places c c.methods i)

item_places_is : (s : List Class) → item_places (map bare s) ≡ item_places s
item_places_is [] = refl
item_places_is (c ∷ s) = λ i. places_in_is c i ++ item_places_is s i

-- ---- names that stay

-- what methods that are chosen tell, where they tell it by what isn't their code
module _ (tells : Method → List (List ℕ)) (same_told : (m : Method) → tells (bare_method m) ≡ tells m)
    (marks : List Bool) where
  abbrev told_of : List (ℕ × Method) → List (List ℕ)
  told_of es = flat_map tells (map (λ (e : ℕ × Method). e.1) es)

  abbrev picked : List (ℕ × Method) → List (ℕ × Method)
  picked es = filter (λ (e : ℕ × Method). is_marked marks e.0) es

  chosen_tell : (k : ℕ) (ms : List Method)
      → told_of (picked (enumerate_from k (map bare_method ms))) ≡ told_of (picked (enumerate_from k ms))
  chosen_tell k [] = refl
  chosen_tell k (m ∷ ms) = by (is_marked marks k) (chosen_tell (k + 1) ms)
    where
      by : (b : Bool)
          → told_of (picked (enumerate_from (k + 1) (map bare_method ms))) ≡ told_of (picked (enumerate_from (k + 1) ms))
          → told_of (cond b ((k, bare_method m) ∷ picked (enumerate_from (k + 1) (map bare_method ms)))
          (picked (enumerate_from (k + 1) (map bare_method ms))))
          ≡ told_of (cond b ((k, m) ∷ picked (enumerate_from (k + 1) ms)) (picked (enumerate_from (k + 1) ms)))
      by true h = λ i. same_told m i ++ h i
      by false h = h

-- what classes tell by their marks
module _ {X : Type 0} (tells : List Bool → Class → List X)
    (same_told : (marks : List Bool) (c : Class) → tells marks (bare c) ≡ tells marks c) where
  abbrev each_of : List (List Bool) → ℕ → List Class → List X
  each_of rows n s = flat_map (λ (e : ℕ × Class). tells (slice_index_or rows e.0 []) e.1) (enumerate_from n s)

  each_from : (rows : List (List Bool)) (n : ℕ) (s : List Class) → each_of rows n (map bare s) ≡ each_of rows n s
  each_from rows n [] = refl
  each_from rows n (c ∷ s) = λ i. same_told (slice_index_or rows n []) c i ++ each_from rows (n + 1) s i

  each_same : (a b : List Class) → DifferInCodes a b → (rows others : List (List Bool)) → others ≡ rows
      → each_of others 0 b ≡ each_of rows 0 a
  each_same a b like rows others is =
      ap (λ (r : List (List Bool)). each_of r 0 b) is ∙ same a b like (each_of rows 0) (each_from rows 0)

abbrev tells_types : Method → List (List ℕ)
tells_types m = method_type_classes m.ty

-- the classes in the descriptors of what is marked
abbrev described : List Bool → Class → List (List ℕ)
described marks c = flat_map (λ (f : Field). type_classes f.ty) (chosen marks 1 c.fields)
    ++ flat_map tells_types (chosen marks (1 + length c.fields) c.methods)

described_is : (marks : List Bool) (c : Class) → described marks (bare c) ≡ described marks c
described_is marks c =
    ap (λ (xs : List (List ℕ)). flat_map (λ (f : Field). type_classes f.ty) (chosen marks 1 c.fields) ++ xs)
    (chosen_tell tells_types (λ m. refl) marks (1 + length c.fields) c.methods)

abbrev field_names_marked : List Bool → Class → List (List ℕ)
field_names_marked marks c = flat_map (λ (f : Field). f.name ∷ []) (chosen marks 1 c.fields)

-- the names and descriptors of methods that are chosen
abbrev named_of : List Bool → ℕ → List Method → List MethodName
named_of marks k ms = map (λ (m : Method). (m.name, method_text m.ty)) (chosen marks k ms)

named_at : (marks : List Bool) (k : ℕ) (ms : List Method) → named_of marks k (map bare_method ms) ≡ named_of marks k ms
named_at marks k [] = refl
named_at marks k (m ∷ ms) = by (is_marked marks k) (named_at marks (k + 1) ms)
  where
    by : (b : Bool) → named_of marks (k + 1) (map bare_method ms) ≡ named_of marks (k + 1) ms
        → map {B = MethodName} (λ (m : Method). (m.name, method_text m.ty)) (map (λ (e : ℕ × Method). e.1)
        (cond b ((k, bare_method m) ∷ filter (λ (e : ℕ × Method). is_marked marks e.0)
        (enumerate_from (k + 1) (map bare_method ms)))
        (filter (λ (e : ℕ × Method). is_marked marks e.0) (enumerate_from (k + 1) (map bare_method ms)))))
        ≡ map {B = MethodName} (λ (m : Method). (m.name, method_text m.ty)) (map (λ (e : ℕ × Method). e.1)
        (cond b ((k, m) ∷ filter (λ (e : ℕ × Method). is_marked marks e.0) (enumerate_from (k + 1) ms))
        (filter (λ (e : ℕ × Method). is_marked marks e.0) (enumerate_from (k + 1) ms))))
    by true h = ap (λ (t : List MethodName). (m.name, method_text m.ty) ∷ t) h
    by false h = h

named_is : (marks : List Bool) (c : Class) → named_marked marks (bare c) ≡ named_marked marks c
named_is marks c = named_at marks (1 + length c.fields) c.methods

-- ---- sets that differ in codes alone

module _ (a b : List Class) (like : DifferInCodes a b) where
  pub shape_same : (output : List Class) (mapping : Mapping)
      → shape.shape_fault b output mapping ≡ shape.shape_fault a output mapping
  shape_same output mapping =
      same a b like (λ s. shape.shape_fault s output mapping) (λ s. shape_fault_is s output mapping)

  pub given_same : (mapping : Mapping) → given_names mapping b ≡ given_names mapping a
  given_same mapping = same a b like (given_names mapping) (given_names_is mapping)

  pub item_places_same : item_places b ≡ item_places a
  item_places_same = same a b like item_places item_places_is

  pub stay_same : (rules : Rules) → names_that_stay rules b ≡ names_that_stay rules a
  stay_same rules =
      let m = match_alike rules a b like in
      let classes = each_same class_marked (λ marks c. refl) a b like (fixed_rows fixes.Classes rules a)
      (fixed_rows fixes.Classes rules b) (m.fixed fixes.Classes) in
      let types = each_same described described_is a b like (fixed_rows fixes.DescriptorClasses rules a)
      (fixed_rows fixes.DescriptorClasses rules b) (m.fixed fixes.DescriptorClasses) in
      let fields = each_same field_names_marked (λ marks c. refl) a b like (fixed_rows fixes.Members rules a)
      (fixed_rows fixes.Members rules b) (m.fixed fixes.Members) in
      let methods = each_same named_marked named_is a b like (fixed_rows fixes.Members rules a)
      (fixed_rows fixes.Members rules b) (m.fixed fixes.Members) in
      λ i. record {
        classes = classes i ++ (types i ++ reserved named.Class);
        fields = fields i ++ reserved named.Field;
        methods = methods i;
      }

  fixed_by_same : (rules : Rules) → fixed_by rules b ≡ fixed_by rules a
  fixed_by_same rules = λ i. record {
    class = λ name. not rules.obfuscate || is_taken (stay_same rules i).classes name;
    field = λ name. not rules.obfuscate || is_taken (stay_same rules i).fields name;
    method = λ descriptor name. not rules.obfuscate
        || is_taken (stays_for (stay_same rules i).methods descriptor) name;
  }

-- ---- the clauses on names

module _ (fixed : Fixed) where
  methods_fixed : (c : Class) (ms : List Method) (new : List (Option (List ℕ)))
      → first_place (method_fault fixed.method (bare c)) (zip (map bare_method ms) new)
      ≡ first_place (method_fault fixed.method c) (zip ms new)
  methods_fixed c [] new = refl
  methods_fixed c (m ∷ ms) [] = refl
  methods_fixed c (m ∷ ms) (n ∷ new) =
      ap (option_or (method_fault fixed.method c (m, n))) (methods_fixed c ms new)

  fixed_in_is : (c : Class) (given : ClassNames) → fixed_in fixed (bare c, given) ≡ fixed_in fixed (c, given)
  fixed_in_is c given = λ i. option_or (place_if (is_renamed fixed.class c.name given.class) (class_place c.name))
      (option_or (first_place (field_fault fixed.field c) (zip c.fields given.fields))
      (methods_fixed c c.methods given.methods i))

  fixed_fault_is : (given : List ClassNames) (s : List Class)
      → fixed_fault fixed (map bare s) given ≡ fixed_fault fixed s given
  fixed_fault_is given [] = refl
  fixed_fault_is [] (c ∷ s) = refl
  fixed_fault_is (g ∷ given) (c ∷ s) = λ i. option_or (fixed_in_is c g i) (fixed_fault_is given s i)

package_fault_is : (given : List ClassNames) (s : List Class) → package_fault (map bare s) given ≡ package_fault s given
package_fault_is given [] = refl
package_fault_is [] (c ∷ s) = refl
package_fault_is (g ∷ given) (c ∷ s) = ap (option_or (moved_in (c, g))) (package_fault_is given s)

-- ---- the ranges of lines

methods_ranged : (line : MapClass) (c : Class) (ms : List Method) (given : List (Option (List ℕ))) (outs : List Method)
    → first_place (range_fault_of line (bare c)) (zip (filter_map with_name (zip (map bare_method ms) given)) outs)
    ≡ first_place (range_fault_of line c) (zip (filter_map with_name (zip ms given)) outs)
methods_ranged line c [] given outs = refl
methods_ranged line c (m ∷ ms) [] outs = refl
methods_ranged line c (m ∷ ms) (None ∷ given) outs = methods_ranged line c ms given outs
methods_ranged line c (m ∷ ms) (Some name ∷ given) [] = refl
methods_ranged line c (m ∷ ms) (Some name ∷ given) (out ∷ outs) =
    ap (option_or (range_fault_of line c ((m, name), out))) (methods_ranged line c ms given outs)

class_ranged : (line : Option MapClass) (c : Class) (given : ClassNames) (out : Option Class)
    → class_range_fault line (bare c) given out ≡ class_range_fault line c given out
class_ranged None c given out = refl
class_ranged (Some line) c given None = refl
class_ranged (Some line) c given (Some out) = methods_ranged line c c.methods given.methods out.methods

range_fault_is : (mapping : Mapping) (output : List Class) (s : List Class)
    → range_fault mapping (map bare s) (given_names mapping (map bare s)) output
    ≡ range_fault mapping s (given_names mapping s) output
range_fault_is mapping output [] = refl
range_fault_is mapping output (c ∷ s) = λ i. option_or
    ((ap (λ (g : ClassNames). class_range_fault (class_line mapping c.name) (bare c) g (new_one output g))
    (class_given mapping c)
    ∙ class_ranged (class_line mapping c.name) c (names_given mapping c) (new_one output (names_given mapping c))) i)
    (range_fault_is mapping output s i)

module _ (a b : List Class) (like : DifferInCodes a b) (mapping : Mapping) where
  pub range_same : (output : List Class)
      → range_fault mapping b (given_names mapping b) output ≡ range_fault mapping a (given_names mapping a) output
  range_same output = same a b like (λ s. range_fault mapping s (given_names mapping s) output)
      (range_fault_is mapping output)

  pub fixed_same : (rules : Rules)
      → fixed_fault (fixed_by rules b) b (given_names mapping b) ≡ fixed_fault (fixed_by rules a) a (given_names mapping a)
  fixed_same rules =
      (λ i. fixed_fault (fixed_by_same a b like rules i) b (given_same a b like mapping i))
      ∙ same a b like (λ s. fixed_fault (fixed_by rules a) s (given_names mapping a))
      (fixed_fault_is (fixed_by rules a) (given_names mapping a))

  pub package_same : package_fault b (given_names mapping b) ≡ package_fault a (given_names mapping a)
  package_same =
      ap (package_fault b) (given_same a b like mapping)
      ∙ same a b like (λ s. package_fault s (given_names mapping a)) (package_fault_is (given_names mapping a))
