-- The clause MapShape: class lines are one to one between some classes of the input and all classes of the output, each
-- member line names another member of its class, and over the whole mapping names of fields are one to one, and for each
-- descriptor names of methods (ProGuard manual, "ReTrace", the mapping file; the order of places is the project's own).
use Rattle.std.specs.Prelude.{ℕ, Bool, false, not, ◌||◌, List, [], ◌∷◌, ◌++◌, map, Option, Some, None, is_some}
use Rattle.std.specs.List.{flat_map, list_any, position}
use Rattle.std.specs.Map.{lookup}
use Rattle.std.specs.Option.{option_map_or, option_or}
use Rattle.jv_base.specs.Names.{is_text}
use Rattle.jv_base.specs.Types as descriptor
use Rattle.class_model.specs.declared.class.Class.{Class}
use Rattle.class_pool.specs.Members.{declared_at}
use Rattle.class_pool.specs.declared.id.ClassId.TheVariants.{Prog}
use Rattle.mapping_file.specs.declared.mapping.MapClass.{MapClass}
use Rattle.mapping_file.specs.declared.mapping.MapField.{MapField}
use Rattle.mapping_file.specs.declared.mapping.MapMethod.{MapMethod}
use Rattle.mapping_file.specs.declared.mapping.Mapping.{Mapping}
use Rattle.new_names.specs.NewNames.{NameAndType, field_names, is_same}
use Rattle.pair_clauses.specs.Finding.{first_place}
use Rattle.pair_clauses.specs.Places.{class_place, field_place, method_place, place_if}
use Rattle.pair_clauses.specs.declared.place.Place.{Place}

-- ---- names and members

-- the number of the class with a name
abbrev pub number_of : List Class → List ℕ → Option ℕ
number_of classes name = position (λ c. is_text name c.name) classes

-- there is such a class
abbrev pub has_class : List Class → List ℕ → Bool
has_class classes name = is_some (number_of classes name)

-- the class of a name declares this member (JVMS 4.3)
abbrev pub has_member : List Class → List ℕ → NameAndType → Bool
has_member classes class named =
    option_map_or (λ n. is_some (declared_at classes (Prog n) named.0 named.1)) (number_of classes class) false

-- another one than the one that is there, if one is, by a test of being the same
abbrev pub is_other : {K : Type 0} → (K → K → Bool) → Option K → K → Bool
is_other same None one = false
is_other same (Some there) one = not (same there one)

-- an old one that has another new one among these, or a new one that has another old one
abbrev pub clashes : {K : Type 0} → (K → K → Bool) → List (K × K) → K → K → Bool
clashes {K} same pairs old new = is_other same (lookup (λ one. same one old) pairs) new
    || is_other same (lookup (λ one. same one new) (map (λ (p : K × K). (p.1, p.0)) pairs)) old

-- ---- lines of members

-- the name and the descriptor of a field's line
abbrev pub field_named : MapField → NameAndType
field_named l = (l.old, descriptor.field_text l.ty)

-- the name and the descriptor of a method's line
abbrev pub method_named : MapMethod → NameAndType
method_named l = (l.old, descriptor.method_text l.ty)

-- the new name of a method's line, with the descriptor: names of methods are one to one for each descriptor
abbrev pub method_renamed : MapMethod → NameAndType
method_renamed l = (l.new, descriptor.method_text l.ty)

-- the old and the new names of methods, with their descriptors
abbrev pub method_pairs : List MapMethod → List (NameAndType × NameAndType)
method_pairs lines = map (λ (l : MapMethod). (method_named l, method_renamed l)) lines

-- a member that the class doesn't have, or one of these
abbrev pub is_stray : List Class → List ℕ → List NameAndType → NameAndType → Bool
is_stray input class own named = not (has_member input class named) || list_any (λ key. is_same key named) own

module _ (input : List Class) (class : List ℕ) where
  -- a field's line is at fault behind lines of fields: those of classes before, and those of its own class
  abbrev pub is_field_wrong : List (List ℕ × List ℕ) → List MapField → MapField → Bool
  is_field_wrong before own l = is_stray input class (map field_named own) (field_named l)
      || clashes is_text (before ++ field_names own) l.old l.new

  -- its place, where it is
  abbrev pub field_fault : List (List ℕ × List ℕ) → List MapField → MapField → Option Place
  field_fault before own l = place_if (is_field_wrong before own l) (field_place class l.ty l.old)

  -- the first of lines of fields that is at fault, behind those of its class that come before
  abbrev pub fields_fault : List (List ℕ × List ℕ) → List MapField → List MapField → Option Place
  fields_fault before own [] = None
  fields_fault before own (l ∷ ls) = option_or (field_fault before own l) (fields_fault before (own ++ l ∷ []) ls)

  -- a method's line is at fault, in the same way
  abbrev pub is_method_wrong : List (NameAndType × NameAndType) → List MapMethod → MapMethod → Bool
  is_method_wrong before own l = is_stray input class (map method_named own) (method_named l)
      || clashes is_same (before ++ method_pairs own) (method_named l) (method_renamed l)

  -- its place, where it is
  abbrev pub method_fault : List (NameAndType × NameAndType) → List MapMethod → MapMethod → Option Place
  method_fault before own l = place_if (is_method_wrong before own l) (method_place class l.ty l.old)

  -- the first of lines of methods that is at fault
  abbrev pub methods_fault : List (NameAndType × NameAndType) → List MapMethod → List MapMethod → Option Place
  methods_fault before own [] = None
  methods_fault before own (l ∷ ls) = option_or (method_fault before own l) (methods_fault before (own ++ l ∷ []) ls)

-- ---- lines of classes

-- a class of the output without a line
abbrev pub unlined_fault : List MapClass → Class → Option Place
unlined_fault lines c = place_if (not (list_any (λ (l : MapClass). is_text l.new c.name) lines)) (class_place c.name)

module _ (input output : List Class) where
  -- a class line that names no class of the input, or one of the lines before, or none of the output, or one of those
  abbrev pub is_line_at_fault : List MapClass → MapClass → Bool
  is_line_at_fault before l =
      (not (has_class input l.old) || list_any (λ (b : MapClass). is_text b.old l.old) before)
      || (not (has_class output l.new) || list_any (λ (b : MapClass). is_text b.new l.new) before)

  -- a class line, and behind it the lines of its members: fields first, then methods
  abbrev pub line_fault : List MapClass → MapClass → Option Place
  line_fault before l = option_or (place_if (is_line_at_fault before l) (class_place l.old))
      (option_or (fields_fault input l.old (flat_map (λ (b : MapClass). field_names b.fields) before) [] l.fields)
      (methods_fault input l.old (flat_map (λ (b : MapClass). method_pairs b.methods) before) [] l.methods))

  -- the first line at fault, by itself or with the lines before it
  abbrev pub lines_fault : List MapClass → List MapClass → Option Place
  lines_fault before [] = None
  lines_fault before (l ∷ ls) = option_or (line_fault before l) (lines_fault (before ++ l ∷ []) ls)

  -- the first place of MapShape: lines in the mapping's order, then classes of the output without a line
  abbrev pub shape_fault : Mapping → Option Place
  shape_fault mapping = option_or (lines_fault [] mapping.classes) (first_place (unlined_fault mapping.classes) output)
