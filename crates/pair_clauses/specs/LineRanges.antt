-- The clause LineRange: the lines of each code of the output lie in the range that the mapping tells of the method, where
-- it tells one (ProGuard manual, "ReTrace": ranges of lines tell methods apart; JVMS 4.7.12).
use Rattle.std.specs.Prelude.{ℕ, Bool, false, ◌||◌, nat_lt, List, Option, Some, None}
use Rattle.std.specs.List.{list_any, zip}
use Rattle.class_model.specs.declared.class.Class.{Class}
use Rattle.class_model.specs.declared.class.Method.{Method}
use Rattle.class_model.specs.declared.code.Code.{Code}
use Rattle.mapping_file.specs.declared.mapping.MapClass.{MapClass}
use Rattle.mapping_file.specs.declared.mapping.Mapping.{Mapping}
use Rattle.mapping_file.specs.declared.mapping.Range.{Range}
use Rattle.rename_map.specs.MappingOf.{lines_of}
use Rattle.new_names.specs.NewNames.{class_line, range_in}
use Rattle.new_names.specs.declared.class_names.ClassNames.{ClassNames}
use Rattle.pair_clauses.specs.Finding.{first_place}
use Rattle.pair_clauses.specs.Members.{NewMethod, expected_methods, new_one}
use Rattle.pair_clauses.specs.Places.{place_if, place_of_method}
use Rattle.pair_clauses.specs.declared.place.Place.{Place}

-- a line lies outside a range
abbrev pub is_outside : Range → ℕ → Bool
is_outside r line = nat_lt line r.first || nat_lt r.last line

-- a method with a range has a code with a line outside
abbrev pub leaves_range : Option Range → Option Code → Bool
leaves_range (Some r) (Some code) = list_any (is_outside r) (lines_of code)
leaves_range _ _ = false

-- a method of a class by the line of the class, and what it has become
abbrev pub range_fault_of : MapClass → Class → NewMethod × Method → Option Place
range_fault_of line c (expected, out) =
    place_if (leaves_range (range_in line expected.0) out.code) (place_of_method c expected.0)

-- the first of the methods of a class that has a line and has become one of the output
abbrev pub class_range_fault : Option MapClass → Class → ClassNames → Option Class → Option Place
class_range_fault (Some line) c given (Some out) =
    first_place (range_fault_of line c) (zip (expected_methods c given) out.methods)
class_range_fault _ c given _ = None

-- the first place of LineRange, in the order of items
abbrev pub range_fault : Mapping → List Class → List ClassNames → List Class → Option Place
range_fault mapping input given output = first_place
    (λ (p : Class × ClassNames). class_range_fault (class_line mapping p.0.name) p.0 p.1 (new_one output p.1))
    (zip input given)
