-- Attributes are kept under new names as under old ones.
use Rattle.std.proofs.Common.{◌≡◌, ℕ, Bool, true, false, cond, List, [], ◌∷◌, map, Option, Some, None, refl, ap}
use Rattle.std.specs.Prelude.{option_map}
use Rattle.class_model.specs.declared.class.Class.{Class}
use Rattle.class_model.specs.declared.class.Field.{Field}
use Rattle.class_model.specs.declared.class.Method.{Method}
use Rattle.class_model.specs.declared.code.Code.{Code}
use Rattle.class_model.specs.declared.code.Ins.{Ins}
use Rattle.attribute_filter.specs.Filtered.{field_filtered, filtered, method_filtered, without_line, without_lines}
use Rattle.attribute_filter.specs.declared.filter.AttributeFilter.{AttributeFilter}
use Rattle.class_rename.specs.Names.{Names}
use Rattle.class_rename.specs.Renamed.{renamed, renamed_code, renamed_field, renamed_ins, renamed_method}

-- what is done to each element one way round is done the other way round
maps_commute : {A : Type 0} (f g : A → A) → ((x : A) → f (g x) ≡ g (f x)) → (xs : List A)
    → map f (map g xs) ≡ map g (map f xs)
maps_commute f g each [] = refl
maps_commute f g each (x ∷ xs) = λ i. each x i ∷ maps_commute f g each xs i

module _ (names : Names) where
  lines_commute : (code : Code) → without_lines (renamed_code names code) ≡ renamed_code names (without_lines code)
  lines_commute code =
      ap (λ (ins : List Ins). let c : Code = record (renamed_code names code) { ins = ins } in c)
      (maps_commute without_line (renamed_ins names) (λ i. refl) code.ins)

  code_commutes : (lines : Bool) (code : Option Code)
      → cond lines (option_map (renamed_code names) code)
      (option_map without_lines (option_map (renamed_code names) code))
      ≡ option_map (renamed_code names) (cond lines code (option_map without_lines code))
  code_commutes true code = refl
  code_commutes false None = refl
  code_commutes false (Some code) = ap (λ (c : Code). Some c) (lines_commute code)

  throws_commute : (exceptions : Bool) (throws : List (List ℕ))
      → cond exceptions (map names.class throws) [] ≡ map names.class (cond exceptions throws [])
  throws_commute true throws = refl
  throws_commute false throws = refl

  module _ (filter : AttributeFilter) where
    field_commutes : (f : Field) → field_filtered filter (renamed_field names f)
        ≡ renamed_field names (field_filtered filter f)
    field_commutes f = refl

    method_commutes : (m : Method) → method_filtered filter (renamed_method names m)
        ≡ renamed_method names (method_filtered filter m)
    method_commutes m = λ i. record (renamed_method names (method_filtered filter m)) {
      code = code_commutes filter.line_numbers m.code i;
      throws = throws_commute filter.exceptions m.throws i;
    }

    pub class_commutes : (c : Class) → filtered filter (renamed names c) ≡ renamed names (filtered filter c)
    class_commutes c = λ i. record (renamed names (filtered filter c)) {
      fields = maps_commute (field_filtered filter) (renamed_field names) field_commutes c.fields i;
      methods = maps_commute (method_filtered filter) (renamed_method names) method_commutes c.methods i;
    }

    pub classes_commute : (classes : List Class)
        → map (filtered filter) (map (renamed names) classes) ≡ map (renamed names) (map (filtered filter) classes)
    classes_commute classes = maps_commute (filtered filter) (renamed names) class_commutes classes
