-- The clause CodeDiffers: each code of the output is the code of the input under new names, in instructions, handlers
-- and lines, where these are kept (JVMS 4.7.3, 4.7.12). Sizes and frames aren't compared.
use Rattle.std.specs.Prelude.{◌≡◌, List, map, Option, Some, None}
use Rattle.std.specs.List.{zip}
use Rattle.class_model.specs.declared.class.Class.{Class}
use Rattle.class_model.specs.declared.class.Method.{Method}
use Rattle.class_model.specs.declared.code.Code.{Code}
use Rattle.attribute_filter.specs.Filtered.{code_kept}
use Rattle.attribute_filter.specs.declared.filter.AttributeFilter.{AttributeFilter}
use Rattle.mapping_file.specs.declared.mapping.Mapping.{Mapping}
use Rattle.class_rename.specs.Renamed.{renamed_handler, renamed_ins}
use Rattle.new_names.specs.NewNames.{names_of}
use Rattle.new_names.specs.declared.class_names.ClassNames.{ClassNames}
use Rattle.pair_clauses.specs.Finding.{FirstOf, FirstUnlike}
use Rattle.pair_clauses.specs.Members.{NewMethod, expected_methods, new_one}
use Rattle.pair_clauses.specs.Places.{place_of_method}
use Rattle.pair_clauses.specs.declared.place.Place.{Place}

module _ (mapping : Mapping) where
  -- a code in its instructions with their lines, and in its handlers (JVMS 4.7.3, 4.7.12)
  pub record IsSameCode (code out : Code) : Type 0 where
    pub ins : map (renamed_ins (names_of mapping)) code.ins ≡ out.ins
    pub handlers : map (renamed_handler (names_of mapping)) code.handlers ≡ out.handlers

  -- the same of a method that may have none
  abbrev pub AreSameCodes : Option Code → Option Code → Type 0
  AreSameCodes (Some code) (Some out) = IsSameCode code out
  AreSameCodes None None = Unit {0}
  AreSameCodes _ _ = ⊥

  -- a method of the output has the code of the expected one
  abbrev pub IsSameBody : AttributeFilter → NewMethod → Method → Type 0
  IsSameBody filter expected out = AreSameCodes (code_kept filter expected.0.code) out.code

  -- a class that has a line: the first of its expected methods with another code
  abbrev pub ClassCodeDiffers : AttributeFilter → Class → List NewMethod → Option Class → Option Place → Type 0
  ClassCodeDiffers filter c methods None found = found ≡ None
  ClassCodeDiffers filter c methods (Some out) found =
      FirstUnlike (IsSameBody filter) (λ (e : NewMethod). place_of_method c e.0) methods out.methods found

  -- the first place of CodeDiffers, in the order of items
  abbrev pub CodeDiffers : AttributeFilter → List Class → List ClassNames → List Class → Option Place → Type 0
  CodeDiffers filter input given output found = FirstOf
      (λ (p : Class × ClassNames). ClassCodeDiffers filter p.0 (expected_methods p.0 p.1) (new_one output p.1))
      (zip input given) found
