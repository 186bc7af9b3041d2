-- Each clause that is a relation has one first place at most.
use Rattle.std.proofs.Common.{◌≡◌, List, Option, Some, None}
use Rattle.std.specs.List.{zip}
use Rattle.class_model.specs.declared.class.Class.{Class}
use Rattle.attribute_filter.specs.declared.filter.AttributeFilter.{AttributeFilter}
use Rattle.mapping_file.specs.declared.mapping.Mapping.{Mapping}
use Rattle.new_names.specs.declared.class_names.ClassNames.{ClassNames}
use Rattle.pair_clauses.specs.Codes.{ClassCodeDiffers, CodeDiffers, IsSameBody}
use Rattle.pair_clauses.specs.Finding.{FirstUnlike, IsOne}
use Rattle.pair_clauses.specs.Members.{ClassDiffers, IsSameClass, IsSameField, IsSameMethod, LinedDiffers}
use Rattle.pair_clauses.specs.Members.{MemberDiffers, MethodsDiffer, NewField, NewMethod, expected_fields}
use Rattle.pair_clauses.specs.Members.{expected_methods, further_fault, new_one}
use Rattle.pair_clauses.specs.Places.{class_place, place_of_field, place_of_method}
use Rattle.pair_clauses.proofs.OneFinding.{one_equal, one_first, one_then, one_unless, one_unlike}

module _ (mapping : Mapping) (filter : AttributeFilter) where
  one_methods : (c : Class) (fields : List NewField) (methods : List NewMethod) (out : Class)
      → IsOne (MethodsDiffer mapping filter c fields methods out)
  one_methods c fields methods out = one_then
      (FirstUnlike (IsSameMethod mapping filter) (λ (e : NewMethod). place_of_method c e.0) methods out.methods)
      (λ found. found ≡ further_fault c fields methods out)
      (one_unlike (IsSameMethod mapping filter) (λ (e : NewMethod). place_of_method c e.0) methods out.methods)
      (one_equal (further_fault c fields methods out))

  one_class : (c : Class) (fields : List NewField) (methods : List NewMethod) (out : Class)
      → IsOne (ClassDiffers mapping filter c fields methods out)
  one_class c fields methods out = one_then _ _ (one_unless (IsSameClass mapping c out) (class_place c.name))
      (one_then _ _ (one_unlike (IsSameField mapping) (λ (e : NewField). place_of_field c e.0) fields out.fields)
      (one_methods c fields methods out))

  one_lined : (c : Class) (given : ClassNames) (out : Option Class) → IsOne (LinedDiffers mapping filter c given out)
  one_lined c given None = one_equal None
  one_lined c given (Some out) = one_class c (expected_fields c given) (expected_methods c given) out

  pub one_member_place : (input : List Class) (given : List ClassNames) (output : List Class)
      → IsOne (MemberDiffers mapping filter input given output)
  one_member_place input given output =
      one_first (λ (p : Class × ClassNames). LinedDiffers mapping filter p.0 p.1 (new_one output p.1))
      (λ p. one_lined p.0 p.1 (new_one output p.1)) (zip input given)

  one_code : (c : Class) (methods : List NewMethod) (out : Option Class)
      → IsOne (ClassCodeDiffers mapping filter c methods out)
  one_code c methods None = one_equal None
  one_code c methods (Some out) =
      one_unlike (IsSameBody mapping filter) (λ (e : NewMethod). place_of_method c e.0) methods out.methods

  pub one_code_place : (input : List Class) (given : List ClassNames) (output : List Class)
      → IsOne (CodeDiffers mapping filter input given output)
  one_code_place input given output = one_first
      (λ (p : Class × ClassNames). ClassCodeDiffers mapping filter p.0 (expected_methods p.0 p.1) (new_one output p.1))
      (λ p. one_code p.0 (expected_methods p.0 p.1) (new_one output p.1)) (zip input given)
