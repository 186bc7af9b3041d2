-- MemberDiffers and CodeDiffers find a place, or nothing: which classes, members and codes are alike is settled.
use Rattle.std.proofs.Common.{◌≡◌, inl, inr, List, map, Option, Some, None, refl}
use Rattle.std.specs.Prelude.{is_some}
use Rattle.std.specs.List.{zip}
use Rattle.class_model.specs.declared.class.Class.{Class}
use Rattle.class_model.specs.declared.class.Field.{Field}
use Rattle.class_model.specs.declared.class.Method.{Method}
use Rattle.class_model.specs.declared.code.Code.{Code}
use Rattle.attribute_filter.specs.Filtered.{code_kept, throws_kept}
use Rattle.attribute_filter.specs.declared.filter.AttributeFilter.{AttributeFilter}
use Rattle.mapping_file.specs.declared.mapping.Mapping.{Mapping}
use Rattle.class_rename.specs.Names as class_rename
use Rattle.class_rename.specs.Renamed.{renamed_handler, renamed_ins, renamed_method_type, renamed_type}
use Rattle.new_names.specs.NewNames.{names_of}
use Rattle.new_names.specs.declared.class_names.ClassNames.{ClassNames}
use Rattle.pair_clauses.specs.Codes.{AreSameCodes, ClassCodeDiffers, CodeDiffers, IsSameBody, IsSameCode}
use Rattle.pair_clauses.specs.Finding.{FindsUnless, FirstUnlike, Then}
use Rattle.pair_clauses.specs.Members.{ClassDiffers, IsSameClass, IsSameField, IsSameMethod, LinedDiffers}
use Rattle.pair_clauses.specs.Members.{MemberDiffers, MethodsDiffer, NewField, NewMethod, expected_fields}
use Rattle.pair_clauses.specs.Members.{expected_methods, further_fault, new_one}
use Rattle.pair_clauses.specs.Places.{class_place, place_of_field, place_of_method}
use Rattle.answer_laws.proofs.Deciding.{Settled, both_settled, lists_apart, options_apart, settled_as}
use Rattle.answer_laws.proofs.Deciding.{truths_apart}
use Rattle.answer_laws.proofs.Searching.{Searches, search_first, search_then, search_unless, search_unlike}
use Rattle.answer_laws.proofs.Values.{constants_apart, flags_apart, handlers_apart, instructions_apart}
use Rattle.answer_laws.proofs.Values.{method_types_apart, texts_apart, types_apart}

module _ (mapping : Mapping) where
  abbrev names : class_rename.Names
  names = names_of mapping

  -- ---- what is compared

  class_settled : (c out : Class) → Settled (IsSameClass mapping c out)
  class_settled c out =
      settled_as
      (λ (h : (c.flags ≡ out.flags) × ((names.class c.super_name ≡ out.super_name)
      × (map names.class c.interfaces ≡ out.interfaces))).
      let same : IsSameClass mapping c out = record { flags = h.0; super_name = h.1.0; interfaces = h.1.1 } in same)
      (λ (same : IsSameClass mapping c out). (same.flags, (same.super_name, same.interfaces)))
      (both_settled (flags_apart c.flags out.flags)
      (both_settled (texts_apart (names.class c.super_name) out.super_name)
      (lists_apart texts_apart (map names.class c.interfaces) out.interfaces)))

  field_settled : (e : NewField) (out : Field) → Settled (IsSameField mapping e out)
  field_settled e out =
      settled_as
      (λ (h : (e.0.flags ≡ out.flags) × ((e.1 ≡ out.name)
      × ((renamed_type names e.0.ty ≡ out.ty) × (e.0.constant ≡ out.constant)))).
      let same : IsSameField mapping e out =
      record { flags = h.0; name = h.1.0; ty = h.1.1.0; constant = h.1.1.1 } in same)
      (λ (same : IsSameField mapping e out). (same.flags, (same.name, (same.ty, same.constant))))
      (both_settled (flags_apart e.0.flags out.flags) (both_settled (texts_apart e.1 out.name)
      (both_settled (types_apart (renamed_type names e.0.ty) out.ty)
      (options_apart constants_apart e.0.constant out.constant))))

  module _ (filter : AttributeFilter) where
    method_settled : (e : NewMethod) (out : Method) → Settled (IsSameMethod mapping filter e out)
    method_settled e out =
        settled_as
        (λ (h : (e.0.flags ≡ out.flags) × ((e.1 ≡ out.name) × ((renamed_method_type names e.0.ty ≡ out.ty)
        × ((is_some e.0.code ≡ is_some out.code)
        × (map names.class (throws_kept filter e.0.throws) ≡ out.throws))))).
        let same : IsSameMethod mapping filter e out =
        record { flags = h.0; name = h.1.0; ty = h.1.1.0; code = h.1.1.1.0; throws = h.1.1.1.1 } in same)
        (λ (same : IsSameMethod mapping filter e out).
        (same.flags, (same.name, (same.ty, (same.code, same.throws)))))
        (both_settled (flags_apart e.0.flags out.flags) (both_settled (texts_apart e.1 out.name)
        (both_settled (method_types_apart (renamed_method_type names e.0.ty) out.ty)
        (both_settled (truths_apart (is_some e.0.code) (is_some out.code))
        (lists_apart texts_apart (map names.class (throws_kept filter e.0.throws)) out.throws)))))

    code_settled : (code out : Code) → Settled (IsSameCode mapping code out)
    code_settled code out =
        settled_as
        (λ (h : (map (renamed_ins names) code.ins ≡ out.ins)
        × (map (renamed_handler names) code.handlers ≡ out.handlers)).
        let same : IsSameCode mapping code out = record { ins = h.0; handlers = h.1 } in same)
        (λ (same : IsSameCode mapping code out). (same.ins, same.handlers))
        (both_settled (lists_apart instructions_apart (map (renamed_ins names) code.ins) out.ins)
        (lists_apart handlers_apart (map (renamed_handler names) code.handlers) out.handlers))

    codes_settled : (code out : Option Code) → Settled (AreSameCodes mapping code out)
    codes_settled (Some code) (Some out) = code_settled code out
    codes_settled (Some code) None = inr (λ same. same)
    codes_settled None (Some out) = inr (λ same. same)
    codes_settled None None = inl tt

    body_settled : (e : NewMethod) (out : Method) → Settled (IsSameBody mapping filter e out)
    body_settled e out = codes_settled (code_kept filter e.0.code) out.code

    -- ---- classes

    class_searched : (c : Class) (fields : List NewField) (methods : List NewMethod) (out : Class)
        → Searches (ClassDiffers mapping filter c fields methods out)
    class_searched c fields methods out =
        search_then (FindsUnless (IsSameClass mapping c out) (class_place c.name))
        (Then (FirstUnlike (IsSameField mapping) (λ (e : NewField). place_of_field c e.0) fields out.fields)
        (MethodsDiffer mapping filter c fields methods out))
        (search_unless (IsSameClass mapping c out) (class_place c.name) (class_settled c out))
        (search_then (FirstUnlike (IsSameField mapping) (λ (e : NewField). place_of_field c e.0) fields out.fields)
        (MethodsDiffer mapping filter c fields methods out)
        (search_unlike (IsSameField mapping) (λ (e : NewField). place_of_field c e.0) field_settled fields out.fields)
        (search_then (FirstUnlike (IsSameMethod mapping filter) (λ (e : NewMethod). place_of_method c e.0)
        methods out.methods) (λ found. found ≡ further_fault c fields methods out)
        (search_unlike (IsSameMethod mapping filter) (λ (e : NewMethod). place_of_method c e.0) method_settled
        methods out.methods)
        (further_fault c fields methods out, refl)))

    lined_searched : (c : Class) (given : ClassNames) (o : Option Class)
        → Searches (LinedDiffers mapping filter c given o)
    lined_searched c given None = (None, refl)
    lined_searched c given (Some out) = class_searched c (expected_fields c given) (expected_methods c given) out

    body_searched : (c : Class) (methods : List NewMethod) (o : Option Class)
        → Searches (ClassCodeDiffers mapping filter c methods o)
    body_searched c methods None = (None, refl)
    body_searched c methods (Some out) =
        search_unlike (IsSameBody mapping filter) (λ (e : NewMethod). place_of_method c e.0) body_settled
        methods out.methods

    pub members_searched : (input : List Class) (given : List ClassNames) (output : List Class)
        → Searches (MemberDiffers mapping filter input given output)
    members_searched input given output =
        search_first (λ (p : Class × ClassNames). LinedDiffers mapping filter p.0 p.1 (new_one output p.1))
        (zip input given) (λ k p at. lined_searched p.0 p.1 (new_one output p.1))

    pub codes_searched : (input : List Class) (given : List ClassNames) (output : List Class)
        → Searches (CodeDiffers mapping filter input given output)
    codes_searched input given output =
        search_first
        (λ (p : Class × ClassNames). ClassCodeDiffers mapping filter p.0 (expected_methods p.0 p.1)
        (new_one output p.1)) (zip input given)
        (λ k p at. body_searched p.0 (expected_methods p.0 p.1) (new_one output p.1))
