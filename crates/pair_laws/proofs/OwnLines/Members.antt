-- Each class of the output is the class of the input as MemberDiffers and CodeDiffers ask, so neither finds a place.
use Rattle.std.proofs.Common.{◌≡◌, ℕ, ◌+◌, nat_lt, ◌||◌, Bool, true, false, cond, List, [], ◌∷◌, length, map, Option}
use Rattle.std.proofs.Common.{Some, None, slice_get, refl, sym, ap, subst, ◌∙◌, arith}
use Rattle.std.specs.Prelude.{is_some}
use Rattle.std.specs.Option.{option_and_then, option_map}
use Rattle.std.proofs.lemmas.Bool.{ltb-true}
use Rattle.jv_base.specs.Types.{method_text}
use Rattle.mark_core.specs.Marks.{Closed, set_of}
use Rattle.class_model.specs.declared.class.Class.{Class}
use Rattle.class_model.specs.declared.class.Field.{Field}
use Rattle.class_model.specs.declared.class.Method.{Method}
use Rattle.class_model.specs.declared.code.Code.{Code}
use Rattle.class_model.specs.declared.code.Ins.{Ins}
use Rattle.class_pool.specs.Items.{class_item}
use Rattle.keep_rules.specs.declared.rules.Rules.{Rules}
use Rattle.attribute_filter.specs.Filtered.{code_kept, field_filtered, method_filtered, throws_kept, without_line}
use Rattle.attribute_filter.specs.Filtered.{without_lines}
use Rattle.attribute_filter.specs.KeptAttributes.{filter_of}
use Rattle.attribute_filter.specs.declared.filter.AttributeFilter.{AttributeFilter}
use Rattle.member_shrink.specs.Shrunk.{is_marked}
use Rattle.rule_system.specs.Required.{required}
use Rattle.image_laws.proofs.ShrunkImage.Kept.{as_filter, kept_of}
use Rattle.image_laws.specs.TakenSet.TakenSet.{IsTaken}
use Rattle.mapping_file.specs.declared.mapping.Mapping.{Mapping}
use Rattle.class_rename.specs.Names.{Names}
use Rattle.class_rename.specs.Renamed.{renamed_code, renamed_field, renamed_handler, renamed_ins, renamed_method}
use Rattle.class_rename.specs.Renamed.{renamed_method_type, renamed_type}
use Rattle.set_shrink.specs.ShrunkSet.{left_of, new_names}
use Rattle.new_names.specs.NewNames.{names_given, names_of, new_field, new_method}
use Rattle.new_names.specs.declared.class_names.ClassNames.{ClassNames}
use Rattle.pair_clauses.specs.Codes.{AreSameCodes, ClassCodeDiffers, CodeDiffers, IsSameBody}
use Rattle.pair_clauses.specs.Finding.{FirstUnlike}
use Rattle.pair_clauses.specs.Members.{IsSameClass, IsSameField, IsSameMethod, LinedDiffers, MemberDiffers, NewField}
use Rattle.pair_clauses.specs.Members.{NewMethod, expected_fields, expected_methods, further_fault, new_one}
use Rattle.pair_clauses.specs.Places.{class_place, place_of_field, place_of_method}
use Rattle.pair_clauses.specs.Shape.{number_of}
use Rattle.pair_clauses.proofs.Zipped.{unplaced}
use Rattle.pair_checker.specs.Clauses.{given_names}
use Rattle.pair_laws.specs.OwnLines.Laws.{IsToldByMarks, name_if}
use Rattle.pair_laws.proofs.OwnLines.Found.{become, found_new}
use Rattle.pair_laws.proofs.OwnLines.Picked.{AreGiven, as_many, no_first_of, none_unlike}

-- ---- members

-- what is kept, under new names, is what is renamed of what is kept
throws_renamed : (filter : AttributeFilter) (g : List ℕ → List ℕ) (throws : List (List ℕ))
    → map g (throws_kept filter throws) ≡ throws_kept filter (map g throws)
throws_renamed filter g throws = by filter.exceptions
  where
    by : (b : Bool) → map g (cond b throws []) ≡ cond b (map g throws) []
    by true = refl
    by false = refl

code_there : (filter : AttributeFilter) (g : Code → Code) (code : Option Code)
    → is_some code ≡ is_some (code_kept filter (option_map g code))
code_there filter g code = by filter.line_numbers code
  where
    by : (b : Bool) (code : Option Code)
        → is_some code ≡ is_some (cond b (option_map g code) (option_map without_lines (option_map g code)))
    by true None = refl
    by true (Some c) = refl
    by false None = refl
    by false (Some c) = refl

lines_gone : (names : Names) (ins : List Ins)
    → map (renamed_ins names) (map without_line ins) ≡ map without_line (map (renamed_ins names) ins)
lines_gone names [] = refl
lines_gone names (i ∷ is) = ap (λ (t : List Ins). renamed_ins names (without_line i) ∷ t) (lines_gone names is)

module _ (mapping : Mapping) (names : Names) (told : names_of mapping ≡ names) (filter : AttributeFilter) where
  field_same : (x : Field)
      → IsSameField mapping (x, names.field x.name) (field_filtered filter (renamed_field names x))
  field_same x = record {
    flags = refl;
    name = refl;
    ty = ap (λ (t : Names). renamed_type t x.ty) told;
    constant = refl;
  }

  method_same : (x : Method)
      → IsSameMethod mapping filter (x, names.method x.name (method_text x.ty))
      (method_filtered filter (renamed_method names x))
  method_same x = record {
    flags = refl;
    name = refl;
    ty = ap (λ (t : Names). renamed_method_type t x.ty) told;
    code = code_there filter (renamed_code names) x.code;
    throws = ap (λ (t : Names). map t.class (throws_kept filter x.throws)) told
        ∙ throws_renamed filter names.class x.throws;
  }

  -- codes with their lines where these are kept
  codes_same : (code : Option Code)
      → AreSameCodes mapping (code_kept filter code) (code_kept filter (option_map (renamed_code names) code))
  codes_same code = by filter.line_numbers code
    where
      by : (b : Bool) (code : Option Code)
          → AreSameCodes mapping (cond b code (option_map without_lines code))
          (cond b (option_map (renamed_code names) code)
          (option_map without_lines (option_map (renamed_code names) code)))
      by true None = tt
      by true (Some c) = record {
        ins = ap (λ (t : Names). map (renamed_ins t) c.ins) told;
        handlers = ap (λ (t : Names). map (renamed_handler t) c.handlers) told;
      }
      by false None = tt
      by false (Some c) = record {
        ins = ap (λ (t : Names). map (renamed_ins t) (map without_line c.ins)) told ∙ lines_gone names c.ins;
        handlers = ap (λ (t : Names). map (renamed_handler t) c.handlers) told;
      }

  body_same : (x : Method)
      → IsSameBody mapping filter (x, names.method x.name (method_text x.ty))
      (method_filtered filter (renamed_method names x))
  body_same x = codes_same x.code

-- ---- one class

not_below : (n : ℕ) → nat_lt n n ≡ false
not_below n = by (nat_lt n n) refl
  where
    by : (b : Bool) → nat_lt n n ≡ b → b ≡ false
    by true e = absurd (omega (arith, ltb-true n n e))
    by false e = refl

neither : (a b c d : ℕ) → a ≡ b → c ≡ d → (nat_lt a b || nat_lt c d) ≡ false
neither a b c d first second =
    ap (λ (n : ℕ). nat_lt a n || nat_lt c d) (sym first) ∙ ap (λ (t : Bool). t || nat_lt c d) (not_below a)
    ∙ ap (λ (n : ℕ). nat_lt c n) (sym second) ∙ not_below c

module _ (classes : List Class) (marks : List Bool) (rules : Rules) (old : Option Mapping) (taken : IsTaken classes)
    (closed : Closed (required classes rules) (set_of marks)) (mapping : Mapping)
    (lines : IsToldByMarks (new_names classes marks rules old) classes marks mapping)
    (told : names_of mapping ≡ new_names classes marks rules old) where
  abbrev names : Names
  names = new_names classes marks rules old

  abbrev filter : AttributeFilter
  filter = filter_of rules

  abbrev left : List Class
  left = left_of classes marks rules old

  module _ (n : ℕ) (c : Class) (at : slice_get classes n ≡ Some c) where
    abbrev pub given : ClassNames
    given = names_given mapping c

    abbrev pub out : Class
    out = become classes marks rules old taken closed n c

    abbrev first_field : ℕ
    first_field = class_item classes n + 1

    abbrev pub first_method : ℕ
    first_method = class_item classes n + 1 + length c.fields

    abbrev pub marked : ℕ → Bool
    marked = is_marked marks

    fields_given : AreGiven marked (new_field mapping c) (λ (x : Field). names.field x.name) (renamed_field names)
        (field_filtered filter) first_field c.fields
    fields_given k x there = lines.field n c at k x there

    pub methods_given : AreGiven marked (new_method mapping c) (λ (x : Method). names.method x.name (method_text x.ty))
        (renamed_method names) (method_filtered filter) first_method c.methods
    methods_given k x there =
        let place : first_field + (length c.fields + k) ≡ first_method + k = omega arith in
        lines.method n c at k x there
        ∙ ap (λ (i : ℕ). cond (marked i) (Some (names.method x.name (method_text x.ty))) None) place

    fields_become : map (field_filtered filter)
        (map (renamed_field names) (kept_of marked (λ k x. x) first_field c.fields)) ≡ out.fields
    fields_become = ap (λ (xs : List Field). map (field_filtered filter) (map (renamed_field names) xs))
        (sym (as_filter marked (λ k x. x) first_field c.fields))

    pub methods_become : map (method_filtered filter)
        (map (renamed_method names) (kept_of marked (λ k x. x) first_method c.methods)) ≡ out.methods
    methods_become = ap (λ (xs : List Method). map (method_filtered filter) (map (renamed_method names) xs))
        (sym (as_filter marked (λ k x. x) first_method c.methods))

    class_same : IsSameClass mapping c out
    class_same = record {
      flags = refl;
      super_name = ap (λ (t : Names). t.class c.super_name) told;
      interfaces = ap (λ (t : Names). map t.class c.interfaces) told;
    }

    fields_alike : FirstUnlike (IsSameField mapping) (λ (e : NewField). place_of_field c e.0) (expected_fields c given)
        out.fields None
    fields_alike = subst (λ (ys : List Field). FirstUnlike (IsSameField mapping)
        (λ (e : NewField). place_of_field c e.0) (expected_fields c given) ys None) fields_become
        (none_unlike marked (new_field mapping c) (λ (x : Field). names.field x.name) (renamed_field names)
        (field_filtered filter) (IsSameField mapping) (λ (e : NewField). place_of_field c e.0)
        (field_same mapping names told filter) first_field c.fields fields_given)

    methods_alike : (Alike : NewMethod → Method → Type 0)
        → ((x : Method)
        → Alike (x, names.method x.name (method_text x.ty)) (method_filtered filter (renamed_method names x)))
        → FirstUnlike Alike (λ (e : NewMethod). place_of_method c e.0) (expected_methods c given) out.methods None
    methods_alike Alike alike = subst (λ (ys : List Method). FirstUnlike Alike
        (λ (e : NewMethod). place_of_method c e.0) (expected_methods c given) ys None) methods_become
        (none_unlike marked (new_method mapping c) (λ (x : Method). names.method x.name (method_text x.ty))
        (renamed_method names) (method_filtered filter) Alike (λ (e : NewMethod). place_of_method c e.0) alike
        first_method c.methods methods_given)

    no_more : None ≡ further_fault c (expected_fields c given) (expected_methods c given) out
    no_more =
        let fields = as_many marked (new_field mapping c) (λ (x : Field). names.field x.name) (renamed_field names)
        (field_filtered filter) first_field c.fields fields_given ∙ ap length fields_become in
        let methods = as_many marked (new_method mapping c) (λ (x : Method). names.method x.name (method_text x.ty))
        (renamed_method names) (method_filtered filter) first_method c.methods methods_given
        ∙ ap length methods_become in
        sym (unplaced (nat_lt (length (expected_fields c given)) (length out.fields)
        || nat_lt (length (expected_methods c given)) (length out.methods)) (class_place c.name)
        (neither (length (expected_fields c given)) (length out.fields) (length (expected_methods c given))
        (length out.methods) fields methods))

    -- what a class that is marked has become is found, and one that isn't has become nothing
    abbrev new_by : Option (List ℕ) → Option Class
    new_by name = option_and_then (λ new. option_and_then (λ k. slice_get left k) (number_of left new)) name

    pub new_marked : marked (class_item classes n) ≡ true → new_one left given ≡ Some out
    new_marked h =
        let found = found_new classes marks rules old taken closed n c at h in
        ap new_by (lines.class n c at ∙ ap (λ (b : Bool). name_if b (names.class c.name)) h)
        ∙ ap (option_and_then (λ k. slice_get left k)) found.1 ∙ found.2

    pub new_unmarked : marked (class_item classes n) ≡ false → new_one left given ≡ None
    new_unmarked h = ap new_by (lines.class n c at ∙ ap (λ (b : Bool). name_if b (names.class c.name)) h)

    class_alike : LinedDiffers mapping filter c given (new_one left given) None
    class_alike = by (marked (class_item classes n)) refl
      where
        by : (b : Bool) → marked (class_item classes n) ≡ b
            → LinedDiffers mapping filter c given (new_one left given) None
        by true h = subst (λ (o : Option Class). LinedDiffers mapping filter c given o None) (sym (new_marked h)) (
          class_same,
          (
            fields_alike,
            (
              methods_alike (IsSameMethod mapping filter)
                  (method_same mapping names told filter),
              no_more,
            ),
          ),
        )
        by false h =
            subst (λ (o : Option Class). LinedDiffers mapping filter c given o None) (sym (new_unmarked h)) refl

    codes_alike : ClassCodeDiffers mapping filter c (expected_methods c given) (new_one left given) None
    codes_alike = by (marked (class_item classes n)) refl
      where
        by : (b : Bool) → marked (class_item classes n) ≡ b
            → ClassCodeDiffers mapping filter c (expected_methods c given) (new_one left given) None
        by true h = subst (λ (o : Option Class). ClassCodeDiffers mapping filter c (expected_methods c given) o None)
            (sym (new_marked h)) (methods_alike (IsSameBody mapping filter) (body_same mapping names told filter))
        by false h = subst (λ (o : Option Class). ClassCodeDiffers mapping filter c (expected_methods c given) o None)
            (sym (new_unmarked h)) refl

  -- ---- all classes

  pub no_member_differs : MemberDiffers mapping filter classes (given_names mapping classes) left None
  no_member_differs = no_first_of
      (λ (p : Class × ClassNames). LinedDiffers mapping filter p.0 p.1 (new_one left p.1)) (names_given mapping) classes
      class_alike

  pub no_code_differs : CodeDiffers mapping filter classes (given_names mapping classes) left None
  no_code_differs = no_first_of
      (λ (p : Class × ClassNames). ClassCodeDiffers mapping filter p.0 (expected_methods p.0 p.1) (new_one left p.1))
      (names_given mapping) classes codes_alike
