-- Where each item has a line and no clause on names finds a place, none does of the classes under the names of the
-- mapping, by rules that keep each attribute; so both sets do the same.
use Rattle.std.proofs.Common.{◌≡◌, ℕ, ◌+◌, ◌<◌, nat_lt, ◌||◌, not, Bool, true, false, List, [], ◌∷◌, length, map}
use Rattle.std.proofs.Common.{Option, Some, None, slice_get, refl, sym, ap, subst, ◌∙◌, arith, codes}
use Rattle.std.specs.Prelude.{is_some, if◌then◌else◌}
use Rattle.std.specs.Option.{option_map}
use Rattle.std.proofs.lemmas.Bool.{or_right}
use Rattle.std.proofs.lemmas.Option.{slice_get_within}
use Rattle.jv_base.specs.Types.{method_text}
use Rattle.jv_base.proofs.Options.{some_there}
use Rattle.lib_table.specs.Lookups as table
use Rattle.mark_core.specs.Marks.{Closed, set_of}
use Rattle.class_model.specs.declared.class.Class.{Class}
use Rattle.class_model.specs.declared.class.Field.{Field}
use Rattle.class_model.specs.declared.class.Method.{Method}
use Rattle.class_model.specs.declared.code.Code.{Code}
use Rattle.class_pool.specs.Count.{item_count}
use Rattle.class_pool.specs.Hierarchy.{class_named, or_found}
use Rattle.class_pool.specs.Items.{class_item}
use Rattle.class_pool.specs.declared.id.ClassId.TheVariants.{Lib, Prog}
use Rattle.keep_match.specs.Filters.{accepts, accepts_attribute}
use Rattle.keep_match.specs.Wildcards.{wild}
use Rattle.keep_rules.specs.declared.rules.Filter.{Filter}
use Rattle.keep_rules.specs.declared.rules.Rules.{Rules}
use Rattle.attribute_filter.specs.Filtered.{without_lines}
use Rattle.attribute_filter.specs.KeptAttributes.{filter_of, is_kept}
use Rattle.attribute_filter.specs.declared.filter.AttributeFilter.{AttributeFilter}
use Rattle.member_shrink.specs.Shrunk.{is_marked}
use Rattle.rule_system.specs.Required.{kept_by_rules, required}
use Rattle.rule_system.proofs.AskedThere.{required_valid}
use Rattle.mapping_file.specs.declared.mapping.MapClass.{MapClass}
use Rattle.mapping_file.specs.declared.mapping.Mapping.{Mapping}
use Rattle.class_rename.specs.Names as class_rename
use Rattle.class_rename.specs.Renamed.{renamed, renamed_code, renamed_field, renamed_method}
use Rattle.new_names.specs.NewNames.{names_given, names_of, new_class, new_field, new_method}
use Rattle.new_names.specs.declared.class_names.ClassNames.{ClassNames}
use Rattle.pair_clauses.specs.Closing.{lined_items}
use Rattle.pair_clauses.specs.Codes.{AreSameCodes, ClassCodeDiffers, CodeDiffers, IsSameBody}
use Rattle.pair_clauses.specs.Finding.{FirstUnlike}
use Rattle.pair_clauses.specs.Members.{IsSameClass, IsSameField, IsSameMethod, LinedDiffers, MemberDiffers, NewField}
use Rattle.pair_clauses.specs.Members.{NewMethod, expected_fields, expected_methods, further_fault, new_one}
use Rattle.pair_clauses.specs.Places.{class_place, place_of_field, place_of_method}
use Rattle.pair_clauses.proofs.Zipped.{unplaced}
use Rattle.pair_checker.specs.Clauses.{given_names}
use Rattle.image_laws.specs.TakenSet.TakenSet.{IsTaken}
use Rattle.mapping_laws.specs.Laws.{IsUnderMapping, MappedKeepsSame}
use Rattle.pair_laws.specs.PairSame.Pairs.{IsPair}
use Rattle.pair_laws.specs.RenamedSame.Laws.{all_marks}
use Rattle.mapping_laws.proofs.Alike.{as_many, neither, none_unlike}
use Rattle.pair_laws.proofs.OwnLines.Closing.{no_item_lacks, no_seed_lost}
use Rattle.pair_laws.proofs.OwnLines.Picked.{no_first_of}
use Rattle.pair_laws.proofs.PairSame.Lined.{class_lined, field_lined, method_lined}
use Rattle.pair_laws.proofs.PairSame.PairSame.{pair_same}
use Rattle.mapping_laws.proofs.Shaped.{NewOne, class_new, field_found, field_name, method_found, method_name}
use Rattle.mapping_laws.proofs.Shaped.{new_of}
use Rattle.mapping_laws.proofs.AllMarked.{closed_by, item_room, marked}
use Rattle.pair_laws.proofs.RenamedTaken.Setting.{found_of}

-- ---- rules that keep each attribute

-- a filter with a pattern, and behind it the same one with a `!`: one of them accepts each name
abbrev each_name : List Filter
each_name = record { negated = false; pattern = [] } ∷ record { negated = true; pattern = [] } ∷ []

each_accepted : (matches : List ℕ → Bool) → accepts matches each_name ≡ true
unfolding accepts
each_accepted matches = by (matches [])
  where
    by : (b : Bool) → (if b then true else (if b then false else true)) ≡ true
    by true = refl
    by false = refl

abbrev keeping : Rules → Rules
keeping rules = record rules { attrs = each_name }

kept : (rules : Rules) (name : List ℕ) → is_kept (keeping rules) name ≡ true
kept rules name = or_right (not rules.obfuscate) (accepts_attribute each_name name)
    (each_accepted (λ pattern. wild pattern name))

-- ---- members

module _ (mapping : Mapping) (filter : AttributeFilter) where
  abbrev new_names : class_rename.Names
  new_names = names_of mapping

  field_same : (x : Field) → IsSameField mapping (x, new_names.field x.name) (renamed_field new_names x)
  field_same x = record { flags = refl; name = refl; ty = refl; constant = refl }

  code_there : (code : Option Code) → is_some code ≡ is_some (option_map (renamed_code new_names) code)
  code_there None = refl
  code_there (Some code) = refl

  method_same : filter.exceptions ≡ true → (x : Method)
      → IsSameMethod mapping filter (x, new_names.method x.name (method_text x.ty)) (renamed_method new_names x)
  method_same throws x = record {
    flags = refl;
    name = refl;
    ty = refl;
    code = code_there x.code;
    throws = ap (λ (b : Bool). map new_names.class (if b then x.throws else [])) throws;
  }

  codes_same : (code : Option Code) → AreSameCodes mapping code (option_map (renamed_code new_names) code)
  codes_same None = tt
  codes_same (Some code) = record { ins = refl; handlers = refl }

  body_same : filter.line_numbers ≡ true → (x : Method)
      → IsSameBody mapping filter (x, new_names.method x.name (method_text x.ty)) (renamed_method new_names x)
  body_same lines x =
      subst (λ (b : Bool). AreSameCodes mapping (if b then x.code else option_map without_lines x.code)
      (option_map (renamed_code new_names) x.code)) (sym lines) (codes_same x.code)

module _ (input output : List Class) (mapping : Mapping) (rules : Rules) (place : ℕ → ℕ) (taken : IsTaken input)
    (then_taken : IsTaken output) (h : IsUnderMapping input output mapping rules place) where
  abbrev names : class_rename.Names
  names = names_of mapping

  abbrev filter : AttributeFilter
  filter = filter_of (keeping rules)

  -- ---- each item has its new name

  is_lined : (k : ℕ) → k < item_count input → is_marked (lined_items (given_names mapping input)) k ≡ true
  is_lined k low = ap (λ (marks : List Bool). is_marked marks k) h.lined ∙ marked input k low

  module _ (n : ℕ) (c : Class) (at : slice_get input n ≡ Some c) where
    abbrev given : ClassNames
    given = names_given mapping c

    abbrev out : Class
    out = renamed names c

    class_there : is_some (new_class mapping c.name) ≡ true
    class_there =
        let room = item_room input n c at in
        sym (class_lined mapping input n c at) ∙ is_lined (class_item input n) (omega (arith, room))

    field_given : (k : ℕ) (x : Field) → slice_get c.fields k ≡ Some x
        → new_field mapping c x ≡ Some (names.field x.name)
    field_given k x there =
        let room = item_room input n c at in
        let low = slice_get_within c.fields k x there in
        let new = some_there (new_field mapping c x) (sym (field_lined mapping input n c at k x there)
        ∙ is_lined (class_item input n + 1 + k) (omega (arith, room, low))) in
        new.1 ∙ ap Some (sym (field_name input output mapping h.shape x.name new.0
        (field_found input output mapping h.shape c x new.0 new.1)))

    method_given : (k : ℕ) (x : Method) → slice_get c.methods k ≡ Some x
        → new_method mapping c x ≡ Some (names.method x.name (method_text x.ty))
    method_given k x there =
        let room = item_room input n c at in
        let low = slice_get_within c.methods k x there in
        let new = some_there (new_method mapping c x) (sym (method_lined mapping input n c at k x there)
        ∙ is_lined (class_item input n + 1 + (length c.fields + k)) (omega (arith, room, low))) in
        new.1 ∙ ap Some (sym (method_name input output mapping h.shape x.name new.0 (method_text x.ty)
        (method_found input output mapping h.shape c x new.0 new.1)))

    -- ---- the class of the output

    same_number : (j : ℕ) → Some (Prog j) ≡ Some (Prog (place n)) → j ≡ place n
    same_number j e = cc

    found : new_one output given ≡ Some out
    found =
        let new : NewOne input output mapping h.shape c = new_of input output mapping h.shape c class_there in
        let name : names.class c.name ≡ new.line.new =
        class_new input output mapping h.shape c.name new.line.new
        (ap (option_map (λ (l : MapClass). l.new)) new.line_is) in
        let own : class_named output new.line.new ≡ Some (Prog (place n)) =
        ap (class_named output) (sym name) ∙ (found_of output then_taken).own (place n) out (h.at n c at) in
        let numbered : class_named output new.line.new ≡ Some (Prog new.number) =
        ap (λ o. or_found o (option_map Lib (table.class_named new.line.new))) new.number_is in
        let place_is : new.number ≡ place n = same_number new.number (sym numbered ∙ own) in
        new.one ∙ sym new.at ∙ ap (slice_get output) place_is ∙ h.at n c at

    -- ---- what is compared

    class_same : IsSameClass mapping c out
    class_same = record { flags = refl; super_name = refl; interfaces = refl }

    fields_alike : FirstUnlike (IsSameField mapping) (λ (e : NewField). place_of_field c e.0) (expected_fields c given)
        out.fields None
    fields_alike = none_unlike (new_field mapping c) (λ (x : Field). names.field x.name) (renamed_field names)
        (IsSameField mapping) (λ (e : NewField). place_of_field c e.0) (field_same mapping filter) c.fields field_given

    methods_alike : (Alike : NewMethod → Method → Type 0)
        → ((x : Method) → Alike (x, names.method x.name (method_text x.ty)) (renamed_method names x))
        → FirstUnlike Alike (λ (e : NewMethod). place_of_method c e.0) (expected_methods c given) out.methods None
    methods_alike Alike alike = none_unlike (new_method mapping c)
        (λ (x : Method). names.method x.name (method_text x.ty)) (renamed_method names) Alike
        (λ (e : NewMethod). place_of_method c e.0) alike c.methods method_given

    no_more : None ≡ further_fault c (expected_fields c given) (expected_methods c given) out
    no_more =
        sym (unplaced (nat_lt (length (expected_fields c given)) (length out.fields)
        || nat_lt (length (expected_methods c given)) (length out.methods)) (class_place c.name)
        (neither (length (expected_fields c given)) (length out.fields) (length (expected_methods c given))
        (length out.methods)
        (as_many (new_field mapping c) (λ (x : Field). names.field x.name) (renamed_field names) c.fields field_given)
        (as_many (new_method mapping c) (λ (x : Method). names.method x.name (method_text x.ty)) (renamed_method names)
        c.methods method_given)))

    class_alike : LinedDiffers mapping filter c given (new_one output given) None
    class_alike = subst (λ (o : Option Class). LinedDiffers mapping filter c given o None) (sym found) (
      class_same,
      (
        fields_alike,
        (
          methods_alike (IsSameMethod mapping filter)
              (method_same mapping filter (kept rules (codes "Exceptions"))),
          no_more,
        ),
      ),
    )

    codes_alike : ClassCodeDiffers mapping filter c (expected_methods c given) (new_one output given) None
    codes_alike = subst (λ (o : Option Class). ClassCodeDiffers mapping filter c (expected_methods c given) o None)
        (sym found) (methods_alike (IsSameBody mapping filter)
        (body_same mapping filter (kept rules (codes "LineNumberTable"))))

  -- ---- no clause finds a place

  members_alike : MemberDiffers mapping filter input (given_names mapping input) output None
  members_alike = no_first_of
      (λ (p : Class × ClassNames). LinedDiffers mapping filter p.0 p.1 (new_one output p.1)) (names_given mapping) input
      class_alike

  bodies_alike : CodeDiffers mapping filter input (given_names mapping input) output None
  bodies_alike = no_first_of
      (λ (p : Class × ClassNames). ClassCodeDiffers mapping filter p.0 (expected_methods p.0 p.1) (new_one output p.1))
      (names_given mapping) input codes_alike

  closed : Closed (required input (keeping rules)) (set_of (all_marks input))
  closed = closed_by input (kept_by_rules input (keeping rules)) (required_valid input (keeping rules))

  pair : IsPair input output mapping (keeping rules)
  pair = record {
    shape = h.shape;
    fixed = h.fixed;
    packages = h.packages;
    seeds = no_seed_lost input (given_names mapping input) (required input (keeping rules)) (all_marks input) closed
        h.lined;
    closed = no_item_lacks input (given_names mapping input) (required input (keeping rules)) (all_marks input) closed
        h.lined;
    members = members_alike;
    codes = bodies_alike;
    ranges = h.ranges;
  }

pub mapped_same : MappedKeepsSame
mapped_same input output mapping rules place taken then_taken h entries kept =
    pair_same input output mapping (keeping rules) taken then_taken
    (pair input output mapping rules place taken then_taken h) entries kept
