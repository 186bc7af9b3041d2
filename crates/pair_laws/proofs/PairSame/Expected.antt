-- What the clauses MemberDiffers and CodeDiffers give: each class of the output is the class of the input with the
-- members that have lines, under the new names, and so are the codes.
use Rattle.std.proofs.Common.{◌≡◌, ◌≤◌, ℕ, suc, ◌+◌, nat_lt, ◌||◌, Bool, true, false, cond, List, [], ◌∷◌}
use Rattle.std.proofs.Common.{map}
use Rattle.std.proofs.Common.{length, Option, Some, None, slice_get, get_or, refl, sym, ap, subst, ◌∙◌, arith}
use Rattle.std.specs.Prelude.{is_some}
use Rattle.std.specs.List.{AllByRecursion, AllZip, cons_option, filter_map, zip}
use Rattle.std.specs.Option.{option_and_then, option_map, option_map_or, unwrap_or}
use Rattle.std.proofs.lemmas.Bool.{ltb-false, or_parts}
use Rattle.std.proofs.lemmas.List.Quantifiers.{position-Some}
use Rattle.std.proofs.lemmas.Option.{same_Some, slice_get-get_or}
use Rattle.jv_base.specs.Names.{is_text}
use Rattle.jv_base.specs.Types.{field_text, method_text}
use Rattle.jv_base.proofs.Options.{some_there}
use Rattle.jv_base.proofs.Lists.{all_at, all_mapped, all_weaker, all_both}
use Rattle.jv_base.proofs.Equality.{same_text}
use Rattle.class_model.specs.declared.class.Class.{Class}
use Rattle.class_model.specs.declared.class.Field.{Field}
use Rattle.class_model.specs.declared.class.Method.{Method}
use Rattle.class_model.specs.declared.code.Code.{Code}
use Rattle.class_model.specs.declared.code.Ins.{Ins}
use Rattle.class_pool.specs.Items.{class_item}
use Rattle.attribute_filter.specs.Filtered.{code_kept, without_line, without_lines}
use Rattle.attribute_filter.specs.KeptAttributes.{filter_of}
use Rattle.attribute_filter.specs.declared.filter.AttributeFilter.{AttributeFilter}
use Rattle.keep_rules.specs.declared.rules.Rules.{Rules}
use Rattle.rule_system.specs.Required.{kept_by_rules, required}
use Rattle.mark_core.specs.Marks.{Closed, set_of}
use Rattle.member_shrink.specs.Shrunk.{is_marked, shrunk}
use Rattle.image_laws.proofs.ShrunkImage.Classes.{f}
use Rattle.image_laws.proofs.ShrunkImage.Kept.{as_filter, kept_of}
use Rattle.class_rename.specs.Names as class_rename
use Rattle.class_rename.specs.Renamed.{renamed_ins}
use Rattle.mapping_file.specs.declared.mapping.MapClass.{MapClass}
use Rattle.mapping_file.specs.declared.mapping.MapField.{MapField}
use Rattle.mapping_file.specs.declared.mapping.MapMethod.{MapMethod}
use Rattle.mapping_file.specs.declared.mapping.Mapping.{Mapping}
use Rattle.new_names.specs.NewNames.{NameAndType, all_field_names, class_line, class_lines, field_in}
use Rattle.new_names.specs.NewNames.{field_names, is_same, method_in, names_given}
use Rattle.new_names.specs.NewNames.{names_of}
use Rattle.new_names.specs.NewNames.{new_class, new_field, new_method, range_in}
use Rattle.new_names.specs.declared.class_names.ClassNames.{ClassNames}
use Rattle.jvm_model.specs.Mapped.{OptionCorr}
use Rattle.jvm_model.specs.Same.{LineCorr}
use Rattle.pair_clauses.specs.Codes.{AreSameCodes, ClassCodeDiffers, IsSameBody}
use Rattle.pair_clauses.specs.Finding.{FirstOf, FirstUnlike, first_place}
use Rattle.pair_clauses.specs.Members.{ClassDiffers, IsSameClass, IsSameField, IsSameMethod, LinedDiffers, NewField}
use Rattle.pair_clauses.specs.Members.{NewMethod, expected_fields, expected_methods, new_one, with_name}
use Rattle.pair_clauses.specs.Places.{class_place, place_of_field, place_of_method}
use Rattle.pair_clauses.specs.LineRanges.{class_range_fault, leaves_range, range_fault_of}
use Rattle.pair_clauses.specs.Shape.{method_pairs, number_of}
use Rattle.pair_clauses.specs.declared.place.Place.{Place}
use Rattle.require_sys.proofs.Parts.{all_flat_map}
use Rattle.image_laws.specs.TakenSet.TakenSet.{IsTaken}
use Rattle.removal_laws.proofs.RemovalLinks.Left.{stays}
use Rattle.pair_laws.specs.RenamedImage.Renaming.{IsNewClass, IsNewField, IsNewMethod, IsRenamedSet}
use Rattle.pair_laws.specs.RenamedSame.NewCodes.{HasNewCode, HasNewCodes, IsNewCode, IsNewIns}
use Rattle.pair_checker.specs.Clauses.{given_names}
use Rattle.pair_laws.specs.PairSame.Pairs.{IsPair}
use Rattle.pair_laws.proofs.PairSame.ClosedLines.{closed_lines}
use Rattle.pair_laws.proofs.PairSame.Lined.{class_lined, field_lined, marks, method_lined}
use Rattle.pair_laws.proofs.PairSame.Lines.{AreLines, IsLine, first_none, lines_right, no_place}
use Rattle.pair_laws.proofs.PairSame.Tables.{IsFound, all_method_pairs, found_among, looked, method_among_lines, pairs_tell}

-- ---- searches that find nothing

pub first_of_none : {A : Type 0} (Finds : A → Option Place → Type 0) (xs : List A) → FirstOf Finds xs None
    → AllByRecursion (λ x. Finds x None) xs
first_of_none Finds [] h = tt
first_of_none Finds (x ∷ xs) h = (h.0, first_of_none Finds xs h.1)

pub zip_given : {A B : Type 0} (P : A × B → Type 0) (g : A → B) (xs : List A) → AllByRecursion P (zip xs (map g xs))
    → AllByRecursion (λ x. P (x, g x)) xs
zip_given P g [] h = tt
zip_given P g (x ∷ xs) h = (h.0, zip_given P g xs h.1)

unlike_none : {A B : Type 0} (Alike : A → B → Type 0) (place : A → Place) (xs : List A) (ys : List B)
    → FirstUnlike Alike place xs ys None → length ys ≤ length xs → AllZip Alike xs ys
unlike_none Alike place [] [] h low = tt
unlike_none Alike place [] (y ∷ ys) h low = absurd (omega (arith, low))
unlike_none Alike place (x ∷ xs) [] h low = absurd cc
unlike_none Alike place (x ∷ xs) (y ∷ ys) h low = (h.0, unlike_none Alike place xs ys h.1 (omega (arith, low)))

-- what is expected is what is kept, each with its name
module _ {A B : Type 0} (g : A → Option (List ℕ)) (p : ℕ → Bool) (R : A × List ℕ → B → Type 0) (S : A → B → Type 0)
    (from : (x : A) (new : List ℕ) (y : B) → g x ≡ Some new → R (x, new) y → S x y) where
  expected_kept : (n : ℕ) (xs : List A) (ys : List B)
      → ((k : ℕ) (x : A) → slice_get xs k ≡ Some x → p (n + k) ≡ is_some (g x))
      → AllZip R (filter_map with_name (zip xs (map g xs))) ys → AllZip S (kept_of p (λ k x. x) n xs) ys
  expected_kept n [] [] told h = tt
  expected_kept n [] (y ∷ ys) told h = absurd h
  expected_kept n (x ∷ xs) ys told h =
      let start : n ≡ n + 0 = omega arith in
      by (g x) refl (p n) (ap p start ∙ told 0 x refl) ys h
      (λ ys h. expected_kept (n + 1) xs ys
      (λ k x at. let next : n + 1 + k ≡ n + suc k = omega arith in ap p next ∙ told (suc k) x at) h)
    where
      by : (o : Option (List ℕ)) → g x ≡ o → (t : Bool) → t ≡ is_some o → (ys : List B)
          → AllZip R (cons_option (option_map (λ name. (x, name)) o) (filter_map with_name (zip xs (map g xs)))) ys
          → ((ys : List B) → AllZip R (filter_map with_name (zip xs (map g xs))) ys
          → AllZip S (kept_of p (λ k x. x) (n + 1) xs) ys)
          → AllZip S (cond t (x ∷ kept_of p (λ k x. x) (n + 1) xs) (kept_of p (λ k x. x) (n + 1) xs)) ys
      by None e true t ys h r = absurd cc
      by None e false t ys h r = r ys h
      by (Some new) e false t ys h r = absurd cc
      by (Some new) e true t [] h r = absurd h
      by (Some new) e true t (y ∷ ys) h r = (from x new y e h.0, r ys h.1)

-- ---- ranges

places_none : {A : Type 0} (fault : A → Option Place) (xs : List A) → first_place fault xs ≡ None
    → AllByRecursion (λ x. fault x ≡ None) xs
places_none fault [] h = tt
places_none fault (x ∷ xs) h =
    let s = first_none (fault x) (first_place fault xs) h in (s.0, places_none fault xs s.1)

-- of methods that correspond none leaves its range, where none is told
none_leaves : (R : NewMethod → Method → Type 0) (line : MapClass) (c : Class) (xs : List NewMethod) (ys : List Method)
    → AllZip R xs ys → first_place (range_fault_of line c) (zip xs ys) ≡ None
    → AllZip (λ (e : NewMethod) (y : Method). leaves_range (range_in line e.0) y.code ≡ false) xs ys
none_leaves R line c [] [] z h = tt
none_leaves R line c [] (y ∷ ys) z h = absurd z
none_leaves R line c (e ∷ xs) [] z h = absurd z
none_leaves R line c (e ∷ xs) (y ∷ ys) z h =
    let s = first_none (range_fault_of line c (e, y)) (first_place (range_fault_of line c) (zip xs ys)) h in
    (no_place (leaves_range (range_in line e.0) y.code) (place_of_method c e.0) s.0, none_leaves R line c xs ys z.1 s.1)

-- ---- codes

module _ (names : class_rename.Names) where
  instructions_new : (xs ys : List Ins) → map (renamed_ins names) xs ≡ ys → AllZip (IsNewIns names) xs ys
  instructions_new [] [] e = tt
  instructions_new [] (y ∷ ys) e = absurd cc
  instructions_new (x ∷ xs) [] e = absurd cc
  instructions_new (x ∷ xs) (y ∷ ys) e =
      let first : renamed_ins names x ≡ y = cc in
      let rest : map (renamed_ins names) xs ≡ ys = cc in (
        record {
          op = sym (ap (λ (i : Ins). i.op) first);
          line = at_line x.line y.line (ap (λ
              (i : Ins). i.line) first);
        },
        instructions_new xs ys rest,
      )
    where
      at_line : (a b : Option ℕ) → a ≡ b → LineCorr a b
      at_line a None e = tt
      at_line a (Some line) e = e

  lines_gone : (xs ys : List Ins) → map (renamed_ins names) (map without_line xs) ≡ ys → AllZip (IsNewIns names) xs ys
  lines_gone [] [] e = tt
  lines_gone [] (y ∷ ys) e = absurd cc
  lines_gone (x ∷ xs) [] e = absurd cc
  lines_gone (x ∷ xs) (y ∷ ys) e =
      let first : renamed_ins names (without_line x) ≡ y = cc in
      let rest : map (renamed_ins names) (map without_line xs) ≡ ys = cc in (
        record {
          op = sym (ap (λ (i : Ins). i.op) first);
          line = subst (LineCorr x.line) (ap (λ (i : Ins). i.line) first) tt;
        },
        lines_gone xs ys rest,
      )

code_new : (mapping : Mapping) (filter : AttributeFilter) (a b : Option Code)
    → AreSameCodes mapping (code_kept filter a) b
    → OptionCorr (IsNewCode (names_of mapping)) a b
code_new mapping filter a b h = by filter.line_numbers a b h
  where
    by : (t : Bool) (a b : Option Code) → AreSameCodes mapping (cond t a (option_map without_lines a)) b
        → OptionCorr (IsNewCode (names_of mapping)) a b
    by true None None h = refl
    by true None (Some d) h = absurd h
    by true (Some c) None h = absurd h
    by true (Some c) (Some d) h = (
      d,
      refl,
      record {
        ins = instructions_new (names_of mapping) c.ins d.ins h.ins;
        handlers = sym h.handlers;
      },
    )
    by false None None h = refl
    by false None (Some d) h = absurd h
    by false (Some c) None h = absurd h
    by false (Some c) (Some d) h = (
      d,
      refl,
      record {
        ins = lines_gone (names_of mapping) c.ins d.ins h.ins;
        handlers = sym h.handlers;
      },
    )

-- the class with a number has the name by which that was found
pub numbered_class : (cs : List Class) (name : List ℕ) (n : ℕ) → number_of cs name ≡ Some n
    → (d : Class) × (slice_get cs n ≡ Some d) × (d.name ≡ name)
numbered_class [] name n e = absurd cc
numbered_class (d ∷ cs) name n e =
    let p = position-Some (λ (c : Class). is_text name c.name) (d ∷ cs) n d e in
    (get_or (d ∷ cs) n d, slice_get-get_or (d ∷ cs) n d p.0, sym (same_text name (get_or (d ∷ cs) n d).name p.1))

pub some_under : {X Y : Type 0} (g : X → Y) (o : Option X) → is_some (option_map g o) ≡ true → (x : X) × (o ≡ Some x)
some_under g None h = absurd cc
some_under g (Some x) h = (x, refl)

module _ (input output : List Class) (mapping : Mapping) (rules : Rules) (taken : IsTaken input)
    (pair : IsPair input output mapping rules) where
  abbrev pub names : class_rename.Names
  names = names_of mapping

  abbrev pub lined : List Bool
  lined = marks mapping input

  pub closed : Closed (required input rules) (set_of lined)
  closed = closed_lines input rules (given_names mapping input) pair.seeds pair.closed

  pub lines : AreLines input output mapping.classes
  lines = lines_right input output mapping pair.shape

  abbrev pub fields_table : List (List ℕ × List ℕ)
  fields_table = all_field_names mapping.classes

  abbrev pub methods_table : List (NameAndType × NameAndType)
  methods_table = all_method_pairs mapping.classes

  -- ---- lines

  -- what holds of a line of a class
  pub record GoodLine (l : MapClass) : Type 0 where
    pub line : IsLine input output mapping.classes l
    pub fields : AllByRecursion (IsFound is_text fields_table) (field_names l.fields)
    pub methods : AllByRecursion (IsFound is_same methods_table) (method_pairs l.methods)

  pub all_good : AllByRecursion GoodLine mapping.classes
  all_good =
      let fields = all_flat_map (IsFound is_text fields_table) (λ (l : MapClass). field_names l.fields) mapping.classes
      lines.fields in
      let methods = all_flat_map (IsFound is_same methods_table) (λ (l : MapClass). method_pairs l.methods) mapping.classes
      lines.methods in
      all_weaker (λ (l : MapClass). IsLine input output mapping.classes l
      × (AllByRecursion (IsFound is_text fields_table) (field_names l.fields)
      × AllByRecursion (IsFound is_same methods_table) (method_pairs l.methods))) GoodLine
      (λ l h. record { line = h.0; fields = h.1.0; methods = h.1.1 }) mapping.classes
      (all_both (IsLine input output mapping.classes)
      (λ (l : MapClass). AllByRecursion (IsFound is_text fields_table) (field_names l.fields)
      × AllByRecursion (IsFound is_same methods_table) (method_pairs l.methods)) mapping.classes lines.each
      (all_both (λ (l : MapClass). AllByRecursion (IsFound is_text fields_table) (field_names l.fields))
      (λ (l : MapClass). AllByRecursion (IsFound is_same methods_table)
      (method_pairs l.methods)) mapping.classes fields methods))

  -- the line of a class
  pub line_of : (name : List ℕ) (l : MapClass) → class_line mapping name ≡ Some l → GoodLine l × (l.old ≡ name)
  line_of name l e =
      let h = looked (λ (p : List ℕ × MapClass). GoodLine p.1 × (p.0 ≡ p.1.old)) (λ old. is_text old name)
      (class_lines mapping.classes) l
      (all_mapped (λ (p : List ℕ × MapClass). GoodLine p.1 × (p.0 ≡ p.1.old)) (λ (l : MapClass). (l.old, l))
      mapping.classes (all_weaker GoodLine (λ (l : MapClass). GoodLine l × (l.old ≡ l.old)) (λ l g. (g, refl))
      mapping.classes all_good)) e in
      (h.holds.0, sym h.holds.1 ∙ same_text h.key name h.passes)

  -- the new name of a class
  pub class_new : (name new : List ℕ) → new_class mapping name ≡ Some new → names.class name ≡ new
  class_new name new e = ap (λ o. unwrap_or o name) e

  -- the names of members with lines are those of the tables
  pub field_found : (c : Class) (x : Field) (new : List ℕ) → new_field mapping c x ≡ Some new
      → IsFound is_text fields_table (x.name, new)
  field_found c x new e = by (class_line mapping c.name) refl e
    where
      by : (o : Option MapClass) → class_line mapping c.name ≡ o → option_and_then (λ l. field_in l x) o ≡ Some new
          → IsFound is_text fields_table (x.name, new)
      by None is e = absurd cc
      by (Some l) is e =
          let good = (line_of c.name l is).0 in
          found_among fields_table (λ (m : MapField). m.old) (λ (m : MapField). field_text m.ty)
          (λ (m : MapField). m.new) l.fields x.name (field_text x.ty) new good.fields e

  pub method_found : (c : Class) (x : Method) (new : List ℕ) → new_method mapping c x ≡ Some new
      → IsFound is_same methods_table ((x.name, method_text x.ty), (new, method_text x.ty))
  method_found c x new e = by (class_line mapping c.name) refl e
    where
      by : (o : Option MapClass) → class_line mapping c.name ≡ o → option_and_then (λ l. method_in l x) o ≡ Some new
          → IsFound is_same methods_table ((x.name, method_text x.ty), (new, method_text x.ty))
      by None is e = absurd cc
      by (Some l) is e =
          let good = (line_of c.name l is).0 in
          method_among_lines methods_table l.methods (x.name, method_text x.ty) new good.methods e

  pub field_name : (a new : List ℕ) → IsFound is_text fields_table (a, new) → names.field a ≡ new
  field_name a new h = ap (λ o. unwrap_or o a) h.old

  pub method_name : (a new d : List ℕ) → IsFound is_same methods_table ((a, d), (new, d)) → names.method a d ≡ new
  method_name a new d h =
      pairs_tell mapping.classes (a, d) ∙ ap (λ (o : Option NameAndType). (unwrap_or o (a, d)).0) h.old

  -- ---- the class of the output

  -- what a class with a line has become
  pub record NewOne (c : Class) : Type 0 where
    pub line : MapClass
    pub line_is : class_line mapping c.name ≡ Some line
    pub number : ℕ
    pub number_is : number_of output line.new ≡ Some number
    pub out : Class
    pub at : slice_get output number ≡ Some out
    pub name : out.name ≡ line.new
    pub one : new_one output (names_given mapping c) ≡ Some out

  pub new_of : (c : Class) → is_some (new_class mapping c.name) ≡ true → NewOne c
  new_of c h =
      let l = some_under (λ (l : MapClass). l.new) (class_line mapping c.name) h in
      let good = (line_of c.name l.0 l.1).0 in
      let n = some_there (number_of output l.0.new) good.line.in_output in
      let found = numbered_class output l.0.new n.0 n.1 in
      record {
        line = l.0;
        line_is = l.1;
        number = n.0;
        number_is = n.1;
        out = found.0;
        at = found.1;
        name = found.2;
        one =
            ap (λ (o : Option MapClass). option_and_then (λ new. option_and_then (λ n. slice_get output n)
            (number_of output new)) (option_map (λ (l : MapClass). l.new) o)) l.1
            ∙ ap (option_and_then (λ n. slice_get output n)) n.1 ∙ found.1;
      }

  -- the clauses at a class of the input
  members_at : (n : ℕ) (c : Class) → slice_get input n ≡ Some c
      → LinedDiffers mapping (filter_of rules) c (names_given mapping c) (new_one output (names_given mapping c)) None
  members_at n c at =
      all_at (λ (c : Class). LinedDiffers mapping (filter_of rules) c (names_given mapping c)
      (new_one output (names_given mapping c)) None) input n c
      (zip_given (λ (p : Class × ClassNames). LinedDiffers mapping (filter_of rules) p.0 p.1 (new_one output p.1) None)
      (names_given mapping) input
      (first_of_none (λ (p : Class × ClassNames). LinedDiffers mapping (filter_of rules) p.0 p.1 (new_one output p.1))
      (zip input (given_names mapping input)) pair.members)) at

  codes_at : (n : ℕ) (c : Class) → slice_get input n ≡ Some c
      → ClassCodeDiffers mapping (filter_of rules) c (expected_methods c (names_given mapping c))
      (new_one output (names_given mapping c)) None
  codes_at n c at =
      all_at (λ (c : Class). ClassCodeDiffers mapping (filter_of rules) c (expected_methods c (names_given mapping c))
      (new_one output (names_given mapping c)) None) input n c
      (zip_given (λ (p : Class × ClassNames). ClassCodeDiffers mapping (filter_of rules) p.0 (expected_methods p.0 p.1)
      (new_one output p.1) None) (names_given mapping) input
      (first_of_none (λ (p : Class × ClassNames). ClassCodeDiffers mapping (filter_of rules) p.0
      (expected_methods p.0 p.1) (new_one output p.1)) (zip input (given_names mapping input)) pair.codes)) at

  -- what is compared agrees
  record Compared (n : ℕ) (c : Class) (o : NewOne c) : Type 0 where
    class : IsSameClass mapping c o.out
    fields : AllZip (IsSameField mapping) (expected_fields c (names_given mapping c)) o.out.fields
    methods : AllZip (IsSameMethod mapping (filter_of rules)) (expected_methods c (names_given mapping c)) o.out.methods
    bodies : AllZip (IsSameBody mapping (filter_of rules)) (expected_methods c (names_given mapping c)) o.out.methods

  compared : (n : ℕ) (c : Class) (at : slice_get input n ≡ Some c) (o : NewOne c) → Compared n c o
  compared n c at o =
      let fields = expected_fields c (names_given mapping c) in
      let methods = expected_methods c (names_given mapping c) in
      let all : ClassDiffers mapping (filter_of rules) c fields methods o.out None =
      subst (λ (x : Option Class). LinedDiffers mapping (filter_of rules) c (names_given mapping c) x None) o.one
      (members_at n c at) in
      let codes : FirstUnlike (IsSameBody mapping (filter_of rules)) (λ (e : NewMethod). place_of_method c e.0) methods
      o.out.methods None =
      subst (λ (x : Option Class). ClassCodeDiffers mapping (filter_of rules) c methods x None) o.one
      (codes_at n c at) in
      let more = or_parts (nat_lt (length fields) (length o.out.fields))
      (nat_lt (length methods) (length o.out.methods))
      (no_place (nat_lt (length fields) (length o.out.fields) || nat_lt (length methods) (length o.out.methods))
      (class_place c.name) (sym all.1.1.1)) in
      let few = ltb-false (length fields) (length o.out.fields) more.0 in
      let few_methods = ltb-false (length methods) (length o.out.methods) more.1 in
      record {
        class = all.0;
        fields = unlike_none (IsSameField mapping) (λ
            (e : NewField). place_of_field c e.0) fields o.out.fields all.1.0 few;
        methods = unlike_none (IsSameMethod mapping (filter_of rules)) (λ
            (e : NewMethod). place_of_method c e.0) methods
            o.out.methods all.1.1.0 few_methods;
        bodies = unlike_none (IsSameBody mapping (filter_of rules)) (λ (e : NewMethod). place_of_method c e.0) methods
            o.out.methods codes few_methods;
      }

  -- ---- classes of the output are those that are left, under new names

  abbrev pub left : List Class
  left = shrunk input lined

  -- where a class that is left stands in the output
  abbrev pub place : ℕ → ℕ
  place n = option_map_or (λ (c : Class). unwrap_or (number_of output (names.class c.name)) 0) (slice_get left n) 0

  abbrev first_item : ℕ → ℕ
  first_item n = class_item input n + 1

  fields_new : (n : ℕ) (c : Class) → slice_get input n ≡ Some c → (o : NewOne c)
      → AllZip (IsNewField names) (f input lined n c).fields o.out.fields
  fields_new n c at o =
      subst (λ (t : List Field). AllZip (IsNewField names) t o.out.fields)
      (sym (as_filter (is_marked lined) (λ k x. x) (first_item n) c.fields))
      (expected_kept (new_field mapping c) (is_marked lined) (IsSameField mapping) (IsNewField names)
      (λ x new y e h. record {
        name = sym h.name ∙ sym (field_name x.name new (field_found c x new e));
        ty = sym h.ty;
        flags = sym h.flags;
        constant = sym h.constant;
      }) (first_item n) c.fields o.out.fields (field_lined mapping input n c at) (compared n c at o).fields)

  abbrev method_item : ℕ → Class → ℕ
  method_item n c = class_item input n + 1 + length c.fields

  methods_told : (n : ℕ) (c : Class) → slice_get input n ≡ Some c → (k : ℕ) (x : Method)
      → slice_get c.methods k ≡ Some x → is_marked lined (method_item n c + k) ≡ is_some (new_method mapping c x)
  methods_told n c at k x there =
      let item : class_item input n + 1 + length c.fields + k ≡ class_item input n + 1 + (length c.fields + k) =
      omega arith in
      ap (is_marked lined) item ∙ method_lined mapping input n c at k x there

  pub methods_new : (n : ℕ) (c : Class) → slice_get input n ≡ Some c → (o : NewOne c)
      → AllZip (IsNewMethod names) (f input lined n c).methods o.out.methods
  methods_new n c at o =
      subst (λ (t : List Method). AllZip (IsNewMethod names) t o.out.methods)
      (sym (as_filter (is_marked lined) (λ k x. x) (method_item n c) c.methods))
      (expected_kept (new_method mapping c) (is_marked lined) (IsSameMethod mapping (filter_of rules))
      (IsNewMethod names)
      (λ x new y e h. record {
        name = sym h.name ∙ sym (method_name x.name new (method_text x.ty) (method_found c x new e));
        ty = sym h.ty;
        flags = sym h.flags;
      }) (method_item n c) c.methods o.out.methods (methods_told n c at) (compared n c at o).methods)

  bodies_new : (n : ℕ) (c : Class) → slice_get input n ≡ Some c → (o : NewOne c)
      → AllZip (HasNewCode names) (f input lined n c).methods o.out.methods
  bodies_new n c at o =
      subst (λ (t : List Method). AllZip (HasNewCode names) t o.out.methods)
      (sym (as_filter (is_marked lined) (λ k x. x) (method_item n c) c.methods))
      (expected_kept (new_method mapping c) (is_marked lined) (IsSameBody mapping (filter_of rules)) (HasNewCode names)
      (λ x new y e h. code_new mapping (filter_of rules) x.code y.code h) (method_item n c) c.methods o.out.methods
      (methods_told n c at) (compared n c at o).bodies)

  -- the lines of each code lie in the range of its method, if one is told
  range_at : (n : ℕ) (c : Class) → slice_get input n ≡ Some c
      → class_range_fault (class_line mapping c.name) c (names_given mapping c) (new_one output (names_given mapping c))
      ≡ None
  range_at n c at =
      all_at (λ (c : Class). class_range_fault (class_line mapping c.name) c (names_given mapping c)
      (new_one output (names_given mapping c)) ≡ None) input n c
      (zip_given (λ (p : Class × ClassNames). class_range_fault (class_line mapping p.0.name) p.0 p.1
      (new_one output p.1) ≡ None) (names_given mapping) input
      (places_none (λ (p : Class × ClassNames). class_range_fault (class_line mapping p.0.name) p.0 p.1
      (new_one output p.1)) (zip input (given_names mapping input)) (sym pair.ranges))) at

  pub ranges_new : (n : ℕ) (c : Class) → slice_get input n ≡ Some c → (o : NewOne c)
      → AllZip (λ (x y : Method). leaves_range (range_in o.line x) y.code ≡ false) (f input lined n c).methods
      o.out.methods
  ranges_new n c at o =
      subst (λ (t : List Method). AllZip (λ (x y : Method). leaves_range (range_in o.line x) y.code ≡ false) t
      o.out.methods)
      (sym (as_filter (is_marked lined) (λ k x. x) (method_item n c) c.methods))
      (expected_kept (new_method mapping c) (is_marked lined)
      (λ (e : NewMethod) (y : Method). leaves_range (range_in o.line e.0) y.code ≡ false)
      (λ (x y : Method). leaves_range (range_in o.line x) y.code ≡ false)
      (λ x new y e h. h) (method_item n c) c.methods o.out.methods (methods_told n c at)
      (none_leaves (IsSameMethod mapping (filter_of rules)) o.line c (expected_methods c (names_given mapping c))
      o.out.methods (compared n c at o).methods
      ((λ i. class_range_fault (sym o.line_is i) c (names_given mapping c) (sym o.one i)) ∙ range_at n c at)))

  -- a class that is left, with what it was and what it becomes
  pub record Becomes (j : ℕ) (d : Class) : Type 0 where
    pub n : ℕ
    pub class : Class
    pub there : slice_get input n ≡ Some class
    pub is : d ≡ f input lined n class
    pub new : NewOne class
    pub place_is : place j ≡ new.number

  pub becomes : (j : ℕ) (d : Class) → slice_get left j ≡ Some d → Becomes j d
  becomes j d at =
      let s = stays input (kept_by_rules input rules) lined closed taken j d at in
      let o = new_of s.class (sym (class_lined mapping input s.n s.class s.there) ∙ s.marked) in
      let new_name : names.class d.name ≡ o.line.new =
      ap (λ (x : Class). names.class x.name) s.is
      ∙ class_new s.class.name o.line.new (ap (option_map (λ (l : MapClass). l.new)) o.line_is) in
      record {
        n = s.n;
        class = s.class;
        there = s.there;
        is = s.is;
        new = o;
        place_is =
            ap (λ x. option_map_or (λ (c : Class). unwrap_or (number_of output (names.class c.name)) 0) x 0) at
            ∙ ap (λ (t : List ℕ). unwrap_or (number_of output t) 0) new_name ∙ ap (λ x. unwrap_or x 0) o.number_is;
      }

  pub renamed : IsRenamedSet names place left output
  renamed j d at =
      let b = becomes j d at in
      let o = b.new in
      let same = (compared b.n b.class b.there o).class in (
        o.out,
        ap (slice_get output) b.place_is ∙ o.at,
        subst (λ (x : Class). IsNewClass names x o.out) (sym b.is) (record {
          name = o.name ∙ sym (class_new b.class.name o.line.new (ap (option_map (λ (l : MapClass). l.new)) o.line_is));
          flags = sym same.flags;
          super_name = sym same.super_name;
          interfaces = sym same.interfaces;
          fields = fields_new b.n b.class b.there o;
          methods = methods_new b.n b.class b.there o;
        }),
      )

  pub codes_new : HasNewCodes names place left output
  codes_new j d e at then_at =
      let b = becomes j d at in
      let o = b.new in
      let out : e ≡ o.out = same_Some e o.out (sym then_at ∙ ap (slice_get output) b.place_is ∙ o.at) in
      subst (λ (x : Class). AllZip (HasNewCode names) d.methods x.methods) (sym out)
      (subst (λ (x : Class). AllZip (HasNewCode names) x.methods o.out.methods) (sym b.is)
      (bodies_new b.n b.class b.there o))
