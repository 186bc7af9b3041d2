-- What the mapping of what is marked tells of each class and each member of the set.
use Rattle.std.proofs.Common.{◌≡◌, ℕ, ◌+◌, Bool, true, false, cond, List, [], length, map, Option, Some, None}
use Rattle.std.proofs.Common.{slice_get, refl, sym, ap, ◌∙◌, arith}
use Rattle.std.specs.Cmp.Derive.{both_true}
use Rattle.std.specs.List.{position}
use Rattle.std.specs.Map.{lookup}
use Rattle.std.specs.Option.{option_and_then, option_map, option_map_or}
use Rattle.std.proofs.lemmas.Bool.{and_parts}
use Rattle.std.proofs.lemmas.Option.{same_Some, slice_get_within}
use Rattle.std.proofs.lemmas.Simd.{map-map}
use Rattle.jv_base.specs.Names.{is_text}
use Rattle.jv_base.specs.Types.{field_text, method_text}
use Rattle.jv_base.proofs.Equality.{text_Decides, text_itself, same_text}
use Rattle.mark_core.specs.Marks.{Closed, set_of}
use Rattle.class_model.specs.declared.class.Class.{Class}
use Rattle.class_model.specs.declared.class.Field.{Field}
use Rattle.class_model.specs.declared.class.Method.{Method}
use Rattle.class_pool.specs.Hierarchy.{class_named}
use Rattle.class_pool.specs.Items.{class_item}
use Rattle.class_pool.specs.Members.{is_field, is_method}
use Rattle.class_pool.specs.declared.id.ClassId.TheVariants.{Prog}
use Rattle.class_pool.proofs.Distinct.{position_at}
use Rattle.keep_rules.specs.declared.rules.Rules.{Rules}
use Rattle.member_shrink.specs.Shrunk.{chosen, is_marked, shrunk}
use Rattle.rule_system.specs.Required.{kept_by_rules, required}
use Rattle.require_sys.proofs.Closing.{field_in, method_in}
use Rattle.image_laws.proofs.ShrunkImage.Classes.{f, p}
use Rattle.image_laws.proofs.ShrunkImage.Kept.{as_filter}
use Rattle.image_laws.specs.TakenSet.TakenSet.{IsTaken}
use Rattle.image_laws.proofs.TakenSet.Names.{class_found, differ}
use Rattle.mapping_file.specs.declared.mapping.MapClass.{MapClass}
use Rattle.mapping_file.specs.declared.mapping.MapField.{MapField}
use Rattle.mapping_file.specs.declared.mapping.MapMethod.{MapMethod}
use Rattle.mapping_file.specs.declared.mapping.Mapping.{Mapping}
use Rattle.mapping_file.specs.declared.mapping.Range.{Range}
use Rattle.class_rename.specs.Names.{Names}
use Rattle.rename_map.specs.MappingOf as made
use Rattle.new_names.specs.NewNames.{NameAndType, class_line, field_in as field_told, is_same, method_in as method_told}
use Rattle.new_names.specs.NewNames.{new_class, new_field, new_method, range_in}
use Rattle.pair_laws.specs.OwnLines.Laws.{name_if}
use Rattle.pair_laws.proofs.OwnLines.Picked.{one_found}

-- ---- what is told apart

-- a class is the only one of its name
pub one_class : (classes : List Class) → IsTaken classes → (n : ℕ) (c : Class) → slice_get classes n ≡ Some c → (j : ℕ)
    (d : Class) → slice_get classes j ≡ Some d → d.name ≡ c.name → j ≡ n
one_class classes taken n c at j d there same =
    let both : Some (Prog j) ≡ Some (Prog n) =
    sym (named j d there) ∙ ap (class_named classes) same ∙ named n c at in
    cc
  where
    named : (n : ℕ) (c : Class) → slice_get classes n ≡ Some c → class_named classes c.name ≡ Some (Prog n)
    named n c at =
        sym (ap (λ o. class_named classes (option_map_or (λ (c : Class). c.name) o [])) at)
        ∙ class_found classes taken (Prog n) (slice_get_within classes n c at)

one_place : (j k : ℕ) (o : Option ℕ) → o ≡ Some j → o ≡ Some k → j ≡ k
one_place j k o h i = same_Some j k (sym h ∙ i)

same_itself : (key : NameAndType) → is_same key key ≡ true
same_itself key = both_true (text_itself key.0) (text_itself key.1)

-- and a member the only one of its name and descriptor
module _ (classes : List Class) (taken : IsTaken classes) (n : ℕ) (c : Class) (at : slice_get classes n ≡ Some c) where
  pub one_field : (k : ℕ) (x : Field) → slice_get c.fields k ≡ Some x → (j : ℕ) (y : Field)
      → slice_get c.fields j ≡ Some y → is_same (y.name, field_text y.ty) (x.name, field_text x.ty) ≡ true → j ≡ k
  one_field k x there j y here same =
      let test = is_field x.name (field_text x.ty) in
      let parts = and_parts (is_text y.name x.name) (is_text (field_text y.ty) (field_text x.ty)) same in
      let own : test x ≡ true = both_true (text_itself x.name) (text_itself (field_text x.ty)) in
      let other : test y ≡ true = both_true parts.0 ((text_Decides (field_text x.ty) (field_text y.ty)).1
      (sym (same_text (field_text y.ty) (field_text x.ty) parts.1))) in
      let once = (differ classes taken n c at).fields x.name (field_text x.ty) in
      one_place j k (position test c.fields) (position_at test c.fields j y once here other)
      (position_at test c.fields k x once there own)

  pub one_method : (k : ℕ) (x : Method) → slice_get c.methods k ≡ Some x → (j : ℕ) (y : Method)
      → slice_get c.methods j ≡ Some y → is_same (y.name, method_text y.ty) (x.name, method_text x.ty) ≡ true → j ≡ k
  one_method k x there j y here same =
      let test = is_method x.name (method_text x.ty) in
      let parts = and_parts (is_text y.name x.name) (is_text (method_text y.ty) (method_text x.ty)) same in
      let own : test x ≡ true = both_true (text_itself x.name) (text_itself (method_text x.ty)) in
      let other : test y ≡ true = both_true parts.0 ((text_Decides (method_text x.ty) (method_text y.ty)).1
      (sym (same_text (method_text y.ty) (method_text x.ty) parts.1))) in
      let once = (differ classes taken n c at).methods x.name (method_text x.ty) in
      one_place j k (position test c.methods) (position_at test c.methods j y once here other)
      (position_at test c.methods k x once there own)

-- ---- lines

module _ (names : Names) (lines : Bool) (classes : List Class) (marks : List Bool) (taken : IsTaken classes) where
  abbrev mapping : Mapping
  mapping = made.mapping_of names lines (shrunk classes marks)

  abbrev pub marked : ℕ → Bool
  marked = p classes marks

  -- the line of a class that is kept
  abbrev pub line : ℕ → Class → MapClass
  line n c = made.class_lines names lines (f classes marks n c)

  zero_plus : (n : ℕ) → 0 + n ≡ n
  zero_plus n = omega arith

  pub line_told : (n : ℕ) (c : Class) → slice_get classes n ≡ Some c
      → class_line mapping c.name ≡ cond (marked n) (Some (line n c)) None
  line_told n c at =
      ap (lookup test) (map-map (λ (l : MapClass). (l.old, l)) (made.class_lines names lines) (shrunk classes marks))
      ∙ ap (λ (ds : List Class). lookup test (map entry ds)) (as_filter marked (f classes marks) 0 classes)
      ∙ one_found marked (f classes marks) entry test (λ (d : Class). is_text d.name c.name) (λ n x. refl) 0 classes n c
      at (text_itself c.name)
      (λ j d there same. one_class classes taken n c at j d there (same_text d.name c.name same))
      ∙ ap (λ (i : ℕ). cond (marked i) (Some (line i c)) None) (zero_plus n)
    where
      test : List ℕ → Bool
      test old = is_text old c.name

      entry : Class → List ℕ × MapClass
      entry d = (d.name, made.class_lines names lines d)

  -- ---- members of a class

  module _ (n : ℕ) (c : Class) (at : slice_get classes n ≡ Some c) where
    abbrev first_field : ℕ
    first_field = class_item classes n + 1

    abbrev first_method : ℕ
    first_method = class_item classes n + 1 + length c.fields

    field_line : (k : ℕ) (x : Field) → slice_get c.fields k ≡ Some x
        → field_told (line n c) x ≡ cond (is_marked marks (first_field + k)) (Some (names.field x.name)) None
    field_line k x there =
        ap (lookup test) (map-map (λ (l : MapField). ((l.old, field_text l.ty), l.new)) (made.field_line names)
        (chosen marks first_field c.fields))
        ∙ ap (λ (ys : List Field). lookup test (map entry ys))
        (as_filter (is_marked marks) (λ k x. x) first_field c.fields)
        ∙ one_found (is_marked marks) (λ k x. x) entry test
        (λ (y : Field). is_same (y.name, field_text y.ty) (x.name, field_text x.ty)) (λ n x. refl) first_field c.fields
        k x there (same_itself (x.name, field_text x.ty)) (one_field classes taken n c at k x there)
      where
        test : NameAndType → Bool
        test key = is_same key (x.name, field_text x.ty)

        entry : Field → NameAndType × List ℕ
        entry y = ((y.name, field_text y.ty), names.field y.name)

    method_line : (k : ℕ) (x : Method) → slice_get c.methods k ≡ Some x
        → method_told (line n c) x
        ≡ cond (is_marked marks (first_method + k)) (Some (names.method x.name (method_text x.ty))) None
    method_line k x there =
        ap (lookup test) (map-map (λ (l : MapMethod). ((l.old, method_text l.ty), l.new)) (made.method_line names lines)
        (chosen marks first_method c.methods))
        ∙ ap (λ (ys : List Method). lookup test (map entry ys))
        (as_filter (is_marked marks) (λ k x. x) first_method c.methods)
        ∙ one_found (is_marked marks) (λ k x. x) entry test
        (λ (y : Method). is_same (y.name, method_text y.ty) (x.name, method_text x.ty)) (λ n x. refl) first_method
        c.methods k x there (same_itself (x.name, method_text x.ty)) (one_method classes taken n c at k x there)
      where
        test : NameAndType → Bool
        test key = is_same key (x.name, method_text x.ty)

        entry : Method → NameAndType × List ℕ
        entry y = ((y.name, method_text y.ty), names.method y.name (method_text y.ty))

    -- the range that is told of a method that is kept
    pub range_told : (k : ℕ) (x : Method) → slice_get c.methods k ≡ Some x → is_marked marks (first_method + k) ≡ true
        → range_in (line n c) x ≡ (made.method_line names lines x).lines
    range_told k x there kept =
        ap (λ o. option_and_then (λ (r : Option Range). r) o)
        (ap (lookup test) (map-map (λ (l : MapMethod). ((l.old, method_text l.ty), l.lines))
        (made.method_line names lines) (chosen marks first_method c.methods))
        ∙ ap (λ (ys : List Method). lookup test (map entry ys))
        (as_filter (is_marked marks) (λ k x. x) first_method c.methods)
        ∙ one_found (is_marked marks) (λ k x. x) entry test
        (λ (y : Method). is_same (y.name, method_text y.ty) (x.name, method_text x.ty)) (λ n x. refl) first_method
        c.methods k x there (same_itself (x.name, method_text x.ty)) (one_method classes taken n c at k x there)
        ∙ ap (λ (b : Bool). cond b (Some (made.method_line names lines x).lines) None) kept)
      where
        test : NameAndType → Bool
        test key = is_same key (x.name, method_text x.ty)

        entry : Method → NameAndType × Option Range
        entry y = ((y.name, method_text y.ty), (made.method_line names lines y).lines)

    -- what a line tells, where a member that is marked has its class
    by_line : {X : Type 0} (tell : MapClass → Option X) (kept : Bool) (new : X) → (kept ≡ true → marked n ≡ true)
        → tell (line n c) ≡ cond kept (Some new) None
        → option_and_then tell (class_line mapping c.name) ≡ cond kept (Some new) None
    by_line {X} tell kept new own told = ap (option_and_then tell) (line_told n c at) ∙ by (marked n) own
      where
        none : (b : Bool) → (b ≡ true → false ≡ true) → None ≡ cond b (Some new) None
        none true h = absurd (let w = h refl in cc)
        none false h = refl

        by : (b : Bool) → (kept ≡ true → b ≡ true)
            → option_and_then tell (cond b (Some (line n c)) None) ≡ cond kept (Some new) None
        by true h = told
        by false h = none kept h

    -- ---- what is told

    pub class_is_told : new_class mapping c.name ≡ name_if (marked n) (names.class c.name)
    class_is_told = ap (option_map (λ (l : MapClass). l.new)) (line_told n c at) ∙ by (marked n)
      where
        by : (b : Bool) → option_map (λ (l : MapClass). l.new) (cond b (Some (line n c)) None)
            ≡ cond b (Some (names.class c.name)) None
        by true = refl
        by false = refl

    module _ (rules : Rules) (closed : Closed (required classes rules) (set_of marks)) where
      pub field_is_told : (k : ℕ) (x : Field) → slice_get c.fields k ≡ Some x
          → new_field mapping c x ≡ name_if (is_marked marks (first_field + k)) (names.field x.name)
      field_is_told k x there = by_line (λ l. field_told l x) (is_marked marks (first_field + k)) (names.field x.name)
          (λ h. (field_in classes (kept_by_rules classes rules) (is_marked marks) closed n c at k x there h).0)
          (field_line k x there)

      pub method_is_told : (k : ℕ) (x : Method) → slice_get c.methods k ≡ Some x
          → new_method mapping c x
          ≡ name_if (is_marked marks (first_field + (length c.fields + k))) (names.method x.name (method_text x.ty))
      method_is_told k x there =
          let place : first_method + k ≡ first_field + (length c.fields + k) = omega arith in
          let new = names.method x.name (method_text x.ty) in
          by_line (λ l. method_told l x) (is_marked marks (first_method + k)) new
          (λ h. (method_in classes (kept_by_rules classes rules) (is_marked marks) closed n c at k x there
          (ap (is_marked marks) (sym place) ∙ h)).0)
          (method_line k x there) ∙ ap (λ (i : ℕ). name_if (is_marked marks i) new) place
