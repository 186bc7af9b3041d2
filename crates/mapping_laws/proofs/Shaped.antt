-- What MapShape alone gives: the line of a class with its members, and the class of the output that it names.
use Rattle.std.proofs.Common.{◌≡◌, ℕ, true, List, Option, Some, None, slice_get, refl, sym}
use Rattle.std.proofs.Common.{ap, ◌∙◌}
use Rattle.std.specs.Prelude.{is_some}
use Rattle.std.specs.List.{AllByRecursion}
use Rattle.std.specs.Option.{option_and_then, option_map, unwrap_or}
use Rattle.jv_base.specs.Names.{is_text}
use Rattle.jv_base.specs.Types.{field_text, method_text}
use Rattle.jv_base.proofs.Equality.{same_text}
use Rattle.jv_base.proofs.Lists.{all_both, all_mapped, all_weaker}
use Rattle.jv_base.proofs.Options.{some_there}
use Rattle.class_model.specs.declared.class.Class.{Class}
use Rattle.class_model.specs.declared.class.Field.{Field}
use Rattle.class_model.specs.declared.class.Method.{Method}
use Rattle.class_rename.specs.Names as class_rename
use Rattle.mapping_file.specs.declared.mapping.MapClass.{MapClass}
use Rattle.mapping_file.specs.declared.mapping.MapField.{MapField}
use Rattle.mapping_file.specs.declared.mapping.Mapping.{Mapping}
use Rattle.new_names.specs.NewNames.{NameAndType, all_field_names, class_line, class_lines, field_in, field_names}
use Rattle.new_names.specs.NewNames.{is_same, method_in, names_given, names_of, new_class, new_field, new_method}
use Rattle.pair_clauses.specs.Members.{new_one}
use Rattle.pair_clauses.specs.Shape.{method_pairs, number_of, shape_fault}
use Rattle.require_sys.proofs.Parts.{all_flat_map}
use Rattle.pair_laws.proofs.PairSame.Expected.{numbered_class, some_under}
use Rattle.pair_laws.proofs.PairSame.Lines.{AreLines, IsLine, lines_right}
use Rattle.pair_laws.proofs.PairSame.Tables.{IsFound, all_method_pairs, found_among, looked, method_among_lines}
use Rattle.pair_laws.proofs.PairSame.Tables.{pairs_tell}

module _ (input output : List Class) (mapping : Mapping) (shape : None ≡ shape_fault input output mapping) where
  abbrev names : class_rename.Names
  names = names_of mapping

  pub lines : AreLines input output mapping.classes
  lines = lines_right input output mapping shape

  abbrev pub fields_table : List (List ℕ × List ℕ)
  fields_table = all_field_names mapping.classes

  abbrev pub methods_table : List (NameAndType × NameAndType)
  methods_table = all_method_pairs mapping.classes

  -- ---- lines

  -- what holds of a line of a class
  pub record GoodLine (l : MapClass) : Type 0 where
    pub line : IsLine input output mapping.classes l
    pub fields : AllByRecursion (IsFound is_text fields_table) (field_names l.fields)
    pub methods : AllByRecursion (IsFound is_same methods_table) (method_pairs l.methods)

  pub all_good : AllByRecursion GoodLine mapping.classes
  all_good =
      let fields = all_flat_map (IsFound is_text fields_table) (λ (l : MapClass). field_names l.fields) mapping.classes
      lines.fields in
      let methods = all_flat_map (IsFound is_same methods_table) (λ (l : MapClass). method_pairs l.methods) mapping.classes
      lines.methods in
      all_weaker (λ (l : MapClass). IsLine input output mapping.classes l
      × (AllByRecursion (IsFound is_text fields_table) (field_names l.fields)
      × AllByRecursion (IsFound is_same methods_table) (method_pairs l.methods))) GoodLine
      (λ l h. record { line = h.0; fields = h.1.0; methods = h.1.1 }) mapping.classes
      (all_both (IsLine input output mapping.classes)
      (λ (l : MapClass). AllByRecursion (IsFound is_text fields_table) (field_names l.fields)
      × AllByRecursion (IsFound is_same methods_table) (method_pairs l.methods)) mapping.classes lines.each
      (all_both (λ (l : MapClass). AllByRecursion (IsFound is_text fields_table) (field_names l.fields))
      (λ (l : MapClass). AllByRecursion (IsFound is_same methods_table)
      (method_pairs l.methods)) mapping.classes fields methods))

  -- the line of a class
  pub line_of : (name : List ℕ) (l : MapClass) → class_line mapping name ≡ Some l → GoodLine l × (l.old ≡ name)
  line_of name l e =
      let h = looked (λ (p : List ℕ × MapClass). GoodLine p.1 × (p.0 ≡ p.1.old)) (λ old. is_text old name)
      (class_lines mapping.classes) l
      (all_mapped (λ (p : List ℕ × MapClass). GoodLine p.1 × (p.0 ≡ p.1.old)) (λ (l : MapClass). (l.old, l))
      mapping.classes (all_weaker GoodLine (λ (l : MapClass). GoodLine l × (l.old ≡ l.old)) (λ l g. (g, refl))
      mapping.classes all_good)) e in
      (h.holds.0, sym h.holds.1 ∙ same_text h.key name h.passes)

  -- the new name of a class
  pub class_new : (name new : List ℕ) → new_class mapping name ≡ Some new → names.class name ≡ new
  class_new name new e = ap (λ o. unwrap_or o name) e

  -- the names of members with lines are those of the tables
  pub field_found : (c : Class) (x : Field) (new : List ℕ) → new_field mapping c x ≡ Some new
      → IsFound is_text fields_table (x.name, new)
  field_found c x new e = by (class_line mapping c.name) refl e
    where
      by : (o : Option MapClass) → class_line mapping c.name ≡ o → option_and_then (λ l. field_in l x) o ≡ Some new
          → IsFound is_text fields_table (x.name, new)
      by None is e = absurd cc
      by (Some l) is e =
          let good = (line_of c.name l is).0 in
          found_among fields_table (λ (m : MapField). m.old) (λ (m : MapField). field_text m.ty)
          (λ (m : MapField). m.new) l.fields x.name (field_text x.ty) new good.fields e

  pub method_found : (c : Class) (x : Method) (new : List ℕ) → new_method mapping c x ≡ Some new
      → IsFound is_same methods_table ((x.name, method_text x.ty), (new, method_text x.ty))
  method_found c x new e = by (class_line mapping c.name) refl e
    where
      by : (o : Option MapClass) → class_line mapping c.name ≡ o → option_and_then (λ l. method_in l x) o ≡ Some new
          → IsFound is_same methods_table ((x.name, method_text x.ty), (new, method_text x.ty))
      by None is e = absurd cc
      by (Some l) is e =
          let good = (line_of c.name l is).0 in
          method_among_lines methods_table l.methods (x.name, method_text x.ty) new good.methods e

  pub field_name : (a new : List ℕ) → IsFound is_text fields_table (a, new) → names.field a ≡ new
  field_name a new h = ap (λ o. unwrap_or o a) h.old

  pub method_name : (a new d : List ℕ) → IsFound is_same methods_table ((a, d), (new, d)) → names.method a d ≡ new
  method_name a new d h =
      pairs_tell mapping.classes (a, d)
      ∙ ap (λ (o : Option NameAndType). let n : NameAndType = unwrap_or o (a, d) in n.0) h.old

  -- ---- the class of the output

  -- what a class with a line has become
  pub record NewOne (c : Class) : Type 0 where
    pub line : MapClass
    pub line_is : class_line mapping c.name ≡ Some line
    pub number : ℕ
    pub number_is : number_of output line.new ≡ Some number
    pub out : Class
    pub at : slice_get output number ≡ Some out
    pub name : out.name ≡ line.new
    pub one : new_one output (names_given mapping c) ≡ Some out

  pub new_of : (c : Class) → is_some (new_class mapping c.name) ≡ true → NewOne c
  new_of c h =
      let l = some_under (λ (l : MapClass). l.new) (class_line mapping c.name) h in
      let good = (line_of c.name l.0 l.1).0 in
      let n = some_there (number_of output l.0.new) good.line.in_output in
      let found = numbered_class output l.0.new n.0 n.1 in
      record {
        line = l.0;
        line_is = l.1;
        number = n.0;
        number_is = n.1;
        out = found.0;
        at = found.1;
        name = found.2;
        one =
            ap (λ (o : Option MapClass). option_and_then (λ new. option_and_then (λ n. slice_get output n)
            (number_of output new)) (option_map (λ (l : MapClass). l.new) o)) l.1
            ∙ ap (option_and_then (λ n. slice_get output n)) n.1 ∙ found.1;
      }
