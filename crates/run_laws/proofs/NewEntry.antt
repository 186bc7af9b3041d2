-- What `compare` takes for an entry in an output is the method that stands for it in a pair, and a run may begin there.
use Rattle.std.proofs.Common.{◌≡◌, ⊎_elim, inl, inr, ◌+◌, ◌<◌, ◌&&◌, not, ℕ, zero, suc, Bool, true, false, cond}
use Rattle.std.proofs.Common.{List, [], ◌∷◌, length, map, Option, Some, None, slice_get, refl, sym, ap, subst, ◌∙◌, arith}
use Rattle.std.proofs.Common.{codes}
use Rattle.std.specs.Prelude.{IsSome, is_some}
use Rattle.std.specs.List.{find, list_all}
use Rattle.std.specs.Map.{lookup}
use Rattle.std.specs.Option.{option_and_then, option_map, option_map_or, unwrap_or}
use Rattle.std.specs.Result.{result_ok}
use Rattle.std.proofs.lemmas.Bool.{and_from, and_parts, not-true}
use Rattle.jv_base.specs.Names.{is_text}
use Rattle.jv_base.specs.Types.{IsMethodType, method_text}
use Rattle.jv_base.specs.declared.types.Base.{Base}
use Rattle.jv_base.specs.declared.types.Base.TheVariants as base
use Rattle.jv_base.specs.declared.types.FieldType.{FieldType}
use Rattle.jv_base.specs.declared.types.MethodType.{MethodType}
use Rattle.jv_base.proofs.Equality.{same_text, text_is}
use Rattle.jv_base.proofs.MethodLaw.{read_method-only}
use Rattle.jv_base.proofs.Options.{some_there}
use Rattle.class_model.specs.Flags.{acc_static, has}
use Rattle.class_model.specs.declared.class.Class.{Class}
use Rattle.class_model.specs.declared.class.Method.{Method}
use Rattle.class_pool.specs.Found.{MemberRow, NameAndType, is_method_at, is_static_member, method_row}
use Rattle.class_pool.specs.Found.{name_of, row_at, rows_in}
use Rattle.class_pool.specs.Items.{class_item}
use Rattle.class_pool.specs.declared.id.ClassId.{ClassId}
use Rattle.class_pool.specs.declared.id.ClassId.TheVariants.{Prog, Lib}
use Rattle.class_pool.specs.declared.id.MemberAt.{MemberAt}
use Rattle.class_rename.specs.Names as class_rename
use Rattle.class_rename.specs.Renamed.{renamed_base, renamed_method_type, renamed_type}
use Rattle.keep_rules.specs.declared.rules.Rules.{Rules}
use Rattle.link_check.specs.Profile.{is_of_library}
use Rattle.mapping_file.specs.declared.mapping.MapClass.{MapClass}
use Rattle.mapping_file.specs.declared.mapping.MapMethod.{MapMethod}
use Rattle.mapping_file.specs.declared.mapping.Mapping.{Mapping}
use Rattle.member_shrink.specs.Shrunk.{is_marked}
use Rattle.new_names.specs.NewNames.{class_line, is_same, method_in, method_lines, new_method}
use Rattle.rule_system.specs.Required.{kept_by_rules}
use Rattle.require_sys.specs.declared.kept.KeptByRules.{KeptByRules}
use Rattle.jvm_model.specs.Heap.{string}
use Rattle.jvm_model.specs.Start.{are_plain_parameters, is_plain, is_plain_base}
use Rattle.jvm_model.specs.Value.{Key}
use Rattle.set_view.specs.ViewOf.{is_startable, is_static_method, key_at, member_of}
use Rattle.image_laws.specs.SetImage.Image.{Image}
use Rattle.image_laws.specs.ShrunkImage.Keeping.{is_index_marked, is_member_kept, member_place}
use Rattle.image_laws.specs.TakenSet.TakenSet.{IsTaken}
use Rattle.image_laws.specs.ViewImage.ImageView.{IsImageView}
use Rattle.image_laws.proofs.ShrunkImage.Classes.{class_of_kept, member_marked, row_same}
use Rattle.image_laws.proofs.TakenSet.Members.{row_parts}
use Rattle.image_laws.proofs.ViewImage.Naming.{member_is}
use Rattle.pair_laws.specs.PairSame.Entries.{AreEntries, IsEntry}
use Rattle.pair_laws.specs.PairSame.Laws.{pair_names}
use Rattle.pair_laws.specs.PairSame.Pairs.{IsPair}
use Rattle.pair_laws.specs.RenamedImage.Renaming.{IsNamedBy, KeepsNamesApart, is_method_text, placed_member, renamed_named}
use Rattle.pair_laws.specs.RenamedSame.Laws.{IsLeftUnderNames}
use Rattle.pair_laws.specs.RenamedSame.NewKeys as keys
use Rattle.pair_laws.proofs.PairSame.Entered.{entries_kept}
use Rattle.pair_laws.proofs.PairSame.Expected.{left, lined, method_found, method_name, names, place}
use Rattle.pair_laws.proofs.PairSame.Lined.{method_lined}
use Rattle.pair_laws.proofs.PairSame.Naming.{apart}
use Rattle.pair_laws.proofs.PairSame.PairSame.{left_under_names}
use Rattle.pair_laws.proofs.RenamedForm.Spelled.{method_type_spelled}
use Rattle.pair_laws.proofs.RenamedImage.Descriptors.{field_is_none, method_is_one, method_spelled}
use Rattle.pair_laws.proofs.RenamedImage.MemberNames.{program_row}
use Rattle.pair_laws.proofs.RenamedSame.Codes.{image_of}
use Rattle.pair_laws.proofs.RenamedSame.Moved.{key_is}
use Rattle.pair_laws.proofs.RenamedSame.NewView.{new_view}
use Rattle.run_command.specs.declared.entries.Entry.{Entry}
use Rattle.compare_command.specs.NewEntry.{is_line_of, named_in, new_entry, new_key, new_name}

-- ---- rows

-- a row that is there
there : {X : Type 0} (test : X → Bool) (o : Option X) → option_map_or test o false ≡ true
    → (x : X) × (o ≡ Some x) × (test x ≡ true)
there test None h = absurd cc
there test (Some x) h = (x, refl, h)

-- a member of the program with a method's descriptor is a method
is_method_row : (classes : List Class) (x : ClassId) (k : ℕ) (row : MemberRow) → is_of_library x ≡ false
    → slice_get (rows_in classes x) k ≡ Some row → is_method_text row.named.1 ≡ true → row.is_method ≡ true
is_method_row classes (Lib id) k row own at text = absurd cc
is_method_row classes (Prog j) k row own at text =
    let d = program_row classes k row j at in
    ⊎_elim
    (λ p. absurd (let w : true ≡ false = sym text ∙ ap (λ (r : MemberRow). is_method_text r.named.1) p.2
    ∙ field_is_none p.0.ty in cc))
    (λ p. ap (λ (r : MemberRow). r.is_method) p.4)
    (row_parts d.0.fields d.0.methods k row d.2)

-- a method of the program, in its class
pub record MethodOf (classes : List Class) (m : MemberAt) (row : MemberRow) : Type 0 where
  pub own : ℕ
  pub class_is : m.class ≡ Prog own
  pub class : Class
  pub there : slice_get classes own ≡ Some class
  pub number : ℕ
  pub method : Method
  pub index_is : m.index ≡ length class.fields + number
  pub at : slice_get class.methods number ≡ Some method
  pub row_is : row ≡ method_row method

method_of : (classes : List Class) (x : ClassId) (k : ℕ) (row : MemberRow) → is_of_library x ≡ false
    → slice_get (rows_in classes x) k ≡ Some row → row.is_method ≡ true
    → MethodOf classes (record { class = x; index = k }) row
method_of classes (Lib id) k row own at kind = absurd cc
method_of classes (Prog j) k row own at kind =
    let d = program_row classes k row j at in
    ⊎_elim
    (λ p. absurd (let w : true ≡ false = sym kind ∙ ap (λ (r : MemberRow). r.is_method) p.2 in cc))
    (λ p. record {
      own = j;
      class_is = refl;
      class = d.0;
      there = d.1;
      number = p.0;
      method = p.1;
      index_is = p.2;
      at = p.3;
      row_is = p.4;
    })
    (row_parts d.0.fields d.0.methods k row d.2)

-- ---- the lines of methods

lookup_line : (k : Key) (b : Bool) (l : MapMethod) (rest : Option (List ℕ)) (found : Option MapMethod)
    → rest ≡ option_map (λ (line : MapMethod). line.new) found
    → cond b (Some l.new) rest ≡ option_map (λ (line : MapMethod). line.new) (cond b (Some l) found)
lookup_line k true l rest found e = refl
lookup_line k false l rest found e = e

looked_up : (k : Key) (ls : List MapMethod)
    → lookup (λ (key : NameAndType). is_same key (k.name, k.descriptor)) (method_lines ls)
    ≡ option_map (λ (line : MapMethod). line.new) (find (is_line_of k) ls)
looked_up k [] = refl
looked_up k (l ∷ ls) = lookup_line k (is_line_of k l) l _ (find (is_line_of k) ls) (looked_up k ls)

-- the new name of a method with a line
named_so : (mapping : Mapping) (k : Key) (c : Class) (x : Method) (new : List ℕ) → k.class ≡ c.name → k.name ≡ x.name
    → k.descriptor ≡ method_text x.ty → new_method mapping c x ≡ Some new → new_name mapping k ≡ new
named_so mapping k c x new class name descriptor e =
    ap (λ (t : List ℕ). unwrap_or (option_map (λ (l : MapClass). named_in k l.methods) (class_line mapping t)) k.name)
    class
    ∙ by (class_line mapping c.name) e
  where
    same : (ls : List MapMethod)
        → lookup (λ (key : NameAndType). is_same key (x.name, method_text x.ty)) (method_lines ls)
        ≡ lookup (λ (key : NameAndType). is_same key (k.name, k.descriptor)) (method_lines ls)
    same ls = λ i. lookup (λ (key : NameAndType). is_same key (sym name i, sym descriptor i)) (method_lines ls)

    by : (o : Option MapClass) → option_and_then (λ (l : MapClass). method_in l x) o ≡ Some new
        → unwrap_or (option_map (λ (l : MapClass). named_in k l.methods) o) k.name ≡ new
    by None e = absurd cc
    by (Some l) e = ap (λ o. unwrap_or o k.name)
        (sym (looked_up k l.methods) ∙ sym (same l.methods) ∙ e)

-- ---- types

module _ (new : class_rename.Names) (stays : new.class string ≡ string) where
  plain_base : (b : Base) → is_plain_base b ≡ true → is_plain_base (renamed_base new b) ≡ true
  plain_base (base.Class name) h =
      let same = same_text name string h in
      text_is (new.class name) string (ap new.class same ∙ stays)
  plain_base base.Boolean h = refl
  plain_base base.Byte h = refl
  plain_base base.Char h = refl
  plain_base base.Short h = refl
  plain_base base.Int h = refl
  plain_base base.Long h = refl
  plain_base base.Float h = absurd cc
  plain_base base.Double h = absurd cc

  plain_types : (types : List FieldType) → list_all is_plain types ≡ true
      → list_all is_plain (map (renamed_type new) types) ≡ true
  plain_types [] h = refl
  plain_types (ty ∷ types) h =
      let p = and_parts (is_plain ty) (list_all is_plain types) h in
      and_from (is_plain (renamed_type new ty)) (list_all is_plain (map (renamed_type new) types))
      (plain_base ty.base p.0) (plain_types types p.1)

-- ---- an entry of a pair

pub one_entry : (input : List Class) (rules : Rules) (k : Key) → IsEntry input rules k → AreEntries input rules (k ∷ [])
one_entry input rules k is other (zero, low, same) = subst (IsEntry input rules) same is
one_entry input rules k is other (suc n, low, same) = absurd (omega (arith, low))

kept_by : {X : Type 0} (b : Bool) (x : X) → IsSome (cond b (Some x) None) → b ≡ true
kept_by true x h = refl
kept_by false x h = absurd cc

module _ (input output : List Class) (mapping : Mapping) (rules : Rules) (taken : IsTaken input)
    (then_taken : IsTaken output) (pair : IsPair input output mapping rules) (entry : Entry)
    (typed : IsMethodType entry.ty) (spelled : method_text entry.ty ≡ entry.key.descriptor)
    (is : IsEntry input rules entry.key) where
  abbrev k : Key
  k = entry.key

  abbrev m : MemberAt
  m = is.member

  abbrev kept_rules : KeptByRules
  kept_rules = kept_by_rules input rules

  abbrev marks : List Bool
  marks = lined input output mapping rules taken pair

  abbrev new : class_rename.Names
  new = names input output mapping rules taken pair

  abbrev places : ℕ → ℕ
  places = place input output mapping rules taken pair

  abbrev rest : List Class
  rest = left input output mapping rules taken pair

  under : IsLeftUnderNames input kept_rules marks new places output
  under = left_under_names input output mapping rules taken then_taken pair

  names_apart : KeepsNamesApart new rest
  names_apart = apart input output mapping rules taken then_taken pair

  abbrev image : Image input output
  image = image_of input kept_rules marks new places output taken under

  told : IsImageView input output image
  told = new_view input kept_rules marks new places output taken under

  kept : is_member_kept input marks m ≡ true
  kept =
      let some = entries_kept input output mapping rules taken pair (k ∷ []) (one_entry input rules k is) k
      (zero, omega arith, refl) in
      kept_by (is_member_kept input marks m) (keys.new_key new k)
      (subst (λ o. IsSome (cond (option_map_or (is_member_kept input marks) o false) (Some (keys.new_key new k)) None))
      is.member_is some)

  -- its place in the output
  abbrev moved : MemberAt
  moved = placed_member places (member_place input marks m)

  key_here : key_at input m ≡ k
  key_here = (member_is input k m is.member_is).key

  key_there : key_at output moved ≡ keys.new_key new k
  key_there = key_is input kept_rules marks new places output taken under m kept ∙ ap (keys.new_key new) key_here

  renamed : renamed_named new (k.name, k.descriptor)
      ≡ (new.method k.name k.descriptor, method_text (renamed_method_type new entry.ty))
  renamed = method_spelled new (k.name, k.descriptor) entry.ty typed spelled

  -- ---- what is known of the method

  parts : ((option_map_or (is_static_method input) (member_of input k) false && not (is_text k.name (codes "<clinit>")))
      ≡ true) × (are_plain_parameters k.descriptor ≡ true)
  parts = and_parts (option_map_or (is_static_method input) (member_of input k) false
      && not (is_text k.name (codes "<clinit>"))) (are_plain_parameters k.descriptor) is.startable

  static_named : (is_static_method input m ≡ true) × (not (is_text k.name (codes "<clinit>")) ≡ true)
  static_named =
      let p = and_parts (option_map_or (is_static_method input) (member_of input k) false)
      (not (is_text k.name (codes "<clinit>"))) parts.0 in
      (sym (ap (λ o. option_map_or (is_static_method input) o false) is.member_is) ∙ p.0, p.1)

  static_own : ((is_method_at input m && is_static_member input m) ≡ true) × (not (is_of_library m.class) ≡ true)
  static_own = and_parts (is_method_at input m && is_static_member input m) (not (is_of_library m.class)) static_named.0

  kind_static : (is_method_at input m ≡ true) × (is_static_member input m ≡ true)
  kind_static = and_parts (is_method_at input m) (is_static_member input m) static_own.0

  own : is_of_library m.class ≡ false
  own = not-true (is_of_library m.class) static_own.1

  row : (row : MemberRow) × (row_at input m ≡ Some row) × (row.is_method ≡ true)
  row = there (λ (r : MemberRow). r.is_method) (row_at input m) kind_static.0

  row_named : row.0.named ≡ (k.name, k.descriptor)
  row_named =
      sym (ap (λ o. option_map_or (λ (r : MemberRow). r.named) o ([], [])) row.1)
      ∙ ap (λ (x : Key). let n : NameAndType = (x.name, x.descriptor) in n) key_here

  -- ---- its new name

  not_clinit : is_text (new.method k.name k.descriptor) (codes "<clinit>") ≡ false
  not_clinit = by (is_text (new.method k.name k.descriptor) (codes "<clinit>")) refl
    where
      named : IsNamedBy rest true (k.name, k.descriptor)
      named = record {
        class = (member_place input marks m).class;
        index = (member_place input marks m).index;
        row = row.0;
        at = row_same input marks m kept ∙ row.1;
        kind = row.2;
        named_is = row_named;
      }

      by : (b : Bool) → is_text (new.method k.name k.descriptor) (codes "<clinit>") ≡ b → b ≡ false
      by false e = refl
      by true e =
          let clinit = same_text (new.method k.name k.descriptor) (codes "<clinit>") e in
          let same = names_apart.one_method k.name (codes "<clinit>") k.descriptor (inl named) (inr (refl, refl))
          (clinit ∙ sym (names_apart.clinit k.descriptor)) in
          let is_one = text_is k.name (codes "<clinit>") same in
          absurd (let w : false ≡ true = sym (ap not is_one) ∙ static_named.1 in cc)

  line : new_name mapping k ≡ new.method k.name k.descriptor
  line =
      let x = method_of input m.class m.index row.0 own row.1 row.2 in
      let marked : is_marked marks (class_item input x.own + 1 + (length x.class.fields + x.number)) ≡ true =
      subst (λ (j : ℕ). is_marked marks (class_item input x.own + 1 + j) ≡ true) x.index_is
      (subst (λ (c : ClassId). is_index_marked input marks c m.index ≡ true) x.class_is
      (member_marked input marks m kept)) in
      let some : is_some (new_method mapping x.class x.method) ≡ true =
      sym (method_lined mapping input x.own x.class x.there x.number x.method x.at) ∙ marked in
      let given = some_there (new_method mapping x.class x.method) some in
      let class : k.class ≡ x.class.name =
      sym (ap (λ (y : Key). y.class) key_here) ∙ ap (name_of input) x.class_is
      ∙ ap (λ o. option_map_or (λ (c : Class). c.name) o []) x.there in
      let named : (k.name, k.descriptor) ≡ (x.method.name, method_text x.method.ty) =
      sym row_named ∙ ap (λ (r : MemberRow). r.named) x.row_is in
      let name : k.name ≡ x.method.name = ap (λ (n : NameAndType). n.0) named in
      let descriptor : k.descriptor ≡ method_text x.method.ty = ap (λ (n : NameAndType). n.1) named in
      let found = method_found input output mapping rules taken pair x.class x.method given.0 given.1 in
      named_so mapping k x.class x.method given.0 class name descriptor given.1
      ∙ sym (method_name input output mapping rules taken pair x.method.name given.0 (method_text x.method.ty) found)
      ∙ (λ i. new.method (sym name i) (sym descriptor i))

  pub key_same : new_key mapping entry ≡ keys.new_key new k
  key_same = λ i. record {
    class = new.class k.class;
    name = (line ∙ ap (λ (n : NameAndType). n.0) (sym renamed)) i;
    descriptor = ap (λ (n : NameAndType). n.1) (sym renamed) i;
  }

  -- ---- a run may begin there

  found : member_of output (key_at output moved) ≡ Some moved
  found = told.member_named m kept

  static_there : is_static_member output moved ≡ true
  static_there = image.flag_moved acc_static m kept ∙ kind_static.1

  own_there : is_of_library moved.class ≡ false
  own_there = told.library_moved m.class (class_of_kept input marks m kept) ∙ own

  kind_there : is_method_at output moved ≡ true
  kind_there =
      let r = there (λ (r : MemberRow). has acc_static r.flags) (row_at output moved) static_there in
      let text : r.0.named.1 ≡ method_text (renamed_method_type new entry.ty) =
      sym (ap (λ o. option_map_or (λ (q : MemberRow). q.named.1) o []) r.1) ∙ descriptor_of (row_at output moved)
      ∙ ap (λ (x : Key). x.descriptor) key_there ∙ ap (λ (n : NameAndType). n.1) renamed in
      let one = is_method_row output moved.class moved.index r.0 own_there r.1
      (ap is_method_text text ∙ method_is_one (renamed_method_type new entry.ty)) in
      ap (λ o. option_map_or (λ (q : MemberRow). q.is_method) o false) r.1 ∙ one
    where
      descriptor_of : (o : Option MemberRow) → option_map_or (λ (q : MemberRow). q.named.1) o []
          ≡ (option_map_or (λ (q : MemberRow). q.named) o ([], [])).1
      descriptor_of None = refl
      descriptor_of (Some q) = refl

  method_there : is_static_method output moved ≡ true
  method_there = and_from (is_method_at output moved && is_static_member output moved) (not (is_of_library moved.class))
      (and_from (is_method_at output moved) (is_static_member output moved) kind_there static_there)
      (ap not own_there)

  plain_there : are_plain_parameters (method_text (renamed_method_type new entry.ty)) ≡ true
  plain_there =
      let old = ap result_ok (read_method-only k.descriptor entry.ty (typed, spelled)) in
      let plain : list_all is_plain entry.ty.args ≡ true =
      sym (ap (λ o. option_map_or (λ (ty : MethodType). list_all is_plain ty.args) o false) old) ∙ parts.1 in
      let text = method_text (renamed_method_type new entry.ty) in
      let read = ap result_ok (read_method-only text (renamed_method_type new entry.ty)
      (method_type_spelled new names_apart.class_name entry.ty typed, refl)) in
      ap (λ o. option_map_or (λ (ty : MethodType). list_all is_plain ty.args) o false) read
      ∙ plain_types new (names_apart.library_class string refl) entry.ty.args plain

  startable_there : is_startable output (keys.new_key new k) ≡ true
  startable_there =
      let member : member_of output (keys.new_key new k) ≡ Some moved =
      ap (member_of output) (sym key_there) ∙ found in
      let name : (keys.new_key new k).name ≡ new.method k.name k.descriptor =
      ap (λ (n : NameAndType). n.0) renamed in
      let text : (keys.new_key new k).descriptor ≡ method_text (renamed_method_type new entry.ty) =
      ap (λ (n : NameAndType). n.1) renamed in
      and_from
      (option_map_or (is_static_method output) (member_of output (keys.new_key new k)) false
      && not (is_text (keys.new_key new k).name (codes "<clinit>")))
      (are_plain_parameters (keys.new_key new k).descriptor)
      (and_from (option_map_or (is_static_method output) (member_of output (keys.new_key new k)) false)
      (not (is_text (keys.new_key new k).name (codes "<clinit>")))
      (ap (λ o. option_map_or (is_static_method output) o false) member ∙ method_there)
      (ap (λ (t : List ℕ). not (is_text t (codes "<clinit>"))) name ∙ ap not not_clinit))
      (ap are_plain_parameters text ∙ plain_there)

  -- so it is found, and it is the method of the new name
  pub entry_there : new_entry mapping output entry ≡ Some (keys.new_key new k)
  entry_there =
      ap (λ (x : Key). cond (is_startable output x) (Some x) None) key_same
      ∙ ap (λ (b : Bool). cond b (Some (keys.new_key new k)) None) startable_there

  pub name_there : (pair_names input mapping).method k ≡ Some (keys.new_key new k)
  name_there =
      ap (λ o. cond (option_map_or (is_member_kept input marks) o false) (Some (keys.new_key new k)) None) is.member_is
      ∙ ap (λ (b : Bool). cond b (Some (keys.new_key new k)) None) kept
