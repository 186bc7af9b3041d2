-- What the members of a set that is taken are: methods with codes, and what calls of them run (JVMS 4.5, 4.6).
use Rattle.std.proofs.Common.{◌≡◌, ◌<◌, ◌+◌, ◌||◌, ⊎_elim, ℕ, not, Bool, true, false, List, []}
use Rattle.std.proofs.Common.{◌++◌, length, map, Option, Some, None, Ok, slice_get, refl, sym, ap, subst, ◌∙◌}
use Rattle.std.specs.Prelude.{IfSome}
use Rattle.std.specs.List.{list_all}
use Rattle.std.specs.Option.{option_and_then, option_map_or}
use Rattle.std.proofs.lemmas.Bool.{not-true}
use Rattle.jv_base.specs.Descriptors.{read_method}
use Rattle.jv_base.specs.Types.{method_text}
use Rattle.jv_base.specs.declared.types.MethodType.{MethodType}
use Rattle.jv_base.proofs.Lists.{all_at, got_mapped, got_right, mapped_from}
use Rattle.std.proofs.lemmas.List.{length-map}
use Rattle.jv_base.proofs.MethodLaw.{read_method-found, read_method-only}
use Rattle.jv_base.proofs.Options.{some_there}
use Rattle.class_model.specs.Flags.{acc_abstract, acc_native, acc_static, has, is_interface}
use Rattle.class_model.specs.WellFormed.{IsGoodMethod}
use Rattle.class_model.specs.declared.class.Class.{Class}
use Rattle.class_model.specs.declared.class.Field.{Field}
use Rattle.class_model.specs.declared.class.Method.{Method}
use Rattle.class_model.specs.declared.code.Code.{Code}
use Rattle.lib_table.specs.Library.{LibraryMember, library}
use Rattle.lib_table.specs.Lookups as table
use Rattle.class_pool.specs.Found.{IsMember, MemberRow, NameAndType, declared_in, field_row, has_flag}
use Rattle.class_pool.specs.Found.{is_abstract_member}
use Rattle.class_pool.specs.Found.{is_method_at, is_static_member, library_row, method_row, name_of, named_at, row_at}
use Rattle.class_pool.specs.Found.{rows_in}
use Rattle.class_pool.specs.declared.id.ClassId.{ClassId}
use Rattle.class_pool.specs.declared.id.ClassId.TheVariants.{Prog, Lib}
use Rattle.class_pool.specs.declared.id.MemberAt.{MemberAt}
use Rattle.class_pool.proofs.Declaring.{declared_named, declared_there}
use Rattle.class_pool.proofs.LikeMethods.{all_at as passes_at, begins, field_begins}
use Rattle.set_view.specs.ViewOf.{key_at, member_of}
use Rattle.type_verifier.specs.Verified.{AreTyped, environment}
use Rattle.fit_laws.specs.Frames.{Environs}
use Rattle.fit_laws.specs.Meaning.{IsMethodOf}
use Rattle.fit_laws.proofs.Beginning.{code_found}
use Rattle.image_laws.specs.TakenSet.TakenSet.{IsTaken}
use Rattle.image_laws.proofs.TakenSet.Members.{own_declared, row_parts}
use Rattle.image_laws.proofs.TakenSet.Names.{class_found}
use Rattle.image_laws.proofs.ViewImage.Standing.{Stands, class_there}
use Rattle.type_sound.proofs.Chains.{row_or_past}
use Rattle.type_sound.proofs.Flags.{no_flags}
use Rattle.class_pool.specs.bodies.Graph.{library_ids}

-- ---- descriptors

-- a descriptor of a method begins with a parenthesis (JVMS 4.3.3)
pub method_begins : (ty : MethodType) → begins (method_text ty) ≡ true
unfolding method_text
method_begins ty = refl

pub text_begins : (text : List ℕ) (ty : MethodType) → read_method text ≡ Ok ty → begins text ≡ true
text_begins text ty h = ap begins (sym (read_method-found text ty h).1) ∙ method_begins ty

-- two types of one descriptor are one
pub one_type : (a b : MethodType) → (text : List ℕ) → read_method text ≡ Ok a → read_method text ≡ Ok b → a ≡ b
one_type a b text h k = cc

-- ---- the library's members

rows_methods : list_all (λ id. list_all (λ (m : LibraryMember). m.is_method || not (begins m.descriptor))
    (table.class_at id).members) library_ids ≡ true
unfolding library
rows_methods = refl

-- a member of a list passes
list_passes : {A : Type 0} (p : A → Bool) (xs : List A) (k : ℕ) (x : A) → list_all p xs ≡ true
    → slice_get xs k ≡ Some x → p x ≡ true
list_passes p xs k x all is = passes_at p xs k x all is

module _ (classes : List Class) (t : IsTaken classes) where
  -- a member that a class declares under a method's descriptor is a method
  pub is_method : (n : NameAndType) (m : MemberAt) → Stands classes n m → begins n.1 ≡ true
      → is_method_at classes m ≡ true
  is_method n m stands opens = by m.class (row_at classes m) refl named
    where
      named : begins (named_at classes m).1 ≡ true
      named = ap (λ (x : NameAndType). begins x.1) (declared_named classes n m.class m stands) ∙ opens

      never : true ≡ false → ⊥
      never e = cc

      row_is : (c : ClassId) (row : MemberRow) → slice_get (rows_in classes c) m.index ≡ Some row
          → begins row.named.1 ≡ true → row.is_method ≡ true
      row_is (Prog own) row is h = at (slice_get classes own) is where
        at : (o : Option Class)
            → slice_get (option_map_or (λ c. map field_row c.fields ++ map method_row c.methods) o []) m.index
            ≡ Some row
            → row.is_method ≡ true
        at None is = absurd cc
        at (Some c) is = ⊎_elim
            (λ f. absurd (never (sym (ap (λ (r : MemberRow). begins r.named.1) (sym f.2) ∙ h)
            ∙ field_begins f.0.ty)))
            (λ f. ap (λ (r : MemberRow). r.is_method) f.4)
            (row_parts c.fields c.methods m.index row is)
      row_is (Lib id) row is h =
          let e = mapped_from (library_row (table.class_at id).kind) (table.class_at id).members m.index row is in
          ap (λ (r : MemberRow). r.is_method) e.2
          ∙ told e.0.is_method (begins e.0.descriptor)
          (list_passes (λ (x : LibraryMember). x.is_method || not (begins x.descriptor)) (table.class_at id).members
          m.index e.0
          (row_or_past (λ c. list_all (λ (x : LibraryMember). x.is_method || not (begins x.descriptor)) c.members)
          rows_methods refl id) e.1)
          (ap (λ (r : MemberRow). begins r.named.1) (sym e.2) ∙ h)
        where
          told : (a b : Bool) → (a || not b) ≡ true → b ≡ true → a ≡ true
          told true b h k = refl
          told false true h k = absurd cc
          told false false h k = absurd cc

      by : (c : ClassId) (o : Option MemberRow) → row_at classes m ≡ o → begins (named_at classes m).1 ≡ true
          → is_method_at classes m ≡ true
      by c None e h =
          absurd (never (sym (sym (ap (λ o. begins (option_map_or (λ (r : MemberRow). r.named) o ([], [])).1) e)
          ∙ h)))
      by c (Some row) e h = ap (λ o. option_map_or (λ (r : MemberRow). r.is_method) o false) e
          ∙ row_is m.class row e (sym (ap (λ o. begins (option_map_or (λ (r : MemberRow). r.named) o ([], [])).1) e)
          ∙ h)

  -- the number of a member that stands is one of its class's
  pub index_below : (n : NameAndType) (c : ClassId) (m : MemberAt) → declared_in classes n c ≡ Some m
      → m.index < length (rows_in classes m.class)
  index_below n c m stands = (subst (λ o. IfSome o (IsMember classes)) stands
      (declared_there classes n c (class_there classes n c m stands))).1

  -- so it is there
  pub member_there : (n : NameAndType) (m : MemberAt) → Stands classes n m → IsMember classes m
  member_there n m stands = subst (λ o. IfSome o (IsMember classes)) stands
      (declared_there classes n m.class (class_there classes n m.class m stands))

  -- ---- methods of the program

  -- where a method of the program stands
  pub record ProgramMethod (m : MemberAt) : Type 0 where
    pub own : ℕ
    pub class : Class
    pub class_at : slice_get classes own ≡ Some class
    pub number : ℕ
    pub method : Method
    pub method_at : slice_get class.methods number ≡ Some method
    pub is : m ≡ record { class = Prog own; index = length class.fields + number }

  -- its row
  pub program_row : (m : MemberAt) (p : ProgramMethod m) → row_at classes m ≡ Some (method_row p.method)
  program_row m p = ap (row_at classes) p.is
      ∙ ap (λ o. slice_get (option_map_or (λ (c : Class). map field_row c.fields ++ map method_row c.methods) o [])
      (length p.class.fields + p.number)) p.class_at
      ∙ ap (λ i. slice_get (map field_row p.class.fields ++ map method_row p.class.methods) (i + p.number))
      (sym (length-map p.class.fields field_row))
      ∙ got_right (map field_row p.class.fields) (map method_row p.class.methods) p.number
      ∙ got_mapped method_row p.class.methods p.number p.method p.method_at

  pub program_method : (own : ℕ) (m : MemberAt) → m.class ≡ Prog own → is_method_at classes m ≡ true → ProgramMethod m
  program_method own m in_class h = by (slice_get classes own) refl rows where
    rows : is_method_at classes (record { class = Prog own; index = m.index }) ≡ true
    rows = subst (λ (c : ClassId). is_method_at classes (record { class = c; index = m.index }) ≡ true) in_class h

    by : (o : Option Class) → slice_get classes own ≡ o
        → option_map_or (λ (row : MemberRow). row.is_method)
        (slice_get (option_map_or (λ (c : Class). map field_row c.fields ++ map method_row c.methods) o []) m.index)
        false ≡ true
        → ProgramMethod m
    by None e h = absurd cc
    by (Some c) e h = row (slice_get (map field_row c.fields ++ map method_row c.methods) m.index) refl h where
      never : (f : Field) (r : MemberRow) → r ≡ field_row f → r.is_method ≡ true → ⊥
      never f r e k = let q : false ≡ true = sym (ap (λ (z : MemberRow). z.is_method) e) ∙ k in cc

      row : (o : Option MemberRow) → slice_get (map field_row c.fields ++ map method_row c.methods) m.index ≡ o
          → option_map_or (λ (r : MemberRow). r.is_method) o false ≡ true → ProgramMethod m
      row None q k = absurd cc
      row (Some r) q k = ⊎_elim
          (λ f. absurd (never f.0 r f.2 k))
          (λ f. record {
            own = own;
            class = c;
            class_at = e;
            number = f.0;
            method = f.1;
            method_at = f.3;
            is = λ i. record { class = in_class i; index = f.2 i };
          })
          (row_parts c.fields c.methods m.index r q)

  good : (m : MemberAt) (p : ProgramMethod m) → IsGoodMethod (is_interface p.class.flags.0) p.method
  good m p = all_at (IsGoodMethod (is_interface p.class.flags.0)) p.class.methods p.number p.method
      (t.formed p.own p.class p.class_at).methods p.method_at

  pub good_method : (m : MemberAt) (p : ProgramMethod m) → IsGoodMethod (is_interface p.class.flags.0) p.method
  good_method m p = good m p

  -- what is told of it
  pub method_flag : (flag : ℕ) (m : MemberAt) (p : ProgramMethod m)
      → has_flag classes flag m ≡ has flag p.method.flags.0
  method_flag flag m p = ap (λ o. option_map_or (λ (r : MemberRow). has flag r.flags) o false) (program_row m p)

  pub method_named : (m : MemberAt) (p : ProgramMethod m)
      → named_at classes m ≡ (p.method.name, method_text p.method.ty)
  method_named m p = ap (λ o. option_map_or (λ (r : MemberRow). r.named) o ([], [])) (program_row m p)

  -- a method that isn't abstract has a code
  has_code : (m : MemberAt) (p : ProgramMethod m) → is_abstract_member classes m ≡ false
      → (code : Code) × (p.method.code ≡ Some code)
  has_code m p h = some_there p.method.code
      ((good m p).body ∙ ap not (no_flags p.method.flags.0 (sym (method_flag acc_abstract m p) ∙ h)
      (not-true (has acc_native p.method.flags.0) (good m p).not_native)))

  -- its type is the one that its descriptor tells
  pub type_is : (m : MemberAt) (p : ProgramMethod m) (text : List ℕ) (ty : MethodType) → (named_at classes m).1 ≡ text
      → read_method text ≡ Ok ty → p.method.ty ≡ ty
  type_is m p text ty named read = one_type p.method.ty ty text
      (read_method-only text p.method.ty (
        (good m p).typed,
        sym (ap (λ (x : NameAndType). x.1) (method_named m p))
            ∙ named,
      ))
      read

  module _ (typed : AreTyped classes) where
    -- a member that stands is found by its key
    member_found : (m : MemberAt) → IsMember classes m → member_of classes (key_at classes m) ≡ Some m
    member_found m there = ap (option_and_then (declared_in classes (named_at classes m)))
        (class_found classes t m.class there.0) ∙ own_declared classes t m there

    pub method_environs : (m : MemberAt) (p : ProgramMethod m) → IsMember classes m → (code : Code)
        → p.method.code ≡ Some code
        → Environs classes (key_at classes m) (environment classes p.own p.class p.number p.method code)
    method_environs m p there code is =
        let frames = typed p.own p.number p.class p.class_at p.method p.method_at code is in
        record {
          classes_are = refl;
          class_there = p.class_at;
          method_there = p.method_at;
          code_there = is;
          member = found;
          code = code_found classes (key_at classes m) p.own p.class p.number p.method code found p.class_at
              p.method_at is;
          frames = frames.0;
          typed = frames.1;
        }
      where
        found : member_of classes (key_at classes m)
            ≡ Some (record { class = Prog p.own; index = length p.class.fields + p.number })
        found = member_found m there ∙ ap (λ (x : MemberAt). Some x) p.is

    -- a method of the program that isn't abstract begins by its key
    pub method_of : (m : MemberAt) (p : ProgramMethod m) → IsMember classes m → is_abstract_member classes m ≡ false
        → (ty : MethodType) → (text : List ℕ) → (named_at classes m).1 ≡ text → read_method text ≡ Ok ty
        → (static : Bool) → is_static_member classes m ≡ static → IsMethodOf classes (key_at classes m) ty static
    method_of m p there concrete ty text named read static is =
        let code = has_code m p concrete in
        record {
          env = environment classes p.own p.class p.number p.method code.0;
          is = method_environs m p there code.0 code.1;
          described = type_is m p text ty named read;
          class = sym (ap (λ (x : MemberAt). name_of classes x.class) p.is
              ∙ ap (λ o. option_map_or (λ (c : Class). c.name) o []) p.class_at);
          named = sym (ap (λ (x : NameAndType). x.0) (method_named m p));
          static_is = sym (method_flag acc_static m p) ∙ is;
        }
