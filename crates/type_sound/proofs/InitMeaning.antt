-- What a constructor that invokespecial names is in a set that is taken (JVMS 2.9, 6.5.invokespecial).
use Rattle.std.proofs.Common.{◌≡◌, ◌<◌, ◌||◌, ℕ, not, Bool, true, false, cond, List, [], ◌∷◌, length, Option}
use Rattle.std.proofs.Common.{Some, None, Ok, refl, sym, ap, subst, ◌∙◌}
use Rattle.std.specs.Prelude.{is_some}
use Rattle.std.specs.Bool.{beq}
use Rattle.std.specs.List.{list_all}
use Rattle.std.specs.Option.{is_none, option_and_then, option_map_or}
use Rattle.std.proofs.lemmas.Bool.{and_parts, not-true}
use Rattle.jv_base.specs.Descriptors.{read_method}
use Rattle.jv_base.specs.Names.{is_text}
use Rattle.jv_base.specs.declared.types.FieldType.{FieldType}
use Rattle.jv_base.specs.declared.types.MethodType.{MethodType}
use Rattle.jv_base.proofs.Equality.{same_text}
use Rattle.jv_base.proofs.Lists.{nil_parts}
use Rattle.class_model.specs.ConstantPool.{IsMethodText}
use Rattle.class_model.specs.Flags.{is_clinit, is_init}
use Rattle.class_model.specs.declared.class.Class.{Class}
use Rattle.class_model.specs.declared.op.MemberRef.{MemberRef}
use Rattle.lib_table.specs.Library.{LibraryMember, library}
use Rattle.lib_table.specs.Lookups as table
use Rattle.class_pool.specs.Found.{MemberRow, NameAndType, is_method_at, is_static_member, named_at, role_at}
use Rattle.class_pool.specs.Hierarchy.{class_named, is_interface_kind, superclass}
use Rattle.class_pool.specs.Resolution.{is_interface_in, method_found}
use Rattle.class_pool.specs.Selection.{first_instance, selected_special}
use Rattle.class_pool.specs.Walk.{same_class}
use Rattle.class_pool.specs.bodies.Graph.{library_ids}
use Rattle.class_pool.specs.declared.id.ClassId.{ClassId}
use Rattle.class_pool.specs.declared.id.ClassId.TheVariants.{Prog, Lib}
use Rattle.class_pool.specs.declared.id.MemberAt.{MemberAt}
use Rattle.class_pool.proofs.Declaring.{declared_named}
use Rattle.class_pool.proofs.EachOnce.{same_is}
use Rattle.link_check.specs.Links.{is_callable_role}
use Rattle.link_check.specs.Profile.{call_kinds, init_kinds, member_kinds, special_class_kinds, special_kinds}
use Rattle.link_check.specs.Profile.{super_kinds, unless}
use Rattle.link_check.specs.declared.fault.ProfileKind.TheVariants.{LeftOutMember, WrongKind}
use Rattle.jvm_model.specs.Heap.{string}
use Rattle.jvm_model.specs.Program.{Library, Program, Target}
use Rattle.set_view.specs.ViewOf.{key_at, method_of, special_of, target_at, target_of}
use Rattle.type_verifier.specs.Verified.{AreTyped}
use Rattle.fit_laws.specs.Meaning.{CallsInit, RunsInit}
use Rattle.fit_laws.specs.RowTypes.{row_result}
use Rattle.image_laws.specs.TakenSet.TakenSet.{IsTaken}
use Rattle.image_laws.proofs.ViewImage.Naming.{class_name}
use Rattle.image_laws.proofs.ViewImage.Standing.{Stands, class_there}
use Rattle.type_sound.proofs.CallMeaning.{method_stand}
use Rattle.type_sound.proofs.LibraryClasses.{held_class, string_at}
use Rattle.type_sound.proofs.Links.{TakenMethod, class_of_link, method_taken, unbroken}
use Rattle.type_sound.proofs.Members.{ProgramMethod, good_method, is_method, member_there, method_named}
use Rattle.type_sound.proofs.Members.{method_of as its_method}
use Rattle.type_sound.proofs.Members.{program_method, text_begins, type_is}
use Rattle.type_sound.proofs.RowTable.{InTable, Receiver, in_table, instance_row, row_is, row_typed, table_row}
use Rattle.type_sound.proofs.Selecting.{at_member}
use Rattle.type_sound.proofs.TargetRuns.{LibFound, lib_found, receiver_named, runs, text_is}

-- no member of an interface of the library is a constructor
rows_made : list_all (λ id. list_all (λ (m : LibraryMember). not (is_interface_kind (table.class_at id).kind)
    || not (is_init m.name)) (table.class_at id).members) library_ids ≡ true
unfolding library
rows_made = refl

module _ (classes : List Class) (t : IsTaken classes) (typed : AreTyped classes) where
  -- the class of a constructor of the library
  made_class : (id k : ℕ) → id < length library
      → is_method_at classes (record { class = Lib id; index = k }) ≡ true
      → is_init (named_at classes (record { class = Lib id; index = k })).0 ≡ true
      → is_interface_kind (table.class_at id).kind ≡ false
  made_class id k low method init =
      by (is_interface_kind (table.class_at id).kind) (is_init e.member.name) its_name
      (at_member classes t (λ i (m : LibraryMember). not (is_interface_kind (table.class_at i).kind)
      || not (is_init m.name)) rows_made id k low e)
    where
      e : InTable id k
      e = in_table classes id k method

      its_name : is_init e.member.name ≡ true
      its_name = sym (ap (λ o. is_init (option_map_or (λ (r : MemberRow). r.named) o ([], [])).0)
          (table_row classes id k e)) ∙ init

      by : (a b : Bool) → b ≡ true → (not a || not b) ≡ true → a ≡ false
      by true true p h = absurd cc
      by true false p h = absurd cc
      by false b p h = refl

  -- what a constructor runs
  pub record InitRuns (ty : MethodType) (name : List ℕ) (m : MemberAt) : Type 0 where
    pub void : ty.ret ≡ None
    pub no_string : is_text name string ≡ false
    pub target : Target
    pub found : target_at classes m ≡ Some target
    pub runs : RunsInit classes name ty target

  -- a constructor that stands, by what it stands for
  record IsInit (nt : NameAndType) (ty : MethodType) (name : List ℕ) (m : MemberAt) : Type 0 where
    pub stands : Stands classes nt m
    pub read : read_method nt.1 ≡ Ok ty
    pub static_is : is_static_member classes m ≡ false
    pub callable : is_callable_role (role_at m) ≡ true
    pub init : is_init nt.0 ≡ true
    pub named : class_named classes name ≡ Some m.class

  method_at : (nt : NameAndType) (ty : MethodType) (name : List ℕ) (m : MemberAt) → IsInit nt ty name m
      → is_method_at classes m ≡ true
  method_at nt ty name m f = is_method classes t nt m f.stands (text_begins nt.1 ty f.read)

  its_init : (nt : NameAndType) (ty : MethodType) (name : List ℕ) (m : MemberAt) → IsInit nt ty name m
      → is_init (named_at classes m).0 ≡ true
  its_init nt ty name m f =
      ap (λ (x : NameAndType). is_init x.0) (declared_named classes nt m.class m f.stands) ∙ f.init

  ret_none : (o : Option FieldType) → is_none o ≡ true → o ≡ None
  ret_none None h = refl
  ret_none (Some x) h = absurd cc

  -- one of the program
  program_init : (nt : NameAndType) (ty : MethodType) (name : List ℕ) (own k : ℕ)
      → IsInit nt ty name (record { class = Prog own; index = k })
      → InitRuns ty name (record { class = Prog own; index = k })
  program_init nt ty name own k f = record {
    void = sym (ap (λ (x : MethodType). x.ret) its_type)
        ∙ ret_none p.method.ty.ret (first (is_init p.method.name) (is_clinit p.method.name) _ its_name
        (and_parts (not (is_init p.method.name || is_clinit p.method.name) || is_none p.method.ty.ret) _
        (good_method classes t z p).initial_type).0);
    no_string = other (is_text name string) refl;
    target = r.0;
    found = r.1;
    runs = r.2;
  } where
    z : MemberAt
    z = record { class = Prog own; index = k }

    p : ProgramMethod classes t (record { class = Prog own; index = k })
    p = program_method classes t own (record { class = Prog own; index = k }) refl
        (method_at nt ty name (record { class = Prog own; index = k }) f)

    its_type : p.method.ty ≡ ty
    its_type = type_is classes t (record { class = Prog own; index = k }) p nt.1 ty
        (text_is classes t typed nt (record { class = Prog own; index = k }) f.stands) f.read

    its_name : is_init p.method.name ≡ true
    its_name = sym (ap (λ (x : NameAndType). is_init x.0)
        (method_named classes t (record { class = Prog own; index = k }) p))
        ∙ its_init nt ty name (record { class = Prog own; index = k }) f

    first : (a b c : Bool) → a ≡ true → (not (a || b) || c) ≡ true → c ≡ true
    first true b c e h = h
    first false b c e h = absurd cc

    no_class : Some (Prog own) ≡ Some (Lib 6) → ⊥
    no_class e = cc

    other : (b : Bool) → is_text name string ≡ b → b ≡ false
    other false e = refl
    other true e = absurd (no_class (sym f.named ∙ ap (class_named classes) (same_text name string e)
        ∙ string_at classes t))

    r : (x : Target) × (target_at classes (record { class = Prog own; index = k }) ≡ Some x)
        × RunsInit classes name ty x
    r = runs classes t typed (RunsInit classes name ty) tt (record { class = Prog own; index = k })
        (λ a. (
          Program (key_at classes (record { class = Prog own; index = k })),
          refl,
          (
            its_method classes t typed (record { class = Prog own; index = k }) p
                (member_there classes t nt (record { class = Prog own; index = k }) f.stands) a ty nt.1
                (text_is classes t typed nt (record { class = Prog own; index = k }) f.stands) f.read false f.static_is,
            its_init nt ty name (record { class = Prog own; index = k }) f,
            class_name classes name (Prog own) f.named,
          ),
        ))

  -- one of the library
  library_init : (nt : NameAndType) (ty : MethodType) (name : List ℕ) (id k : ℕ)
      → IsInit nt ty name (record { class = Lib id; index = k })
      → InitRuns ty name (record { class = Lib id; index = k })
  library_init nt ty name id k f = record {
    void = ap (λ (x : MethodType). x.ret)
        (row_typed classes id l.entry.member l.row ty
        (ap (λ (x : NameAndType). read_method x.1) (sym l.named) ∙ f.read))
        ∙ ret_none (row_result l.row.row) parts.0;
    no_string = ap (λ (x : List ℕ). is_text x string) (sym (class_name classes name (Lib id) f.named))
        ∙ not-true (is_text (table.class_at id).name string) parts.1;
    target = r.0;
    found = r.1;
    runs = r.2;
  } where
    number : (j : ℕ) → Lib id ≡ Lib j → id ≡ j
    number j e = cc

    l : LibFound classes t typed nt ty false id k
    l = lib_found classes t typed nt ty false id k (record {
      stands = f.stands;
      read = f.read;
      static_is = f.static_is;
      lib_class = λ j e. subst (λ (i : ℕ). is_interface_kind (table.class_at i).kind ≡ false) (number j e)
          (made_class id k (class_there classes nt (Lib id) _ f.stands)
          (method_at nt ty name (record { class = Lib id; index = k }) f)
          (its_init nt ty name (record { class = Lib id; index = k }) f));
      callable = f.callable;
    })

    its_name : is_init l.entry.member.name ≡ true
    its_name = sym (ap (λ (x : NameAndType). is_init x.0) l.named) ∙ f.init

    told : (a b : Bool) → a ≡ true → (not a || b) ≡ true → b ≡ true
    told true b e h = h
    told false b e h = absurd cc

    parts : (is_none (row_result l.row.row) ≡ true) × (not (is_text (table.class_at id).name string) ≡ true)
    parts = and_parts (is_none (row_result l.row.row)) (not (is_text (table.class_at id).name string))
        (told (is_init l.entry.member.name) _ its_name l.row.init)

    c : Receiver classes id l.row.row
    c = instance_row classes id l.entry.member l.row l.static_is

    r : (x : Target) × (target_at classes (record { class = Lib id; index = k }) ≡ Some x)
        × RunsInit classes name ty x
    r = runs classes t typed (RunsInit classes name ty) tt (record { class = Lib id; index = k })
        (λ a. (
          Library l.row.row,
          l.target,
          (
            c.class,
            row_is classes id l.entry.member l.row ty
                (ap (λ (x : NameAndType). read_method x.1) (sym l.named) ∙ f.read) (Some c.class) c.is,
            held_class classes t name c.class (Lib id) (Lib c.number) f.named
                (receiver_named classes t typed id l.row.row c) c.below,
          ),
        ))

  init_runs : (nt : NameAndType) (ty : MethodType) (name : List ℕ) (m : MemberAt) → IsInit nt ty name m
      → InitRuns ty name m
  init_runs nt ty name m f = by m.class m.index f where
    by : (c : ClassId) (k : ℕ) → (let z : MemberAt = record { class = c; index = k } in IsInit nt ty name z)
        → (let z : MemberAt = record { class = c; index = k } in InitRuns ty name z)
    by (Prog own) k g = program_init nt ty name own k g
    by (Lib id) k g = library_init nt ty name id k g

  -- invokespecial with a constructor (JVMS 6.5.invokespecial)
  pub calls_init : (n : ℕ) (from : List ℕ) → class_named classes from ≡ Some (Prog n) → (r : MemberRef)
      → IsMethodText r.ty → special_kinds classes n r ≡ [] → is_init r.name ≡ true → CallsInit classes from r
  calls_init n from own r d h e = record {
    typed = m.typed;
    void = x.void;
    name = m.link.name;
    class = m.link.class_is;
    no_string = x.no_string;
    there = ap is_some m.link.named;
    target = x.target;
    found = ap (λ o. option_map_or (special_of classes r) o None) own
        ∙ ap (option_and_then (λ c. option_and_then (λ z. target_of classes (selected_special classes (Prog n) c z))
        (method_of classes r c)))
        (class_of_link classes n r (λ c. method_found classes c (r.name, r.ty))
        (λ c. beq (is_interface_in classes c) r.of_interface) m.member m.link)
        ∙ ap (option_and_then (λ z. target_of classes (selected_special classes (Prog n) m.link.class z)))
        m.link.member_is
        ∙ ap (λ b. target_of classes (cond b (Some m.member) (others m.member)))
        (its_init (r.name, r.ty) m.typed.ty m.link.name m.member f) ∙ x.found;
    runs = x.runs;
  } where
    p : (call_kinds classes n false r ≡ []) × (special_class_kinds classes n r ≡ [])
    p = nil_parts (call_kinds classes n false r) (special_class_kinds classes n r) h

    m : TakenMethod classes n false r
    m = method_taken classes n false r d p.0

    others : MemberAt → Option MemberAt
    others z = cond (same_class (Prog n) m.link.class) (first_instance classes (Prog n) (named_at classes z))
        (option_and_then (λ above. first_instance classes above (named_at classes z)) (superclass classes (Prog n)))

    kinds : init_kinds classes n m.link.class r ≡ []
    kinds = sym (ap (λ b. cond b (init_kinds classes n m.link.class r) (super_kinds classes n m.link.class)) e)
        ∙ sym (ap (λ o. option_map_or
        (λ c. cond (is_init r.name) (init_kinds classes n c r) (super_kinds classes n c)) o (WrongKind ∷ []))
        (class_of_link classes n r (λ c. method_found classes c (r.name, r.ty))
        (λ c. beq (is_interface_in classes c) r.of_interface) m.member m.link))
        ∙ p.1

    same : m.member.class ≡ m.link.class
    same = same_is m.member.class m.link.class (unbroken (same_class m.member.class m.link.class) WrongKind
        (nil_parts (unless (is_callable_role (role_at m.member)) LeftOutMember) _
        (sym (ap (λ l. member_kinds l (λ z. unless (same_class z.class m.link.class) WrongKind)) m.linked)
        ∙ kinds)).1)

    f : IsInit (r.name, r.ty) m.typed.ty m.link.name m.member
    f = record {
      stands = method_stand classes t typed n r m.member m.link;
      read = m.typed.read;
      static_is = m.static_is;
      callable = m.callable;
      init = e;
      named = m.link.named ∙ ap (λ c. Some c) (sym same);
    }

    x : InitRuns m.typed.ty m.link.name m.member
    x = init_runs (r.name, r.ty) m.typed.ty m.link.name m.member f
