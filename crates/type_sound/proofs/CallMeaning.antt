-- What invokestatic, invokevirtual and invokeinterface run in a set that is taken (JVMS 6.5).
use Rattle.std.proofs.Common.{◌≡◌, ◌⊎◌, ◌&&◌, inl, inr, ⊎_elim, ℕ, not, Bool, true, false}
use Rattle.std.proofs.Common.{cond, List, [], Option, Some, None, refl, sym, ap, subst}
use Rattle.std.proofs.Common.{◌∙◌}
use Rattle.std.specs.Prelude.{IfSome, IsTrue}
use Rattle.std.specs.Bool.{beq}
use Rattle.std.specs.List.{list_any}
use Rattle.std.specs.Option.{option_and_then, option_map_or, option_or}
use Rattle.std.proofs.lemmas.Bool.{and_from, and_parts, not-true, or_cases}
use Rattle.std.proofs.lemmas.List.Folds.{list_any-append}
use Rattle.jv_base.specs.declared.types.FieldType.{FieldType}
use Rattle.class_model.specs.Flags.{acc_static, has, is_init, is_static}
use Rattle.class_model.specs.declared.class.Class.{Class}
use Rattle.class_model.specs.declared.op.MemberRef.{MemberRef}
use Rattle.lib_table.specs.Library.{LibraryMember}
use Rattle.lib_table.specs.Lookups as table
use Rattle.class_pool.specs.Found.{MemberRow, NameAndType}
use Rattle.class_pool.specs.Found.{is_instance_method, is_instance_row, is_method_at, is_public_member}
use Rattle.class_pool.specs.Found.{is_static_member}
use Rattle.class_pool.specs.Found.{named_at, role_at, row_at}
use Rattle.class_pool.specs.Hierarchy.{IsClass, class_named, is_interface_kind}
use Rattle.class_pool.specs.Resolution.{chosen, class_method_found, first, first_declared, interface_method_found}
use Rattle.class_pool.specs.Resolution.{is_class_below, is_interface_in, method_found, superinterface_methods}
use Rattle.class_pool.specs.Selection.{first_instance, overriding_from, selected}
use Rattle.class_pool.specs.Supers.{is_below}
use Rattle.class_pool.specs.Supertypes.{Sub}
use Rattle.class_pool.specs.Walk.{same_class, superclasses_from, superinterfaces}
use Rattle.class_pool.specs.declared.id.ClassId.{ClassId}
use Rattle.class_pool.specs.declared.id.ClassId.TheVariants.{Prog, Lib}
use Rattle.class_pool.specs.declared.id.MemberAt.{MemberAt}
use Rattle.lib_table.specs.declared.member.Role.TheVariants.{Callable}
use Rattle.class_pool.proofs.Declaring.{declared_named}
use Rattle.class_pool.proofs.SupersLaws.{below_sub}
use Rattle.class_pool.proofs.Within.{in_left, in_right}
use Rattle.link_check.specs.Links.{is_callable_role}
use Rattle.link_check.specs.Profile.{is_abstract_class}
use Rattle.jvm_model.specs.Exceptions.{AbstractMethod, IllegalAccess, IncompatibleChange}
use Rattle.jvm_model.specs.Program.{Fails, Target}
use Rattle.set_view.specs.ViewOf.{checked, is_selected, method_of, of_method, selected_from, selected_of}
use Rattle.set_view.specs.ViewOf.{shape_of}
use Rattle.set_view.specs.ViewOf.{target_at, target_of}
use Rattle.type_verifier.specs.Assignable.{class_type, is_class_assignable, is_java_assignable}
use Rattle.type_verifier.specs.Verified.{AreTyped}
use Rattle.fit_laws.specs.Held.{IsConcrete, erased_name, is_held}
use Rattle.fit_laws.specs.Meaning.{CallsStatic, RunsOn}
use Rattle.image_laws.specs.TakenSet.TakenSet.{IsTaken}
use Rattle.image_laws.proofs.SetImage.Finding.{chosen_first}
use Rattle.image_laws.proofs.TakenSet.Proper.{is_proper}
use Rattle.image_laws.proofs.ViewImage.Standing.{Stands, class_there, method_stands}
use Rattle.type_sound.proofs.Chains.{above_class, above_library, below_itself, below_trans, few, objects}
use Rattle.type_sound.proofs.Declarers.{declared_in_list, implementing, is_lib, library_closed, open_in_list}
use Rattle.type_sound.proofs.Declarers.{static_class}
use Rattle.type_sound.proofs.LibraryClasses.{held_class}
use Rattle.type_sound.proofs.Links.{MethodLinked, TakenMethod, class_of_link}
use Rattle.type_sound.proofs.Members.{is_method, text_begins}
use Rattle.type_sound.proofs.Order.{assignable_cases, class_in, erased_own}
use Rattle.type_sound.proofs.RowTable.{InTable, in_table, table_row}
use Rattle.type_sound.proofs.Selecting.{IsOver, callable_over, first_is, first_over, never_apart}
use Rattle.type_sound.proofs.TargetRuns.{IsFound, on_runs, static_runs}

pub both : (b : Bool) → b ≡ false → b ≡ true → ⊥
both b e f = cc

bool_cases : (b : Bool) → (b ≡ true) ⊎ (b ≡ false)
bool_cases true = inl refl
bool_cases false = inr refl

pub same_bool : (a b : Bool) → beq a b ≡ true → a ≡ b
same_bool true true h = refl
same_bool false false h = refl
same_bool true false h = absurd cc
same_bool false true h = absurd cc

module _ (classes : List Class) (t : IsTaken classes) (typed : AreTyped classes) where
  abbrev Below : ClassId → ClassId → Type 0
  Below x y = is_class_below classes x y ≡ true

  -- the method of a reference is declared under its name
  pub method_stand : (n : ℕ) (r : MemberRef) (m : MemberAt) → MethodLinked classes n r m
      → Stands classes (r.name, r.ty) m
  method_stand n r m l = subst (λ o. IfSome o (Stands classes (r.name, r.ty))) l.member_is
      (method_stands classes (is_proper classes t).abstract_methods (r.name, r.ty) l.class)

  pub method_there : (n : ℕ) (static : Bool) (r : MemberRef) (m : TakenMethod classes n static r)
      → is_method_at classes m.member ≡ true
  method_there n static r m = is_method classes t (r.name, r.ty) m.member (method_stand n r m.member m.link)
      (text_begins r.ty m.typed.ty m.typed.read)

  -- ---- invokestatic

  static_in : (n : ℕ) (r : MemberRef) (m : TakenMethod classes n true r) (id : ℕ) → m.member.class ≡ Lib id
      → is_interface_kind (table.class_at id).kind ≡ false
  static_in n r m id is =
      let same : m.member ≡ record { class = Lib id; index = m.member.index } =
      ap (λ c. record { class = c; index = m.member.index }) is in
      static_class classes t id m.member.index
      (subst (IsClass classes) is (class_there classes (r.name, r.ty) m.member.class m.member
      (method_stand n r m.member m.link)))
      (subst (λ z. is_method_at classes z ≡ true) same (method_there n true r m))
      (subst (λ z. is_static_member classes z ≡ true) same m.static_is)

  pub calls_static : (n : ℕ) (r : MemberRef) → TakenMethod classes n true r → CallsStatic classes r
  calls_static n r m =
      let f : IsFound classes t typed (r.name, r.ty) m.typed.ty true m.member = record {
        stands = method_stand n r m.member m.link;
        read = m.typed.read;
        static_is = m.static_is;
        lib_class = static_in n r m;
        callable = m.callable;
      } in
      let x = static_runs classes t typed (r.name, r.ty) m.typed.ty m.member f in
      record {
        typed = m.typed;
        target = x.0;
        found = ap (option_and_then (λ c. option_and_then (λ z. target_at classes z) (method_of classes r c)))
            (class_of_link classes n r (λ c. method_found classes c (r.name, r.ty))
            (λ c. beq (is_interface_in classes c) r.of_interface) m.member m.link)
            ∙ ap (option_and_then (λ z. target_at classes z)) m.link.member_is ∙ x.1;
        runs = x.2;
      }

  -- ---- instance methods

  -- what an instance row says
  pub instance_parts : (m : MemberAt) → is_instance_method classes m ≡ true
      → (is_static_member classes m ≡ false) × (is_init (named_at classes m).0 ≡ false)
  instance_parts m h = by (row_at classes m) refl h where
    by : (o : Option MemberRow) → row_at classes m ≡ o → option_map_or is_instance_row o false ≡ true
        → (is_static_member classes m ≡ false) × (is_init (named_at classes m).0 ≡ false)
    by None e k = absurd cc
    by (Some row) e k =
        let p = and_parts (row.is_method && not (is_static row.flags)) (not (is_init row.named.0)) k in
        let q = and_parts row.is_method (not (is_static row.flags)) p.0 in (
          ap (λ o. option_map_or (λ (r : MemberRow). has acc_static r.flags) o false) e
              ∙ not-true (has acc_static row.flags) q.1,
          ap (λ o. is_init (option_map_or (λ (r : MemberRow). r.named) o ([], [])).0) e
              ∙ not-true (is_init row.named.0) p.1,
        )

  pub is_instance : (m : MemberAt) → is_method_at classes m ≡ true → is_static_member classes m ≡ false
      → is_init (named_at classes m).0 ≡ false → is_instance_method classes m ≡ true
  is_instance m method static init = by (row_at classes m) refl method static init where
    three : (a b c : Bool) → a ≡ true → b ≡ false → c ≡ false → (a && not b && not c) ≡ true
    three true false false e f g = refl
    three true true c e f g = absurd cc
    three true false true e f g = absurd cc
    three false b c e f g = absurd cc

    by : (o : Option MemberRow) → row_at classes m ≡ o → option_map_or (λ (r : MemberRow). r.is_method) o false ≡ true
        → option_map_or (λ (r : MemberRow). has acc_static r.flags) o false ≡ false
        → is_init (option_map_or (λ (r : MemberRow). r.named) o ([], [])).0 ≡ false
        → option_map_or is_instance_row o false ≡ true
    by None e k l i = absurd cc
    by (Some row) e k l i = three row.is_method (is_static row.flags) (is_init row.named.0) k l i

  -- ---- which class is below which, by all supertypes

  sub_of : (x y : ClassId) → IsClass classes x → is_below classes x y ≡ true → Sub classes x y
  sub_of x y there h = (below_sub classes t.ranks (objects classes t) x y (few classes t) there).0 h

  of_sub : (x y : ClassId) → IsClass classes x → Sub classes x y → is_below classes x y ≡ true
  of_sub x y there h = (below_sub classes t.ranks (objects classes t) x y (few classes t) there).1 h

  pub up_trans : (x y z : ClassId) → IsClass classes x → IsClass classes y → is_below classes x y ≡ true
      → is_below classes y z ≡ true → is_below classes x z ≡ true
  up_trans x y z x_in y_in h k = of_sub x z x_in
      (λ set has closed. sub_of y z y_in k set (sub_of x y x_in h set has closed) closed)

  pub up_class : (x y : ClassId) → is_class_below classes x y ≡ true → is_below classes x y ≡ true
  up_class x y h = in_left y (superclasses_from classes x) (superinterfaces classes x) h

  -- a class below one that is no interface is so by superclasses, one below an interface by superinterfaces
  pub up_cases : (x y : ClassId) → is_below classes x y ≡ true
      → (is_class_below classes x y ≡ true) ⊎ (list_any (same_class y) (superinterfaces classes x) ≡ true)
  up_cases x y h = or_cases _ _
      (sym (list_any-append (same_class y) (superclasses_from classes x) (superinterfaces classes x)) ∙ h)

  -- above a class of the library there are such classes alone
  pub lib_only : (id : ℕ) (n : ℕ) → IsClass classes (Lib id) → is_below classes (Lib id) (Prog n) ≡ true → ⊥
  lib_only id n there h = never (sub_of (Lib id) (Prog n) there h is_lib refl (library_closed classes t)) where
    never : IsTrue (is_lib (Prog n)) → ⊥
    never e = cc

  -- ---- where a method is found

  -- a method that a class finds is declared above it
  pub found_up : (c : ClassId) (n : NameAndType) (m : MemberAt) → is_interface_in classes c ≡ false
      → method_found classes c n ≡ Some m → is_below classes c m.class ≡ true
  found_up c n m class e = by (first_declared classes n (superclasses_from classes c)) refl
      (sym (ap (λ b. cond b (interface_method_found classes c n) (class_method_found classes c n)) class) ∙ e)
    where
      inherited : chosen classes (superinterface_methods classes c n) ≡ Some m → is_below classes c m.class ≡ true
      inherited h = in_right m.class (superclasses_from classes c) (superinterfaces classes c)
          (open_in_list classes t n (superinterfaces classes c) m
          (sym (chosen_first classes (superinterface_methods classes c n) ((is_proper classes t).abstract_methods c n))
          ∙ h))

      by : (o : Option MemberAt) → first_declared classes n (superclasses_from classes c) ≡ o
          → option_or o (chosen classes (superinterface_methods classes c n)) ≡ Some m
          → is_below classes c m.class ≡ true
      by None q h = inherited h
      by (Some z) q h = up_class c m.class (declared_in_list classes t n (superclasses_from classes c) m (q ∙ h))

  -- ---- what is selected

  module _ (n : ℕ) (r : MemberRef) (m : TakenMethod classes n false r) (ordinary : is_init r.name ≡ false) where
    named : NameAndType
    named = (r.name, r.ty)

    pub stand : Stands classes (r.name, r.ty) m.member
    stand = method_stand n r m.member m.link

    pub its_name : named_at classes m.member ≡ (r.name, r.ty)
    its_name = declared_named classes (r.name, r.ty) m.member.class m.member stand

    pub instance : is_instance_method classes m.member ≡ true
    instance = is_instance m.member (method_there n false r m) m.static_is
        (ap (λ (x : NameAndType). is_init x.0) its_name ∙ ordinary)

    c : ClassId
    c = m.link.class

    c_in : IsClass classes m.link.class
    c_in = class_in classes t m.link.name m.link.class m.link.named

    -- the table's entry of a method of the library
    abbrev Entry : ℕ → ℕ → Type 0
    Entry id k = (e : InTable id k) × (e.member.is_method ≡ true)
        × (named_at classes (record { class = Lib id; index = k }) ≡ (e.member.name, e.member.descriptor))

    entry : (id k : ℕ) → is_method_at classes (record { class = Lib id; index = k }) ≡ true → Entry id k
    entry id k h =
        let e = in_table classes id k h in
        let row = table_row classes id k e in (
          e,
          sym (ap (λ o. option_map_or (λ (x : MemberRow). x.is_method) o false) row) ∙ h,
          ap (λ o. option_map_or (λ (x : MemberRow). x.named) o ([], [])) row,
        )

    role_is : (id k : ℕ) (e : InTable id k)
        → is_callable_role (role_at (record { class = Lib id; index = k })) ≡ is_callable_role e.member.role
    role_is id k e = ap (λ o. is_callable_role (option_map_or (λ (x : LibraryMember). x.role) o Callable)) e.there

    -- a method of this name that a class of the library declares may be called, where it is at or below the one that
    -- was
    -- found
    lib_over : (id k j l : ℕ) → Stands classes (r.name, r.ty) (record { class = Lib id; index = k })
        → Stands classes (r.name, r.ty) (record { class = Lib j; index = l })
        → is_class_below classes (Lib id) (Lib j) ≡ true
        → is_callable_role (role_at (record { class = Lib j; index = l })) ≡ true
        → is_callable_role (role_at (record { class = Lib id; index = k })) ≡ true
    lib_over id k j l s_stands m_stands below callable =
        let e = entry id k (is_method classes t (r.name, r.ty) _ s_stands (text_begins r.ty m.typed.ty m.typed.read)) in
        let f = entry j l (is_method classes t (r.name, r.ty) _ m_stands (text_begins r.ty m.typed.ty m.typed.read)) in
        role_is id k e.0
        ∙ callable_over classes t id k e.0 (class_there classes (r.name, r.ty) (Lib id) _ s_stands) j l f.0
        (class_there classes (r.name, r.ty) (Lib j) _ m_stands) below f.1 (sym (role_is j l f.0) ∙ callable)
        (r.name, r.ty)
        (sym (declared_named classes (r.name, r.ty) (Lib id) _ s_stands) ∙ e.2)
        (sym (declared_named classes (r.name, r.ty) (Lib j) _ m_stands) ∙ f.2)

    -- and none where the one that was found is of an interface of the library
    lib_apart : (id k j l : ℕ) → Stands classes (r.name, r.ty) (record { class = Lib id; index = k })
        → is_interface_in classes (Lib id) ≡ false
        → Stands classes (r.name, r.ty) (record { class = Lib j; index = l }) → is_interface_in classes (Lib j) ≡ true
        → is_callable_role (role_at (record { class = Lib j; index = l })) ≡ true → ⊥
    lib_apart id k j l s_stands class m_stands interface callable =
        let e = entry id k (is_method classes t (r.name, r.ty) _ s_stands (text_begins r.ty m.typed.ty m.typed.read)) in
        let f = entry j l (is_method classes t (r.name, r.ty) _ m_stands (text_begins r.ty m.typed.ty m.typed.read)) in
        never_apart classes t id k e.0 (class_there classes (r.name, r.ty) (Lib id) _ s_stands) class j l f.0
        (class_there classes (r.name, r.ty) (Lib j) _ m_stands) interface f.1 (sym (role_is j l f.0) ∙ callable)
        (r.name, r.ty) (sym (declared_named classes (r.name, r.ty) (Lib id) _ s_stands) ∙ e.2)
        (sym (declared_named classes (r.name, r.ty) (Lib j) _ m_stands) ∙ f.2)

    -- by the class of a member
    abbrev CallableAt : ClassId → ℕ → Type 0
    CallableAt x k = is_callable_role (role_at (record { class = x; index = k })) ≡ true

    -- at or below the method that was found
    pub over_callable : (s z : MemberAt) → Stands classes (r.name, r.ty) s → Stands classes (r.name, r.ty) z
        → is_class_below classes s.class z.class ≡ true → is_callable_role (role_at z) ≡ true
        → is_callable_role (role_at s) ≡ true
    over_callable s z = by s.class s.index z.class z.index where
      by : (x : ClassId) (k : ℕ) (y : ClassId) (l : ℕ) → Stands classes (r.name, r.ty) (record { class = x; index = k })
          → Stands classes (r.name, r.ty) (record { class = y; index = l }) → is_class_below classes x y ≡ true
          → CallableAt y l → CallableAt x k
      by (Prog own) k y l s_stands z_stands below callable = refl
      by (Lib id) k (Lib j) l s_stands z_stands below callable = lib_over id k j l s_stands z_stands below callable
      by (Lib id) k (Prog own) l s_stands z_stands below callable =
          let p = above_library classes t id (Prog own) (class_there classes (r.name, r.ty) (Lib id) _ s_stands)
          below in
          absurd (no_lib own p.0 p.1)
        where
          no_lib : (n k : ℕ) → Prog n ≡ Lib k → ⊥
          no_lib n k e = cc

    -- where the method that was found is one of an interface of the library, none of a class of it has its name
    pub apart_callable : (s z : MemberAt) → Stands classes (r.name, r.ty) s → is_interface_in classes s.class ≡ false
        → (j : ℕ) → z.class ≡ Lib j → Stands classes (r.name, r.ty) z → is_interface_in classes z.class ≡ true
        → is_callable_role (role_at z) ≡ true → is_callable_role (role_at s) ≡ true
    apart_callable s z = by s.class s.index z.class z.index where
      by : (x : ClassId) (k : ℕ) (y : ClassId) (l : ℕ) → Stands classes (r.name, r.ty) (record { class = x; index = k })
          → is_interface_in classes x ≡ false → (j : ℕ) → y ≡ Lib j
          → Stands classes (r.name, r.ty) (record { class = y; index = l }) → is_interface_in classes y ≡ true
          → CallableAt y l → CallableAt x k
      by (Prog own) k y l s_stands class j is z_stands interface callable = refl
      by (Lib id) k (Lib i) l s_stands class j is z_stands interface callable =
          absurd (lib_apart id k i l s_stands class z_stands interface callable)
      by (Lib id) k (Prog own) l s_stands class j is z_stands interface callable = absurd (no_lib own j is) where
        no_lib : (n k : ℕ) → Prog n ≡ Lib k → ⊥
        no_lib n k e = cc

    -- ---- on an object of a class

    module _ (name : List ℕ) (concrete : IsConcrete classes name) where
      x : ClassId
      x = concrete.id

      x_in : IsClass classes concrete.id
      x_in = class_in classes t name concrete.id concrete.named

      -- a method that is selected runs
      runs_selected : (s : MemberAt) → Stands classes (r.name, r.ty) s
          → is_class_below classes concrete.id s.class ≡ true
          → is_instance_method classes s ≡ true → is_callable_role (role_at s) ≡ true
          → (y : Target) × (target_at classes s ≡ Some y) × RunsOn classes (class_type name) m.typed.ty y
      runs_selected s stands above is callable =
          on_runs classes t typed (r.name, r.ty) m.typed.ty s
          (record {
            stands = stands;
            read = m.typed.read;
            static_is = (instance_parts s is).0;
            lib_class = λ id e. sym (ap (is_interface_in classes) e)
                ∙ above_class classes t concrete.id s.class x_in concrete.no_interface above;
            callable = callable;
          })
          ordinary (class_type name)
          (λ d y e h. held_class classes t name d concrete.id y concrete.named e
          (below_trans classes t concrete.id s.class y x_in above h))

      abbrev Runs : Option Target → Type 0
      Runs o = (y : Target) × (o ≡ Some y) × RunsOn classes (class_type name) m.typed.ty y

      -- nothing is abstract, so what implements an interface's methods may be called
      implemented : (n' : ℕ) → concrete.id ≡ Prog n' → (k : ℕ) → m.member.class ≡ Prog k
          → list_any (same_class m.member.class) (superinterfaces classes concrete.id) ≡ true → (s : MemberAt)
          → selected classes concrete.id m.member ≡ Some s → is_callable_role (role_at s) ≡ true
      implemented n' is k in_class above s e = implementing classes t n' (subst (IsClass classes) is x_in)
          (subst (λ v. is_abstract_class classes v ≡ false) is concrete.not_abstract) m.member k in_class instance
          (subst (λ v. list_any (same_class m.member.class) (superinterfaces classes v) ≡ true) is above) s
          (subst (λ v. selected classes v m.member ≡ Some s) is e)

      callable_first : (s : MemberAt) → Stands classes (r.name, r.ty) s
          → is_class_below classes concrete.id s.class ≡ true
          → is_interface_in classes m.member.class ≡ true → is_below classes concrete.id m.member.class ≡ true
          → selected classes concrete.id m.member ≡ Some s → is_callable_role (role_at s) ≡ true
      callable_first s stands on interface below e = by m.member.class refl concrete.id refl where
        s_class : is_interface_in classes s.class ≡ false
        s_class = above_class classes t concrete.id s.class x_in concrete.no_interface on

        in_interfaces : list_any (same_class m.member.class) (superinterfaces classes concrete.id) ≡ true
        in_interfaces = ⊎_elim
            (λ h. absurd (both (is_interface_in classes m.member.class)
            (above_class classes t concrete.id m.member.class x_in concrete.no_interface h) interface))
            (λ h. h)
            (up_cases concrete.id m.member.class below)

        by : (y : ClassId) → m.member.class ≡ y → (z : ClassId) → concrete.id ≡ z → is_callable_role (role_at s) ≡ true
        by (Lib j) q z p = apart_callable s m.member stands s_class j q stand interface m.callable
        by (Prog k) q (Prog n') p = implemented n' p k q in_interfaces s e
        by (Prog k) q (Lib id) p = absurd (lib_only id k (subst (IsClass classes) p x_in)
            (subst (λ v. is_below classes v (Prog k) ≡ true) p
            (subst (λ v. is_below classes concrete.id v ≡ true) q below)))

      runs_one : (s : MemberAt) → selected classes concrete.id m.member ≡ Some s
          → is_below classes concrete.id m.member.class ≡ true → Runs (target_at classes s)
      runs_one s e below = by (is_interface_in classes m.member.class) refl e where
        by : (b : Bool) → is_interface_in classes m.member.class ≡ b
            → cond b (first_instance classes concrete.id (named_at classes m.member))
            (first (overriding_from classes concrete.id m.member)) ≡ Some s → Runs (target_at classes s)
        by true i h =
            let f = first_is classes t (named_at classes m.member) concrete.id x_in s h in
            let stands = subst (λ z. Stands classes z s) its_name f.on.stands in
            runs_selected s stands f.on.above f.instance (callable_first s stands f.on.above i below e)
        by false i h =
            let f = subst (λ o. IfSome o (IsOver classes t (named_at classes m.member) m.member concrete.id)) h
            (first_over classes t m.member instance concrete.id x_in) in
            let stands = subst (λ z. Stands classes z s) its_name f.on.stands in
            runs_selected s stands f.on.above f.instance (over_callable s m.member stands stand f.below m.callable)

      runs_of : (o : Option MemberAt) → selected classes concrete.id m.member ≡ o
          → is_below classes concrete.id m.member.class ≡ true → Runs (target_of classes o)
      runs_of None e below = (Fails AbstractMethod, refl, tt)
      runs_of (Some s) e below = runs_one s e below

      runs_checked : (i : Bool) → is_below classes concrete.id m.member.class ≡ true
          → Runs (checked classes i (selected classes concrete.id m.member))
      runs_checked false below = runs_of (selected classes concrete.id m.member) refl below
      runs_checked true below =
          by (option_map_or (is_public_member classes) (selected classes concrete.id m.member) true)
        where
          by : (b : Bool) → Runs (cond b (target_of classes (selected classes concrete.id m.member))
              (Some (Fails IllegalAccess)))
          by true = runs_of (selected classes concrete.id m.member) refl below
          by false = (Fails IllegalAccess, refl, tt)

      -- on what is of the class that a reference of a class names, the method is one of a supertype
      needed : r.of_interface ≡ false → is_held classes (class_type name) r.class ≡ true
          → (is_below classes concrete.id m.link.class && is_below classes concrete.id m.member.class) ≡ true
      unfolding is_java_assignable
      needed ref held = and_from (is_below classes concrete.id m.link.class)
          (is_below classes concrete.id m.member.class) (up_class concrete.id m.link.class below)
          (up_trans concrete.id m.link.class m.member.class x_in c_in (up_class concrete.id m.link.class below)
          (found_up m.link.class (r.name, r.ty) m.member no_interface m.link.member_is))
        where
          no_interface : is_interface_in classes m.link.class ≡ false
          no_interface = same_bool (is_interface_in classes m.link.class) r.of_interface m.link.rightly ∙ ref

          names : is_held classes (class_type name) (class_type m.link.name) ≡ true
              → is_class_assignable classes name (erased_name classes m.link.name) ≡ true
          names h = h

          one : {y z : ClassId} → Some y ≡ Some z → y ≡ z
          one e = cc

          below : is_class_below classes concrete.id m.link.class ≡ true
          below = ⊎_elim
              (λ e. subst (λ v. is_class_below classes concrete.id v ≡ true)
              (one (sym concrete.named ∙ ap (class_named classes) e ∙ m.link.named))
              (below_itself classes t concrete.id))
              (λ u. ⊎_elim
              (λ j. absurd (both (is_interface_in classes m.link.class) no_interface
              (subst (λ v. is_interface_in classes v ≡ true) (one (sym u.1.named ∙ m.link.named)) j)))
              (λ q. subst (λ v. is_class_below classes concrete.id v ≡ true) (one (sym u.1.named ∙ m.link.named))
              (subst (λ v. is_class_below classes v u.0 ≡ true) (one (sym q.1 ∙ concrete.named)) q.2))
              u.1.above)
              (assignable_cases classes t name m.link.name
              (subst (λ z. is_class_assignable classes name z ≡ true)
              (erased_own classes t m.link.name m.link.class m.link.named no_interface)
              (names (subst (λ (z : FieldType). is_held classes (class_type name) z ≡ true) m.link.class_is held))))

      runs_from : is_held classes (class_type name) r.class ≡ true
          → Runs (selected_from classes r concrete.id m.link.class m.member)
      runs_from held =
          by (is_below classes concrete.id m.link.class && is_below classes concrete.id m.member.class) refl
        where
          selects : (b : Bool) → is_below classes concrete.id m.member.class ≡ true
              → Runs (cond b (checked classes r.of_interface (selected classes concrete.id m.member))
              (Some (Fails AbstractMethod)))
          selects true below = runs_checked r.of_interface below
          selects false below = (Fails AbstractMethod, refl, tt)

          other : (i : Bool) → r.of_interface ≡ i
              → (is_below classes concrete.id m.link.class && is_below classes concrete.id m.member.class) ≡ false
              → Runs (cond i (Some (Fails IncompatibleChange)) None)
          other true e k = (Fails IncompatibleChange, refl, tt)
          other false e k = absurd (both _ k (needed e held))

          by : (b : Bool)
              → (is_below classes concrete.id m.link.class && is_below classes concrete.id m.member.class) ≡ b
              → Runs (cond b (cond (is_selected classes m.member)
              (checked classes r.of_interface (selected classes concrete.id m.member)) (Some (Fails AbstractMethod)))
              (cond r.of_interface (Some (Fails IncompatibleChange)) None))
          by true e = selects (is_selected classes m.member)
              (and_parts (is_below classes concrete.id m.link.class) (is_below classes concrete.id m.member.class) e).1
          by false e = other r.of_interface refl e

      pub on_class : is_held classes (class_type name) r.class ≡ true → Runs ((shape_of classes).selected_target name r)
      on_class held =
          let f = runs_from held in (
            f.0,
            ap (λ o. option_map_or (selected_of classes r) o None) concrete.named
                ∙ ap (λ b. cond b None (of_method classes (selected_from classes r concrete.id) r))
                concrete.no_interface
                ∙ ap (option_and_then
                (λ y. option_and_then (selected_from classes r concrete.id y) (method_of classes r y)))
                (class_of_link classes n r (λ y. method_found classes y (r.name, r.ty))
                (λ y. beq (is_interface_in classes y) r.of_interface) m.member m.link)
                ∙ ap (option_and_then (selected_from classes r concrete.id m.link.class)) m.link.member_is ∙ f.1,
            f.2,
          )
