-- What another method that invokespecial names runs in a set that is taken (JVMS 6.5.invokespecial).
use Rattle.std.proofs.Common.{◌≡◌, ◌⊎◌, ◌&&◌, ◌+◌, inl, inr, ⊎_elim, ℕ, not, Bool, true, false, cond, List, []}
use Rattle.std.proofs.Common.{◌∷◌, Option, Some, None, refl, sym, ap, subst, ◌∙◌}
use Rattle.std.specs.Bool.{beq}
use Rattle.std.specs.List.{cons_option, find, list_any}
use Rattle.std.specs.Option.{option_and_then, option_map_or, option_or}
use Rattle.std.proofs.lemmas.Bool.{and_from, and_parts, or_cases}
use Rattle.jv_base.proofs.Lists.{all_at, any_where, nil_parts}
use Rattle.class_model.specs.ConstantPool.{IsMethodText}
use Rattle.class_model.specs.Flags.{acc_abstract, acc_public, acc_static, has, is_init, is_static}
use Rattle.class_model.specs.declared.class.Class.{Class}
use Rattle.class_model.specs.declared.op.MemberRef.{MemberRef}
use Rattle.lib_table.specs.Library.{LibraryMember}
use Rattle.lib_table.specs.Lookups as table
use Rattle.lib_table.specs.declared.class.LibKind.{LibKind}
use Rattle.class_pool.specs.Found.{MemberRow, NameAndType, declared_by, declared_in, is_instance_method}
use Rattle.class_pool.specs.Found.{is_instance_row}
use Rattle.class_pool.specs.Found.{is_method_at, is_public_member}
use Rattle.class_pool.specs.Found.{is_static_member, library_row, named_at, role_at, row_at}
use Rattle.class_pool.specs.Hierarchy.{IsClass, class_named, is_interface_kind, superclass}
use Rattle.class_pool.specs.Resolution.{chosen, class_method_found, first, first_declared, interface_method_found}
use Rattle.class_pool.specs.Resolution.{is_class_below, is_interface_in, method_found, object_method}
use Rattle.class_pool.specs.Resolution.{superinterface_methods}
use Rattle.class_pool.specs.Selection.{first_instance, selected_special}
use Rattle.class_pool.specs.Supers.{is_below}
use Rattle.class_pool.specs.Walk.{same_class, superclasses_from, superinterfaces}
use Rattle.class_pool.specs.declared.id.ClassId.{ClassId}
use Rattle.class_pool.specs.declared.id.ClassId.TheVariants.{Prog, Lib}
use Rattle.class_pool.specs.declared.id.MemberAt.{MemberAt}
use Rattle.class_pool.proofs.EachOnce.{same_is, same_itself}
use Rattle.class_pool.proofs.Within.{In, in_right}
use Rattle.link_check.specs.Links.{is_callable_role}
use Rattle.link_check.specs.Profile.{call_kinds, init_kinds, special_class_kinds, special_kinds, super_kinds}
use Rattle.link_check.specs.declared.fault.ProfileKind.TheVariants.{WrongKind}
use Rattle.jvm_model.specs.Exceptions.{AbstractMethod}
use Rattle.jvm_model.specs.Program.{Fails, Target}
use Rattle.set_view.specs.ViewOf.{method_of, special_of, target_of}
use Rattle.type_verifier.specs.Assignable.{class_type}
use Rattle.type_verifier.specs.Verified.{AreTyped}
use Rattle.fit_laws.specs.Meaning.{CallsSpecial, RunsOn}
use Rattle.image_laws.specs.TakenSet.TakenSet.{IsTaken}
use Rattle.image_laws.proofs.SetImage.Finding.{chosen_first}
use Rattle.image_laws.proofs.TakenSet.Names.{object_named}
use Rattle.image_laws.proofs.TakenSet.Proper.{is_proper}
use Rattle.image_laws.proofs.ViewImage.Standing.{Stands}
use Rattle.type_sound.proofs.CallMeaning.{apart_callable, both, instance, instance_parts, its_name, lib_only}
use Rattle.type_sound.proofs.CallMeaning.{method_stand, over_callable}
use Rattle.type_sound.proofs.Chains.{above_class, above_interface, above_library, below_cases, below_itself}
use Rattle.type_sound.proofs.Chains.{below_object, below_super}
use Rattle.type_sound.proofs.Chains.{below_there, below_trans, climb, super_there, superclass_class}
use Rattle.type_sound.proofs.Chains.{superinterfaces_are}
use Rattle.type_sound.proofs.Declarers.{declared_in_list, object_found, open_in_list}
use Rattle.type_sound.proofs.LibraryClasses.{held_class}
use Rattle.type_sound.proofs.Links.{TakenMethod, class_of_link, method_taken, unbroken}
use Rattle.type_sound.proofs.Order.{class_in}
use Rattle.type_sound.proofs.RowTable.{in_table, table_row}
use Rattle.type_sound.proofs.Selecting.{declared_class, first_is, line_next}
use Rattle.type_sound.proofs.TargetRuns.{on_runs}

bool_cases : (b : Bool) → (b ≡ true) ⊎ (b ≡ false)
bool_cases true = inl refl
bool_cases false = inr refl

-- a method that passes is found among those that are declared in a list of classes
find_none : {A : Type 0} (p : A → Bool) (x : A) (xs : List A) → p x ≡ true → find p (x ∷ xs) ≡ None → ⊥
find_none {A} p x xs h e = none (sym (ap (λ b. cond b (Some x) (find p xs)) h) ∙ e) where
  none : Some x ≡ None → ⊥
  none q = cc

module _ (classes : List Class) (t : IsTaken classes) (typed : AreTyped classes) where
  -- ---- two classes above one

  above_both : (x a b : ClassId) → IsClass classes x → is_class_below classes x a ≡ true
      → is_class_below classes x b ≡ true
      → (is_class_below classes a b ≡ true) ⊎ (is_class_below classes b a ≡ true)
  above_both x a b there h k = climb classes t
      (λ y. is_class_below classes y a ≡ true → is_class_below classes y b ≡ true
      → (is_class_below classes a b ≡ true) ⊎ (is_class_below classes b a ≡ true)) step x there h k
    where
      step : (y : ClassId) → IsClass classes y
          → ((s : ClassId) → superclass classes y ≡ Some s → is_class_below classes s a ≡ true
          → is_class_below classes s b ≡ true
          → (is_class_below classes a b ≡ true) ⊎ (is_class_below classes b a ≡ true))
          → is_class_below classes y a ≡ true → is_class_below classes y b ≡ true
          → (is_class_below classes a b ≡ true) ⊎ (is_class_below classes b a ≡ true)
      step y y_there up p q = ⊎_elim
          (λ e. inl (subst (λ v. is_class_below classes v b ≡ true) e q))
          (λ s. ⊎_elim
          (λ e. inr (subst (λ v. is_class_below classes v a ≡ true) e p))
          (λ z. up s.0 s.1 s.3 (subst (λ v. is_class_below classes v b ≡ true)
          (one z.0 s.0 (sym z.1 ∙ s.1)) z.3))
          (below_cases classes t y b y_there q))
          (below_cases classes t y a y_there p)
        where
          one : (u v : ClassId) → Some u ≡ Some v → u ≡ v
          one u v e = cc

  -- ---- the first instance method is at or below each one above

  first_low : (n : NameAndType) (m : MemberAt) → Stands classes n m → is_instance_method classes m ≡ true
      → (x : ClassId) → IsClass classes x → is_class_below classes x m.class ≡ true → (s : MemberAt)
      → first_instance classes x n ≡ Some s → is_class_below classes s.class m.class ≡ true
  first_low n m stands instance x there below s found =
      climb classes t (λ y. is_class_below classes y m.class ≡ true → (z : MemberAt)
      → first_instance classes y n ≡ Some z → is_class_below classes z.class m.class ≡ true) step x there below s found
    where
      none_some : (z : MemberAt) → None ≡ Some z → ⊥
      none_some z e = cc

      one : (u v : MemberAt) → Some u ≡ Some v → u ≡ v
      one u v e = cc

      -- past the class itself
      past : (y : ClassId) → IsClass classes y
          → ((u : ClassId) → superclass classes y ≡ Some u → is_class_below classes u m.class ≡ true → (s : MemberAt)
          → first_instance classes u n ≡ Some s → is_class_below classes s.class m.class ≡ true)
          → (y ≡ m.class → ⊥) → is_class_below classes y m.class ≡ true → (s : MemberAt)
          → find (is_instance_method classes)
          (declared_by classes n (option_map_or (superclasses_from classes) (superclass classes y) [])) ≡ Some s
          → is_class_below classes s.class m.class ≡ true
      past y y_there up apart b s e = ⊎_elim
          (λ q. absurd (apart q))
          (λ u. up u.0 u.1 u.3 s (sym (ap (λ o. find (is_instance_method classes)
          (declared_by classes n (option_map_or (superclasses_from classes) o []))) u.1) ∙ e))
          (below_cases classes t y m.class y_there b)

      step : (y : ClassId) → IsClass classes y
          → ((u : ClassId) → superclass classes y ≡ Some u → is_class_below classes u m.class ≡ true → (s : MemberAt)
          → first_instance classes u n ≡ Some s → is_class_below classes s.class m.class ≡ true)
          → is_class_below classes y m.class ≡ true → (s : MemberAt) → first_instance classes y n ≡ Some s
          → is_class_below classes s.class m.class ≡ true
      step y y_there up b s e = by (declared_in classes n y) refl
          (sym (ap (find (is_instance_method classes)) (line_next classes t n y y_there)) ∙ e)
        where
          own : (z : MemberAt) → declared_in classes n y ≡ Some z → y ≡ m.class → z ≡ m
          own z q same = one z m (sym q ∙ ap (declared_in classes n) same ∙ stands)

          by : (o : Option MemberAt) → declared_in classes n y ≡ o
              → find (is_instance_method classes) (cons_option o (declared_by classes n
              (option_map_or (superclasses_from classes) (superclass classes y) []))) ≡ Some s
              → is_class_below classes s.class m.class ≡ true
          by None q f = past y y_there up
              (λ same. none_some m (sym q ∙ ap (declared_in classes n) same ∙ stands)) b s f
          by (Some z) q f = ⊎_elim
              (λ i. subst (λ (v : MemberAt). is_class_below classes v.class m.class ≡ true)
              (one z s (sym (ap (λ c. cond c (Some z) (find (is_instance_method classes) (declared_by classes n
              (option_map_or (superclasses_from classes) (superclass classes y) [])))) i) ∙ f))
              (subst (λ v. is_class_below classes v m.class ≡ true) (sym (declared_class classes t n y z q)) b))
              (λ i. past y y_there up
              (λ same. both (is_instance_method classes z) i
              (subst (λ v. is_instance_method classes v ≡ true) (sym (own z q same)) instance)) b s
              (sym (ap (λ c. cond c (Some z) (find (is_instance_method classes) (declared_by classes n
              (option_map_or (superclasses_from classes) (superclass classes y) [])))) i) ∙ f))
              (bool_cases (is_instance_method classes z))

  -- what a class of a list declares is found in the list
  declared_found : (n : NameAndType) (cs : List ClassId) (y : ClassId) (s : MemberAt)
      → list_any (same_class y) cs ≡ true → declared_in classes n y ≡ Some s → first_declared classes n cs ≡ None → ⊥
  declared_found n [] y s h e none = absurd cc
  declared_found n (c ∷ cs) y s h e none = ⊎_elim
      (λ q. here (declared_in classes n c) (sym (ap (declared_in classes n) (same_is y c q)) ∙ e) none)
      (λ q. declared_found n cs y s q e (further (declared_in classes n c) none))
      (or_cases (same_class y c) (list_any (same_class y) cs) h)
    where
      here : (o : Option MemberAt) → o ≡ Some s → first (cons_option o (declared_by classes n cs)) ≡ None → ⊥
      here None p q = cc
      here (Some z) p q = cc

      further : (o : Option MemberAt) → first (cons_option o (declared_by classes n cs)) ≡ None
          → first_declared classes n cs ≡ None
      further None q = q
      further (Some z) q = absurd cc

  -- ---- what is selected may be called

  -- each row of the library's methods is public
  lib_public : (kind : LibKind) (m : LibraryMember) → has acc_public (library_row kind m).flags ≡ true
  lib_public kind m = by m.is_static (m.is_method && is_interface_kind kind) where
    by : (a b : Bool) → has acc_public (acc_public + cond a acc_static 0 + cond b acc_abstract 0) ≡ true
    by true true = refl
    by true false = refl
    by false true = refl
    by false false = refl

  member_public : (id k : ℕ) (s : MemberAt) → s ≡ record { class = Lib id; index = k }
      → is_instance_method classes s ≡ true → is_public_member classes s ≡ true
  member_public id k s same h =
      let e = in_table classes id k (subst (λ z. is_method_at classes z ≡ true) same (method s h)) in
      subst (λ z. is_public_member classes z ≡ true) (sym same)
      (ap (λ o. option_map_or (λ (r : MemberRow). has acc_public r.flags) o false) (table_row classes id k e)
      ∙ lib_public (table.class_at id).kind e.member)
    where
      method : (z : MemberAt) → is_instance_method classes z ≡ true → is_method_at classes z ≡ true
      method z i = by (row_at classes z) i where
        by : (o : Option MemberRow) → option_map_or is_instance_row o false ≡ true
            → option_map_or (λ (r : MemberRow). r.is_method) o false ≡ true
        by None q = absurd cc
        by (Some r) q = (and_parts r.is_method _ (and_parts (r.is_method && not (is_static r.flags)) _ q).0).0

  module _ (n : ℕ) (r : MemberRef) (m : TakenMethod classes n false r) (ordinary : is_init r.name ≡ false)
      (x : ClassId) (x_in : IsClass classes x) (below : is_class_below classes x m.link.class ≡ true)
      (alone : is_interface_in classes m.link.class ≡ true → m.link.class ≡ x) (s : MemberAt)
      (found : first_instance classes x (r.name, r.ty) ≡ Some s)
      (ordered_class : (id : ℕ) → s.class ≡ Lib id → is_interface_in classes s.class ≡ false) where
    one : (y z : MemberAt) → Some y ≡ Some z → y ≡ z
    one y z e = cc

    -- the first instance method stands above
    s_above : is_class_below classes x s.class ≡ true
    s_above = (first_is classes t (r.name, r.ty) x x_in s found).on.above

    s_stands : Stands classes (r.name, r.ty) s
    s_stands = (first_is classes t (r.name, r.ty) x x_in s found).on.stands

    s_instance : is_instance_method classes s ≡ true
    s_instance = (first_is classes t (r.name, r.ty) x x_in s found).instance

    m_stands : Stands classes (r.name, r.ty) m.member
    m_stands = method_stand classes t typed n r m.member m.link

    c_in : IsClass classes m.link.class
    c_in = class_in classes t m.link.name m.link.class m.link.named

    -- a method of an interface above a class
    from_interface : (id : ℕ) → s.class ≡ Lib id → first_declared classes (r.name, r.ty)
        (superclasses_from classes m.link.class) ≡ None
        → first (superinterface_methods classes m.link.class (r.name, r.ty)) ≡ Some m.member
        → is_callable_role (role_at s) ≡ true
    from_interface id lib none e = ⊎_elim
        (λ k. absurd (declared_found (r.name, r.ty) (superclasses_from classes m.link.class) s.class s k s_stands none))
        (λ k. library (above_library classes t id m.link.class
        (below_there classes t x (Lib id) x_in (subst (λ v. is_class_below classes x v ≡ true) lib s_above))
        (subst (λ v. is_class_below classes v m.link.class ≡ true) lib k)))
        (above_both x m.link.class s.class x_in below s_above)
      where
        place : In m.member.class (superinterfaces classes m.link.class)
        place = open_in_list classes t (r.name, r.ty) (superinterfaces classes m.link.class) m.member e

        interface : is_interface_in classes m.member.class ≡ true
        interface =
            let p = any_where (same_class m.member.class) (superinterfaces classes m.link.class) place in
            subst (λ v. is_interface_in classes v ≡ true) (sym (same_is m.member.class p.1 p.3))
            (all_at (λ v. is_interface_in classes v ≡ true) (superinterfaces classes m.link.class) p.0 p.1
            (superinterfaces_are classes t m.link.class) p.2)

        library : (j : ℕ) × (m.link.class ≡ Lib j) → is_callable_role (role_at s) ≡ true
        library l = by m.member.class refl where
          by : (y : ClassId) → m.member.class ≡ y → is_callable_role (role_at s) ≡ true
          by (Lib i) q = apart_callable classes t typed n r m ordinary s m.member s_stands (ordered_class id lib) i q
              m_stands interface m.callable
          by (Prog k) q = absurd (lib_only classes t typed l.0 k (subst (IsClass classes) l.1 c_in)
              (subst (λ v. is_below classes v (Prog k) ≡ true) l.1
              (in_right (Prog k) (superclasses_from classes m.link.class) (superinterfaces classes m.link.class)
              (subst (λ v. list_any (same_class v) (superinterfaces classes m.link.class) ≡ true) q place))))

    -- a method that a class finds, where no class above declares it
    of_class : is_class_below classes x m.member.class ≡ false → (id : ℕ) → s.class ≡ Lib id
        → class_method_found classes m.link.class (r.name, r.ty) ≡ Some m.member → is_callable_role (role_at s) ≡ true
    of_class none id lib e =
        by (first_declared classes (r.name, r.ty) (superclasses_from classes m.link.class)) refl e
      where
        by : (o : Option MemberAt)
            → first_declared classes (r.name, r.ty) (superclasses_from classes m.link.class) ≡ o
            → option_or o (chosen classes (superinterface_methods classes m.link.class (r.name, r.ty)))
            ≡ Some m.member
            → is_callable_role (role_at s) ≡ true
        by (Some z) q h = absurd (both (is_class_below classes x m.member.class) none
            (below_trans classes t x m.link.class m.member.class x_in below
            (declared_in_list classes t (r.name, r.ty) (superclasses_from classes m.link.class) m.member (q ∙ h))))
        by None q h = from_interface id lib q
            (sym (chosen_first classes (superinterface_methods classes m.link.class (r.name, r.ty))
            ((is_proper classes t).abstract_methods m.link.class (r.name, r.ty))) ∙ h)

    -- a method that an interface finds
    of_interface : is_class_below classes x m.member.class ≡ false → (id : ℕ) → s.class ≡ Lib id
        → is_interface_in classes m.link.class ≡ true
        → interface_method_found classes m.link.class (r.name, r.ty) ≡ Some m.member
        → is_callable_role (role_at s) ≡ true
    of_interface none id lib i e = by (declared_in classes (r.name, r.ty) m.link.class) refl
        (object_method classes (r.name, r.ty)) refl e
      where
        never : (v : ClassId) → m.member.class ≡ v → is_class_below classes x v ≡ true → ⊥
        never v same h = both (is_class_below classes x m.member.class) none
            (subst (λ y. is_class_below classes x y ≡ true) (sym same) h)

        -- Object has a method that is public
        of_object : object_method classes (r.name, r.ty) ≡ None → s.class ≡ Lib 0 → ⊥
        of_object q same = find_none (λ z. is_public_member classes z && not (is_static_member classes z)) s []
            (and_from (is_public_member classes s) (not (is_static_member classes s))
            (member_public 0 s.index s (ap (λ v. record { class = v; index = s.index }) same) s_instance)
            (ap not (instance_parts classes t typed s s_instance).0))
            (sym (ap (λ o. option_and_then (λ object. find
            (λ z. is_public_member classes z && not (is_static_member classes z))
            (declared_by classes (r.name, r.ty) (object ∷ []))) o) (object_named classes t)
            ∙ ap (λ o. find (λ z. is_public_member classes z && not (is_static_member classes z)) (cons_option o []))
            (sym (ap (declared_in classes (r.name, r.ty)) same) ∙ s_stands)) ∙ q)

        by : (o : Option MemberAt) → declared_in classes (r.name, r.ty) m.link.class ≡ o → (p : Option MemberAt)
            → object_method classes (r.name, r.ty) ≡ p
            → option_or o (option_or p (chosen classes
            (superinterface_methods classes m.link.class (r.name, r.ty)))) ≡ Some m.member
            → is_callable_role (role_at s) ≡ true
        by (Some z) q p f h = absurd (never m.link.class
            (declared_class classes t (r.name, r.ty) m.link.class m.member (q ∙ h)) below)
        by None q (Some w) f h = absurd (never (Lib 0) (object_found classes t (r.name, r.ty) m.member (f ∙ h))
            (below_object classes t x x_in))
        by None q None f h = ⊎_elim
            (λ same. absurd (both (is_interface_in classes s.class) (ordered_class id lib)
            (subst (λ v. is_interface_in classes v ≡ true) (alone i ∙ sym same) i)))
            (λ same. absurd (of_object f same))
            (above_interface classes t x s.class x_in
            (subst (λ v. is_interface_in classes v ≡ true) (alone i) i) s_above)

    apart_found : is_class_below classes x m.member.class ≡ false → (id : ℕ) → s.class ≡ Lib id
        → is_callable_role (role_at s) ≡ true
    apart_found none id lib = by (is_interface_in classes m.link.class) refl m.link.member_is where
      by : (b : Bool) → is_interface_in classes m.link.class ≡ b
          → cond b (interface_method_found classes m.link.class (r.name, r.ty))
          (class_method_found classes m.link.class (r.name, r.ty)) ≡ Some m.member
          → is_callable_role (role_at s) ≡ true
      by true i e = of_interface none id lib i e
      by false i e = of_class none id lib e

    special_callable : is_callable_role (role_at s) ≡ true
    special_callable = by s.class refl where
      by : (y : ClassId) → s.class ≡ y → is_callable_role (role_at s) ≡ true
      by (Prog own) q =
          let same : s ≡ record { class = Prog own; index = s.index } =
          ap (λ v. record { class = v; index = s.index }) q in
          ap (λ z. is_callable_role (role_at z)) same
      by (Lib id) q = ⊎_elim
          (λ b. over_callable classes t typed n r m ordinary s m.member s_stands m_stands
          (first_low (r.name, r.ty) m.member m_stands (instance classes t typed n r m ordinary) x x_in b s found)
          m.callable)
          (λ b. apart_found b id q)
          (bool_cases (is_class_below classes x m.member.class))

  -- invokespecial with another method (JVMS 6.5.invokespecial)
  pub calls_special : (n : ℕ) (from own : List ℕ) → class_named classes from ≡ Some (Prog n)
      → class_named classes own ≡ Some (Prog n) → (r : MemberRef) → IsMethodText r.ty → special_kinds classes n r ≡ []
      → is_init r.name ≡ false → CallsSpecial classes from own r
  calls_special n from own from_is own_is r d h e = record {
    typed = m.typed;
    target = f.0;
    found = ap (λ o. option_map_or (special_of classes r) o None) from_is
        ∙ ap (option_and_then (λ c. option_and_then (λ z. target_of classes (selected_special classes (Prog n) c z))
        (method_of classes r c)))
        (class_of_link classes n r (λ c. method_found classes c (r.name, r.ty))
        (λ c. beq (is_interface_in classes c) r.of_interface) m.member m.link)
        ∙ ap (option_and_then (λ z. target_of classes (selected_special classes (Prog n) m.link.class z)))
        m.link.member_is
        ∙ ap (λ b. target_of classes (cond b (Some m.member) (Chosen (named_at classes m.member))))
        (ap (λ (z : NameAndType). is_init z.0) (its_name classes t typed n r m e) ∙ e)
        ∙ ap (λ z. target_of classes (Chosen z)) (its_name classes t typed n r m e) ∙ f.1;
    runs = f.2;
  } where
    p : (call_kinds classes n false r ≡ []) × (special_class_kinds classes n r ≡ [])
    p = nil_parts (call_kinds classes n false r) (special_class_kinds classes n r) h

    m : TakenMethod classes n false r
    m = method_taken classes n false r d p.0

    Chosen : NameAndType → Option MemberAt
    Chosen z = cond (same_class (Prog n) m.link.class) (first_instance classes (Prog n) z)
        (option_and_then (λ above. first_instance classes above z) (superclass classes (Prog n)))

    kinds : super_kinds classes n m.link.class ≡ []
    kinds = sym (ap (λ b. cond b (init_kinds classes n m.link.class r) (super_kinds classes n m.link.class)) e)
        ∙ sym (ap (λ o. option_map_or
        (λ c. cond (is_init r.name) (init_kinds classes n c r) (super_kinds classes n c)) o (WrongKind ∷ []))
        (class_of_link classes n r (λ c. method_found classes c (r.name, r.ty))
        (λ c. beq (is_interface_in classes c) r.of_interface) m.member m.link))
        ∙ p.1

    below : is_class_below classes (Prog n) m.link.class ≡ true
    below = unbroken (is_class_below classes (Prog n) m.link.class) WrongKind kinds

    n_in : IsClass classes (Prog n)
    n_in = class_in classes t from (Prog n) from_is

    no_lib : (id : ℕ) → Prog n ≡ Lib id → ⊥
    no_lib id q = cc

    -- what is above a class of the program, and is of the library, is no interface
    above_is : (y : ClassId) → is_class_below classes (Prog n) y ≡ true → (id : ℕ) → y ≡ Lib id
        → is_interface_in classes y ≡ false
    above_is y up id lib = ⊎_elim
        (λ q. absurd (no_lib id (q ∙ lib)))
        (λ s. above_class classes t s.0 y s.2 (superclass_class classes t (Prog n) s.0 s.1) s.3)
        (below_cases classes t (Prog n) y n_in up)

    runs_from : (x : ClassId) → IsClass classes x → is_class_below classes x m.link.class ≡ true
        → (is_interface_in classes m.link.class ≡ true → m.link.class ≡ x)
        → is_class_below classes (Prog n) x ≡ true → (o : Option MemberAt)
        → first_instance classes x (r.name, r.ty) ≡ o
        → (y : Target) × (target_of classes o ≡ Some y) × RunsOn classes (class_type own) m.typed.ty y
    runs_from x x_in low alone up None q = (Fails AbstractMethod, refl, tt)
    runs_from x x_in low alone up (Some s) q =
        let g = first_is classes t (r.name, r.ty) x x_in s q in
        let s_up = below_trans classes t (Prog n) x s.class n_in up g.on.above in
        on_runs classes t typed (r.name, r.ty) m.typed.ty s
        (record {
          stands = g.on.stands;
          read = m.typed.read;
          static_is = (instance_parts classes t typed s g.instance).0;
          lib_class = λ id lib. sym (ap (is_interface_in classes) lib) ∙ above_is s.class s_up id lib;
          callable = special_callable n r m e x x_in low alone s q (above_is s.class s_up);
        })
        e (class_type own)
        (λ c y named k. held_class classes t own c (Prog n) y own_is named
        (below_trans classes t (Prog n) s.class y n_in s_up k))

    f : (y : Target) × (target_of classes (Chosen (r.name, r.ty)) ≡ Some y)
        × RunsOn classes (class_type own) m.typed.ty y
    f = by (same_class (Prog n) m.link.class) refl (superclass classes (Prog n)) refl where
      one : (y z : ClassId) → Some y ≡ Some z → y ≡ z
      one y z q = cc

      by : (b : Bool) → same_class (Prog n) m.link.class ≡ b → (o : Option ClassId) → superclass classes (Prog n) ≡ o
          → (y : Target) × (target_of classes (cond b (first_instance classes (Prog n) (r.name, r.ty))
          (option_and_then (λ above. first_instance classes above (r.name, r.ty)) o)) ≡ Some y)
          × RunsOn classes (class_type own) m.typed.ty y
      by true q o k = runs_from (Prog n) n_in below (λ i. sym (same_is (Prog n) m.link.class q))
          (below_itself classes t (Prog n)) (first_instance classes (Prog n) (r.name, r.ty)) refl
      by false q None k = (Fails AbstractMethod, refl, tt)
      by false q (Some x) k = runs_from x x_in x_low
          (λ i. absurd (both (is_interface_in classes m.link.class)
          (above_class classes t x m.link.class x_in (superclass_class classes t (Prog n) x k) x_low) i))
          (below_super classes t (Prog n) x x n_in k (below_itself classes t x))
          (first_instance classes x (r.name, r.ty)) refl
        where
          x_in : IsClass classes x
          x_in = super_there classes t (Prog n) x n_in k

          x_low : is_class_below classes x m.link.class ≡ true
          x_low = ⊎_elim
              (λ z. absurd (both (same_class (Prog n) m.link.class) q
              (subst (λ v. same_class (Prog n) v ≡ true) z (same_itself (Prog n)))))
              (λ z. subst (λ v. is_class_below classes v m.link.class ≡ true) (one z.0 x (sym z.1 ∙ k)) z.3)
              (below_cases classes t (Prog n) m.link.class n_in below)
