-- What invokevirtual and invokeinterface run on arrays in a set that is taken (JVMS 6.5, JLS 10.7).
use Rattle.std.proofs.Common.{◌≡◌, ◌||◌, ◌+◌, ⊎_elim, inr, ℕ, Bool, true, false, cond, List}
use Rattle.std.proofs.Common.{Option, Some, None, refl, sym, ap, subst, ◌∙◌, arith, codes}
use Rattle.std.specs.Bool.{beq}
use Rattle.std.specs.Option.{option_and_then}
use Rattle.std.proofs.lemmas.Bool.{or_cases}
use Rattle.jv_base.specs.Names.{is_text}
use Rattle.jv_base.specs.declared.types.Base.TheVariants as base
use Rattle.jv_base.specs.declared.types.FieldType.{FieldType}
use Rattle.jv_base.proofs.Equality.{same_text}
use Rattle.class_model.specs.Flags.{is_init}
use Rattle.class_model.specs.declared.class.Class.{Class}
use Rattle.class_model.specs.declared.op.MemberRef.{MemberRef}
use Rattle.lib_table.specs.Library.{library}
use Rattle.lib_table.specs.Lookups as table
use Rattle.class_pool.specs.Found.{name_of}
use Rattle.class_pool.specs.Hierarchy.{IsClass, class_named, is_interface_kind}
use Rattle.class_pool.specs.Resolution.{is_class_below, is_interface_in, method_found}
use Rattle.class_pool.specs.Walk.{same_class, upwards}
use Rattle.class_pool.specs.declared.id.ClassId.{ClassId}
use Rattle.class_pool.specs.declared.id.ClassId.TheVariants.{Lib}
use Rattle.class_pool.proofs.EachOnce.{same_is}
use Rattle.jvm_model.specs.Exceptions.{IncompatibleChange}
use Rattle.jvm_model.specs.Program.{Fails, Target}
use Rattle.jvm_model.specs.Types as machine
use Rattle.set_view.specs.ViewOf.{array_from, method_of, shape_of, target_at}
use Rattle.type_verifier.specs.Assignable.{class_type, is_above_arrays, is_java_assignable}
use Rattle.type_verifier.specs.Verified.{AreTyped}
use Rattle.fit_laws.specs.Held.{erased_name, is_held}
use Rattle.fit_laws.specs.Meaning.{CallsSelected, RunsOn}
use Rattle.fit_laws.proofs.Held.{dims_back}
use Rattle.image_laws.specs.TakenSet.TakenSet.{IsTaken}
use Rattle.image_laws.proofs.TakenSet.Names.{class_found, library_named, object_named}
use Rattle.image_laws.proofs.ViewImage.Naming.{class_name}
use Rattle.type_sound.proofs.CallMeaning.{method_stand, on_class, same_bool}
use Rattle.type_sound.proofs.Declarers.{found_five, found_four, found_zero}
use Rattle.type_sound.proofs.LibraryClasses.{no_arrays}
use Rattle.type_sound.proofs.Links.{TakenMethod, class_of_link}
use Rattle.type_sound.proofs.Order.{class_in, ordered}
use Rattle.type_sound.proofs.TargetRuns.{on_runs}

both : (b : Bool) → b ≡ false → b ≡ true → ⊥
both b e f = cc

-- the machine and the rules of types name the same classes
above_alike : (name : List ℕ) → machine.is_above_arrays (base.Class name) ≡ false
    → is_above_arrays (base.Class name) ≡ false
above_alike name = by (is_text name (codes "java/lang/Object")) (is_text name (codes "java/lang/Cloneable"))
    (is_text name (codes "java/io/Serializable")) where
      by : (a b c : Bool) → (a || (b || (c || false))) ≡ false → (a || b || c) ≡ false
      by false false false h = refl
      by true b c h = absurd cc
      by false true c h = absurd cc
      by false false true h = absurd cc

module _ (classes : List Class) (t : IsTaken classes) (typed : AreTyped classes) where
  -- each array is an Object (JVMS 4.10.1.2, isArrayInterface)
  array_held : (component : FieldType)
      → is_held classes (machine.array_of component) (class_type (codes "java/lang/Object")) ≡ true
  unfolding is_java_assignable
  array_held component = dims_back (component.dims + 1) 0 _ _ (inr (omega arith, above)) where
    above : is_above_arrays (base.Class (erased_name classes (codes "java/lang/Object"))) ≡ true
    above = ap (λ b. is_above_arrays (base.Class (cond b (codes "java/lang/Object") (codes "java/lang/Object"))))
        (ordered classes t).object

  -- above Object is Object alone
  object_name : (c : List ℕ) (y : ClassId) → class_named classes c ≡ Some y
      → is_class_below classes (Lib 0) y ≡ true → codes "java/lang/Object" ≡ c
  unfolding library upwards
  object_name c y e h = ap (name_of classes) (sym (same_is y (Lib 0) (front (same_class y (Lib 0)) h)))
      ∙ class_name classes c y e
    where
      front : (b : Bool) → (b || false) ≡ true → b ≡ true
      front true h = refl
      front false h = absurd cc

  object_kind : is_interface_kind (table.class_at 0).kind ≡ false
  unfolding library
  object_kind = refl

  cloneable_at : class_named classes (codes "java/lang/Cloneable") ≡ Some (Lib 4)
  unfolding library
  cloneable_at = library_named classes t (codes "java/lang/Cloneable") refl

  serializable_at : class_named classes (codes "java/io/Serializable") ≡ Some (Lib 5)
  unfolding library
  serializable_at = library_named classes t (codes "java/io/Serializable") refl

  module _ (n : ℕ) (r : MemberRef) (m : TakenMethod classes n false r) (ordinary : is_init r.name ≡ false)
      (component : FieldType) where
    c_in : IsClass classes m.link.class
    c_in = class_in classes t m.link.name m.link.class m.link.named

    abbrev Runs : Option Target → Type 0
    Runs o = (y : Target) × (o ≡ Some y) × RunsOn classes (machine.array_of component) m.typed.ty y

    one : (y z : ClassId) → Some y ≡ Some z → y ≡ z
    one y z e = cc

    -- the class of a name of the library
    is_at : (id : ℕ) (text : List ℕ) → class_named classes text ≡ Some (Lib id)
        → is_text (name_of classes m.link.class) text ≡ true
        → method_found classes (Lib id) (r.name, r.ty) ≡ Some m.member
    is_at id text named h = subst (λ z. method_found classes z (r.name, r.ty) ≡ Some m.member)
        (one m.link.class (Lib id) (sym (class_found classes t m.link.class c_in)
        ∙ ap (class_named classes) (same_text (name_of classes m.link.class) text h) ∙ named))
        m.link.member_is

    -- such a class finds methods of Object alone
    of_object : machine.is_above_arrays (base.Class (name_of classes m.link.class)) ≡ true → m.member.class ≡ Lib 0
    of_object h = ⊎_elim
        (λ e. found_zero classes t (r.name, r.ty) m.member
        (is_at 0 (codes "java/lang/Object") (object_named classes t) e))
        (λ k. ⊎_elim
        (λ e. found_four classes t (r.name, r.ty) m.member (is_at 4 (codes "java/lang/Cloneable") cloneable_at e))
        (λ l. ⊎_elim
        (λ e. found_five classes t (r.name, r.ty) m.member (is_at 5 (codes "java/io/Serializable") serializable_at e))
        (λ e. absurd (none e))
        (or_cases (is_text (name_of classes m.link.class) (codes "java/io/Serializable")) false l))
        (or_cases (is_text (name_of classes m.link.class) (codes "java/lang/Cloneable")) _ k))
        (or_cases (is_text (name_of classes m.link.class) (codes "java/lang/Object")) _ h)
      where
        none : false ≡ true → ⊥
        none e = cc

    object_runs : m.member.class ≡ Lib 0 → Runs (target_at classes m.member)
    object_runs is = on_runs classes t typed (r.name, r.ty) m.typed.ty m.member
        (record {
          stands = method_stand classes t typed n r m.member m.link;
          read = m.typed.read;
          static_is = m.static_is;
          lib_class = λ id e. subst (λ (j : ℕ). is_interface_kind (table.class_at j).kind ≡ false)
              (number id (sym is ∙ e)) object_kind;
          callable = m.callable;
        })
        ordinary (machine.array_of component)
        (λ d y e h. subst (λ (z : List ℕ). is_held classes (machine.array_of component) (class_type z) ≡ true)
        (object_name d y e (subst (λ z. is_class_below classes z y ≡ true) is h)) (array_held component))
      where
        number : (id : ℕ) → Lib 0 ≡ Lib id → 0 ≡ id
        number id e = cc

    pub on_array : is_held classes (machine.array_of component) r.class ≡ true
        → Runs ((shape_of classes).array_target r)
    on_array held =
        let f = by (machine.is_above_arrays (base.Class (name_of classes m.link.class))) refl in (
          f.0,
          ap (option_and_then (λ y. option_and_then (array_from classes r y) (method_of classes r y)))
              (class_of_link classes n r (λ y. method_found classes y (r.name, r.ty))
              (λ y. beq (is_interface_in classes y) r.of_interface) m.member m.link)
              ∙ ap (option_and_then (array_from classes r m.link.class)) m.link.member_is ∙ f.1,
          f.2,
        )
      where
        never : r.of_interface ≡ false
            → machine.is_above_arrays (base.Class (name_of classes m.link.class)) ≡ false → ⊥
        never ref apart = both (is_held classes (machine.array_of component) (class_type m.link.name))
            (no_arrays classes t m.link.name m.link.class m.link.named
            (same_bool (is_interface_in classes m.link.class) r.of_interface m.link.rightly ∙ ref)
            (above_alike m.link.name
            (ap (λ (z : List ℕ). machine.is_above_arrays (base.Class z))
            (sym (class_name classes m.link.name m.link.class m.link.named)) ∙ apart)) component)
            (subst (λ (z : FieldType). is_held classes (machine.array_of component) z ≡ true) m.link.class_is held)

        other : (i : Bool) → r.of_interface ≡ i
            → machine.is_above_arrays (base.Class (name_of classes m.link.class)) ≡ false
            → Runs (cond i (Some (Fails IncompatibleChange)) None)
        other true e k = (Fails IncompatibleChange, refl, tt)
        other false e k = absurd (never e k)

        by : (b : Bool) → machine.is_above_arrays (base.Class (name_of classes m.link.class)) ≡ b
            → Runs (cond b (target_at classes m.member)
            (cond r.of_interface (Some (Fails IncompatibleChange)) None))
        by true e = object_runs (of_object e)
        by false e = other r.of_interface refl e

  -- invokevirtual and invokeinterface run a method that fits, on each object of the type of the reference
  pub calls_selected : (n : ℕ) (r : MemberRef) → TakenMethod classes n false r → is_init r.name ≡ false
      → CallsSelected classes r
  calls_selected n r m ordinary = record {
    typed = m.typed;
    on_class = λ name concrete held. on_class classes t typed n r m ordinary name concrete held;
    on_array = λ component held. on_array n r m ordinary component held;
  }
