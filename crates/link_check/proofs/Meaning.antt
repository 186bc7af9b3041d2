-- What holds of each member that a class declares with a name and a descriptor, holds of the one that a reference with
-- these means.
use Rattle.std.proofs.Common.{◌≡◌, Bool, true, false, cond, List, [], ◌∷◌, Option, Some, None, Result, Ok, Err}
use Rattle.std.proofs.Common.{refl, subst}
use Rattle.std.specs.Prelude.{not, ◌&&◌, ◌==◌, IfOk, IfSome, codes}
use Rattle.std.specs.Bool.{beq}
use Rattle.std.specs.List.{AllByRecursion, cons_option, filter, find, list_all}
use Rattle.std.specs.Option.{option_and_then, option_or}
use Rattle.jv_base.specs.declared.types.Base.{Base}
use Rattle.jv_base.specs.declared.types.Base.TheVariants as base
use Rattle.class_model.specs.declared.class.Class.{Class}
use Rattle.class_model.specs.declared.op.MemberRef.{MemberRef}
use Rattle.class_pool.specs.declared.id.ClassId.{ClassId}
use Rattle.class_pool.specs.declared.id.MemberAt.{MemberAt}
use Rattle.class_pool.specs.Found.{NameAndType, declared_by, declared_in, is_abstract_member, is_public_member}
use Rattle.class_pool.specs.Found.{is_static_member, named_at, role_at, same_member}
use Rattle.class_pool.specs.Hierarchy.{class_named}
use Rattle.class_pool.specs.Resolution.{chosen, class_method_found, field_found, field_order, first, first_declared}
use Rattle.class_pool.specs.Resolution.{interface_method_found, is_class_accessible, is_interface_in}
use Rattle.class_pool.specs.Resolution.{is_maximally_specific}
use Rattle.class_pool.specs.Resolution.{is_member_accessible, is_open, maximally_specific, method_found}
use Rattle.class_pool.specs.Resolution.{object_method, only_one}
use Rattle.class_pool.specs.Resolution.{superinterface_methods}
use Rattle.class_pool.specs.Walk.{superclasses_from, superinterfaces}
use Rattle.class_pool.proofs.Declaring.{declared_named}
use Rattle.link_check.specs.declared.fault.LinkKind.{LinkKind}
use Rattle.link_check.specs.declared.fault.LinkKind.TheVariants.{Inaccessible, LeftOutMember, WrongKind}
use Rattle.link_check.specs.Links.{callable, is_callable_role, linked, linked_field, linked_method, of_array, of_class}
use Rattle.link_check.specs.Links.{resolved_field, resolved_method, through}

-- ---- one of a list

module _ (P : MemberAt → Type 0) where
  pub of_first : (ms : List MemberAt) → AllByRecursion P ms → IfSome (first ms) P
  of_first [] h = tt
  of_first (m ∷ ms) h = h.0

  pub of_find : (test : MemberAt → Bool) (ms : List MemberAt) → AllByRecursion P ms → IfSome (find test ms) P
  of_find test [] h = tt
  of_find test (m ∷ ms) h = by (test m) (of_find test ms h.1)
    where
      by : (b : Bool) → IfSome (find test ms) P → IfSome (cond b (Some m) (find test ms)) P
      by true r = h.0
      by false r = r

  pub of_filter : (test : MemberAt → Bool) (ms : List MemberAt) → AllByRecursion P ms
      → AllByRecursion P (filter test ms)
  of_filter test [] h = tt
  of_filter test (m ∷ ms) h = by (test m) (of_filter test ms h.1)
    where
      by : (b : Bool) → AllByRecursion P (filter test ms)
          → AllByRecursion P (cond b (m ∷ filter test ms) (filter test ms))
      by true r = (h.0, r)
      by false r = r

  of_only : (classes : List Class) (ms : List MemberAt) → AllByRecursion P ms → IfSome (only_one classes ms) P
  of_only classes [] h = tt
  of_only classes (m ∷ ms) h = by (list_all (same_member m) ms)
    where
      by : (b : Bool) → IfSome (cond b (Some m) None) P
      by true = h.0
      by false = tt

  of_or : (one other : Option MemberAt) → IfSome one P → IfSome other P → IfSome (option_or one other) P
  of_or (Some m) other h k = h
  of_or None other h k = k

  of_chosen : (classes : List Class) (ms : List MemberAt) → AllByRecursion P ms → IfSome (chosen classes ms) P
  of_chosen classes ms h =
      of_or (maximally_specific classes ms) (first ms)
      (of_only classes (filter (λ m. not (is_abstract_member classes m)) (filter (is_maximally_specific classes ms) ms))
      (of_filter (λ m. not (is_abstract_member classes m)) (filter (is_maximally_specific classes ms) ms)
      (of_filter (is_maximally_specific classes ms) ms h)))
      (of_first ms h)

  -- ---- what is declared

  module _ (classes : List Class) (named : NameAndType)
      (each : (c : ClassId) → IfSome (declared_in classes named c) P) where
    pub of_declared : (cs : List ClassId) → AllByRecursion P (declared_by classes named cs)
    of_declared [] = tt
    of_declared (c ∷ cs) = by (declared_in classes named c) (each c) (of_declared cs)
      where
        by : (o : Option MemberAt) → IfSome o P → AllByRecursion P (declared_by classes named cs)
            → AllByRecursion P (cons_option o (declared_by classes named cs))
        by (Some m) h r = (h, r)
        by None h r = r

    of_first_declared : (cs : List ClassId) → IfSome (first_declared classes named cs) P
    of_first_declared cs = of_first (declared_by classes named cs) (of_declared cs)

    of_field : (c : ClassId) → IfSome (field_found classes c named) P
    of_field c = of_first_declared (field_order classes c)

    of_superinterfaces : (c : ClassId) → IfSome (chosen classes (superinterface_methods classes c named)) P
    of_superinterfaces c =
        of_chosen classes (superinterface_methods classes c named)
        (of_filter (is_open classes) (declared_by classes named (superinterfaces classes c))
        (of_declared (superinterfaces classes c)))

    of_object : (o : Option ClassId) → IfSome (option_and_then
        (λ object. find (λ m. is_public_member classes m && not (is_static_member classes m))
        (declared_by classes named (object ∷ []))) o) P
    of_object (Some object) = of_find (λ m. is_public_member classes m && not (is_static_member classes m))
        (declared_by classes named (object ∷ [])) (of_declared (object ∷ []))
    of_object None = tt

    of_method : (c : ClassId) → IfSome (method_found classes c named) P
    of_method c = by (is_interface_in classes c)
      where
        by : (b : Bool)
            → IfSome (cond b (interface_method_found classes c named) (class_method_found classes c named)) P
        by true =
            of_or (declared_in classes named c)
            (option_or (object_method classes named) (chosen classes (superinterface_methods classes c named))) (each c)
            (of_or (object_method classes named) (chosen classes (superinterface_methods classes c named))
            (of_object (class_named classes (codes "java/lang/Object"))) (of_superinterfaces c))
        by false =
            of_or (first_declared classes named (superclasses_from classes c))
            (chosen classes (superinterface_methods classes c named))
            (of_first_declared (superclasses_from classes c)) (of_superinterfaces c)

-- ---- what a reference means

module _ (P : MemberAt → Type 0) (classes : List Class) (from : ClassId) where
  of_linked : (c : ClassId) (right : Bool) (o : Option MemberAt) → IfSome o P → IfOk (linked classes from c right o) P
  of_linked c right None h = tt
  of_linked c right (Some m) h = by (not (is_member_accessible classes from c m)) right
    where
      by : (b t : Bool) → IfOk (cond b (Err Inaccessible) (cond t (Ok m) (Err WrongKind))) P
      by true t = tt
      by false true = h
      by false false = tt

  of_through : (o : Option ClassId) (f : ClassId → Result MemberAt LinkKind) → ((c : ClassId) → IfOk (f c) P)
      → IfOk (through classes from o f) P
  of_through None f h = tt
  of_through (Some c) f h = by (is_class_accessible classes from c)
    where
      by : (b : Bool) → IfOk (cond b (f c) (Err Inaccessible)) P
      by true = h c
      by false = tt

  of_base : (b : Base) (f : ClassId → Result MemberAt LinkKind) → ((c : ClassId) → IfOk (f c) P)
      → IfOk (of_class classes from b f) P
  of_base (base.Class name) f h = of_through (class_named classes name) f h
  of_base base.Boolean f h = tt
  of_base base.Byte f h = tt
  of_base base.Char f h = tt
  of_base base.Short f h = tt
  of_base base.Int f h = tt
  of_base base.Long f h = tt
  of_base base.Float f h = tt
  of_base base.Double f h = tt

  abbrev refused : LinkKind → Result MemberAt LinkKind
  refused kind = Err kind

  never : (right : Bool) → IfOk (cond right (refused LeftOutMember) (refused WrongKind)) P
  never true = tt
  never false = tt

  of_arrays : (right : Bool) (b : Base) → IfOk (of_array classes from right b) P
  of_arrays right (base.Class name) =
      of_through (class_named classes name) (λ c. cond right (refused LeftOutMember) (refused WrongKind))
      (λ c. never right)
  of_arrays right base.Boolean = never right
  of_arrays right base.Byte = never right
  of_arrays right base.Char = never right
  of_arrays right base.Short = never right
  of_arrays right base.Int = never right
  of_arrays right base.Long = never right
  of_arrays right base.Float = never right
  of_arrays right base.Double = never right

  of_callable : (r : Result MemberAt LinkKind) → IfOk r P → IfOk (callable classes from r) P
  of_callable (Err kind) h = tt
  of_callable (Ok m) h = by (is_callable_role (role_at m))
    where
      by : (b : Bool) → IfOk (cond b (Ok m) (refused LeftOutMember)) P
      by true = h
      by false = tt

  module _ (r : MemberRef) (each : (c : ClassId) → IfSome (declared_in classes (r.name, r.ty) c) P) where
    pub method_has : IfOk (resolved_method classes from r) P
    method_has = of_callable (linked_method classes from r) (by (r.class.dims == 0))
      where
        found : ClassId → Result MemberAt LinkKind
        found = λ c. linked classes from c (beq (is_interface_in classes c) r.of_interface)
            (method_found classes c (r.name, r.ty))

        by : (b : Bool) → IfOk (cond b (of_class classes from r.class.base found)
            (of_array classes from (not r.of_interface) r.class.base)) P
        by true = of_base r.class.base found (λ c. of_linked c (beq (is_interface_in classes c) r.of_interface)
            (method_found classes c (r.name, r.ty)) (of_method P classes (r.name, r.ty) each c))
        by false = of_arrays (not r.of_interface) r.class.base

    pub field_has : IfOk (resolved_field classes from r) P
    field_has = of_callable (linked_field classes from r) (by (r.class.dims == 0))
      where
        found : ClassId → Result MemberAt LinkKind
        found = λ c. linked classes from c true (field_found classes c (r.name, r.ty))

        by : (b : Bool) → IfOk (cond b (of_class classes from r.class.base found)
            (of_array classes from true r.class.base)) P
        by true = of_base r.class.base found (λ c. of_linked c true (field_found classes c (r.name, r.ty))
            (of_field P classes (r.name, r.ty) each c))
        by false = of_arrays true r.class.base

-- ---- the name and the descriptor

declared_so : (classes : List Class) (named : NameAndType) (c : ClassId)
    → IfSome (declared_in classes named c) (λ m. named_at classes m ≡ named)
declared_so classes named c = by (declared_in classes named c) refl
  where
    by : (o : Option MemberAt) → declared_in classes named c ≡ o → IfSome o (λ m. named_at classes m ≡ named)
    by None e = tt
    by (Some m) e = declared_named classes named c m e

-- the method that a reference means has its name and descriptor
pub method_named : (classes : List Class) (from : ClassId) (r : MemberRef) (m : MemberAt)
    → resolved_method classes from r ≡ Ok m → named_at classes m ≡ (r.name, r.ty)
method_named classes from r m is =
    subst (λ (o : Result MemberAt LinkKind). IfOk o (λ x. named_at classes x ≡ (r.name, r.ty))) is
    (method_has (λ x. named_at classes x ≡ (r.name, r.ty)) classes from r (declared_so classes (r.name, r.ty)))

-- the field that a class finds has the name and the descriptor that were looked for
pub field_found_named : (classes : List Class) (named : NameAndType) (c : ClassId)
    → IfSome (field_found classes c named) (λ m. named_at classes m ≡ named)
field_found_named classes named c =
    of_field (λ m. named_at classes m ≡ named) classes named (declared_so classes named) c

-- and so has the method
pub method_found_named : (classes : List Class) (named : NameAndType) (c : ClassId)
    → IfSome (method_found classes c named) (λ m. named_at classes m ≡ named)
method_found_named classes named c =
    of_method (λ m. named_at classes m ≡ named) classes named (declared_so classes named) c
