-- What a reference to a field or a method means in a class, or the first rule that it breaks (JVMS 5.4.3, 5.4.4).
use Rattle.std.specs.Prelude.{Bool, true, false, not, ◌==◌, List, Option, Some, None, Result, Ok, Err, if◌then◌else◌}
use Rattle.std.specs.Bool.{beq}
use Rattle.jv_base.specs.declared.types.Base.{Base}
use Rattle.jv_base.specs.declared.types.Base.TheVariants as base
use Rattle.class_model.specs.declared.class.Class.{Class}
use Rattle.class_model.specs.declared.op.MemberRef.{MemberRef}
use Rattle.lib_table.specs.declared.member.Role.{Role}
use Rattle.lib_table.specs.declared.member.Role.TheVariants.{Callable}
use Rattle.class_pool.specs.declared.id.ClassId.{ClassId}
use Rattle.class_pool.specs.declared.id.MemberAt.{MemberAt}
use Rattle.class_pool.specs.Found.{role_at}
use Rattle.class_pool.specs.Hierarchy.{class_named}
use Rattle.class_pool.specs.Resolution.{field_found, is_class_accessible, is_interface_in, is_member_accessible}
use Rattle.class_pool.specs.Resolution.{method_found}
use Rattle.link_check.specs.declared.fault.LinkKind.{LinkKind}
use Rattle.link_check.specs.declared.fault.LinkKind.TheVariants.{Unresolved, Inaccessible, WrongKind, LeftOutMember}

-- a member of the library that a program may name (the project's own: what of the library may be used)
abbrev pub is_callable_role : Role → Bool
is_callable_role Callable = true
is_callable_role _ = false

module _ (classes : List Class) (from : ClassId) where
  -- a member that was found through a class, where that is named as it has to be (JVMS 5.4.3.2 to 5.4.3.4, 5.4.4)
  abbrev pub linked : ClassId → Bool → Option MemberAt → Result MemberAt LinkKind
  linked named right None = Err Unresolved
  linked named right (Some m) =
      if not (is_member_accessible classes from named m) then Err Inaccessible
      else if right then Ok m
      else Err WrongKind

  -- what is found through a class that is there and accessible (JVMS 5.4.3.1, 5.4.4)
  abbrev pub through : Option ClassId → (ClassId → Result MemberAt LinkKind) → Result MemberAt LinkKind
  through None found = Err Unresolved
  through (Some c) found = if is_class_accessible classes from c then found c else Err Inaccessible

  -- a member of an array is never taken; the class of its elements has to be there and accessible
  -- (the project's own: no member of an array is taken yet)
  abbrev pub of_array : Bool → Base → Result MemberAt LinkKind
  of_array right (base.Class name) = through (class_named classes name)
      (λ c. if right then Err LeftOutMember else Err WrongKind)
  of_array right _ = if right then Err LeftOutMember else Err WrongKind

  -- what a class finds, by its name; no other type has members (JVMS 5.4.3.2, 5.4.3.3)
  abbrev pub of_class : Base → (ClassId → Result MemberAt LinkKind) → Result MemberAt LinkKind
  of_class (base.Class name) found = through (class_named classes name) found
  of_class _ found = Err Unresolved

  -- the field of a reference, one too that a program may not name (JVMS 5.4.3.2)
  abbrev pub linked_field : MemberRef → Result MemberAt LinkKind
  linked_field r =
      if r.class.dims == 0 then of_class r.class.base (λ c. linked c true (field_found classes c (r.name, r.ty)))
      else of_array true r.class.base

  -- the method of a reference, one too that a program may not name; a class has to be named as one, and an interface as
  -- one (JVMS 5.4.3.3, 5.4.3.4)
  abbrev pub linked_method : MemberRef → Result MemberAt LinkKind
  linked_method r =
      if r.class.dims == 0
      then of_class r.class.base
      (λ c. linked c (beq (is_interface_in classes c) r.of_interface) (method_found classes c (r.name, r.ty)))
      else of_array (not r.of_interface) r.class.base

  -- a member that a program may name (the project's own: what of the library may be used)
  abbrev pub callable : Result MemberAt LinkKind → Result MemberAt LinkKind
  callable (Ok m) = if is_callable_role (role_at m) then Ok m else Err LeftOutMember
  callable (Err kind) = Err kind

  -- the field of a reference (JVMS 5.4.3.2)
  abbrev pub resolved_field : MemberRef → Result MemberAt LinkKind
  resolved_field r = callable (linked_field r)

  -- the method of a reference (JVMS 5.4.3.3, 5.4.3.4)
  abbrev pub resolved_method : MemberRef → Result MemberAt LinkKind
  resolved_method r = callable (linked_method r)
