-- What the rules ask of the fields and methods that instructions name (JVMS 4.10.1.8, 4.10.1.9).
use Rattle.std.specs.Prelude.{ℕ, Bool, false, not, ◌&&◌, ◌||◌, ◌==◌, is_some, List, Result, Ok, Err}
use Rattle.jv_base.specs.Names.{is_text}
use Rattle.jv_base.specs.declared.types.Base.{Base}
use Rattle.jv_base.specs.declared.types.Base.TheVariants as base
use Rattle.jv_base.specs.declared.types.FieldType.{FieldType}
use Rattle.class_model.specs.declared.op.MemberRef.{MemberRef}
use Rattle.class_pool.specs.Found.{is_protected_member, is_static_member, same_package}
use Rattle.class_pool.specs.Members.{declared_at}
use Rattle.class_pool.specs.declared.id.ClassId.TheVariants.{Prog}
use Rattle.class_pool.specs.declared.id.MemberAt.{MemberAt}
use Rattle.link_check.specs.Links.{resolved_field, resolved_method}
use Rattle.link_check.specs.declared.fault.LinkKind.{LinkKind}
use Rattle.type_verifier.specs.Environment.{Environment, in_constructor}

-- what is left of a type without its dimensions is the class of this name (JVMS 4.10.1.1)
abbrev pub is_class_base : List ℕ → Base → Bool
is_class_base name (base.Class other) = is_text name other
is_class_base name _ = false

-- the type is the class of this name (JVMS 4.10.1.1)
abbrev pub is_class_type : List ℕ → FieldType → Bool
is_class_type name ty = ty.dims == 0 && is_class_base name ty.base

module _ (env : Environment) where
  -- a protected member, not static, of another package. What a reference in the class means is accessible to it, so
  -- such a member is declared by a superclass; the standard looks at the class that the reference names, and any other
  -- named class makes the receiver fit anyway (JVMS 4.10.1.8, passesProtectedCheck; 5.4.4)
  abbrev pub is_guarded : Result MemberAt LinkKind → Bool
  is_guarded (Ok m) = is_protected_member env.classes m && not (is_static_member env.classes m)
      && not (same_package env.classes (Prog env.own) m.class)
  is_guarded (Err kind) = false

  -- the same of the field of a reference (JVMS 4.10.1.8)
  abbrev pub is_guarded_field : MemberRef → Bool
  is_guarded_field r = is_guarded (resolved_field env.classes (Prog env.own) r)

  -- the same of the method of a reference (JVMS 4.10.1.8)
  abbrev pub is_guarded_method : MemberRef → Bool
  is_guarded_method r = is_guarded (resolved_method env.classes (Prog env.own) r)

  -- a field that a constructor may set before it called another one: named in the own class and declared there
  -- (JVMS 4.10.1.9.putfield; that the own class declares it is said in the standard's text, JVMS 4.9.2)
  abbrev pub is_early_field : MemberRef → Bool
  is_early_field r = in_constructor env && is_class_type env.class.name r.class
      && is_some (declared_at env.classes (Prog env.own) r.name r.ty)

  -- what a constructor may call on `this`: a constructor of the own class or of its direct superclass
  -- (JVMS 4.10.1.9.invokespecial, rewrittenUninitializedType)
  abbrev pub is_own_or_super : FieldType → Bool
  is_own_or_super ty = is_class_type env.class.name ty || is_class_type env.class.super_name ty
