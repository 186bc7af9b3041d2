-- Which verification types fit where others are wanted, and which frames do (JVMS 4.10.1.2, 4.10.1.4).
use Rattle.std.specs.Prelude.{ℕ, Bool, true, false, not, ◌&&◌, ◌||◌, ◌==◌, nat_lt, List, Option, Some, None, codes}
use Rattle.std.specs.Prelude.{if◌then◌else◌}
use Rattle.std.specs.Cmp.Lexicographic.{pointwise}
use Rattle.jv_base.specs.Names.{is_text}
use Rattle.jv_base.specs.declared.types.Base.{Base}
use Rattle.jv_base.specs.declared.types.Base.TheVariants as base
use Rattle.jv_base.specs.declared.types.FieldType.{FieldType}
use Rattle.class_model.specs.Frames.{words_of_type}
use Rattle.class_model.specs.declared.class.Class.{Class}
use Rattle.class_model.specs.declared.frame.VType.{VType}
use Rattle.class_model.specs.declared.frame.VType.TheVariants as vtype
use Rattle.class_pool.specs.Hierarchy.{class_named}
use Rattle.class_pool.specs.Resolution.{is_class_below, is_interface_in}
use Rattle.class_pool.specs.declared.id.ClassId.{ClassId}
use Rattle.type_verifier.specs.declared.frame.TypeFrame.{TypeFrame}

-- ---- types of Java

-- a class of this name (JVMS 4.10.1.1)
abbrev pub class_type : List ℕ → FieldType
class_type name = record { dims = 0; base = base.Class name }

-- what stands above each array type (JVMS 4.10.1.2, isJavaAssignable, isArrayInterface)
abbrev pub is_above_arrays : Base → Bool
is_above_arrays (base.Class name) = is_text name (codes "java/lang/Object")
    || is_text name (codes "java/lang/Cloneable") || is_text name (codes "java/io/Serializable")
is_above_arrays _ = false

module _ (classes : List Class) where
  -- a class that is there is an interface, or the class itself or one of its superclasses
  -- (JVMS 4.10.1.2, isJavaAssignable, isJavaSubclassOf)
  abbrev pub reaches : Option ClassId → Option ClassId → Bool
  reaches from None = false
  reaches None (Some to) = is_interface_in classes to
  reaches (Some from) (Some to) = is_interface_in classes to || is_class_below classes from to

  -- a class is assignable to itself, to each interface, and to its superclasses
  -- (JVMS 4.10.1.2, isJavaAssignable, isJavaSubclassOf)
  abbrev pub is_class_assignable : List ℕ → List ℕ → Bool
  is_class_assignable from to = is_text from to || reaches (class_named classes from) (class_named classes to)

  -- two types without dimensions, or the elements of two arrays of the same dimensions: numbers are the same, classes
  -- assignable (JVMS 4.10.1.2, isJavaAssignable)
  abbrev pub is_base_assignable : Base → Base → Bool
  is_base_assignable (base.Class from) (base.Class to) = is_class_assignable from to
  is_base_assignable base.Boolean base.Boolean = true
  is_base_assignable base.Byte base.Byte = true
  is_base_assignable base.Char base.Char = true
  is_base_assignable base.Short base.Short = true
  is_base_assignable base.Int base.Int = true
  is_base_assignable base.Long base.Long = true
  is_base_assignable base.Float base.Float = true
  is_base_assignable base.Double base.Double = true
  is_base_assignable _ _ = false

  -- a class, or an array by its elements; where one array has more dimensions, its elements are themselves arrays
  -- (JVMS 4.10.1.2, isJavaAssignable)
  unfoldable pub is_java_assignable : FieldType → FieldType → Bool
  is_java_assignable from to =
      if from.dims == to.dims then is_base_assignable from.base to.base
      else nat_lt to.dims from.dims && is_above_arrays to.base

  -- ---- verification types

  -- a verification type is assignable to another one (JVMS 4.10.1.2, isAssignable)
  unfoldable pub is_assignable : VType → VType → Bool
  is_assignable from vtype.Top = true
  is_assignable vtype.Int vtype.Int = true
  is_assignable vtype.Long vtype.Long = true
  is_assignable vtype.Null vtype.Null = true
  is_assignable vtype.Null (vtype.Object to) = true
  is_assignable vtype.UninitThis vtype.UninitThis = true
  is_assignable (vtype.Object from) (vtype.Object to) = is_java_assignable from to
  is_assignable (vtype.Uninit from) (vtype.Uninit to) = from == to
  is_assignable _ _ = false

  -- the same on the stack, where words stay words: a long fits no single Top, and two Tops aren't one item
  -- (JVMS 4.10.1.2; that items are compared and not words is the project's own)
  abbrev pub is_item_assignable : VType → VType → Bool
  is_item_assignable from to = words_of_type from == words_of_type to && is_assignable from to

  -- ---- frames

  -- each local to that in its place, a stack of as many items likewise; a frame with the flag only to one with it
  -- (JVMS 4.10.1.4, frameIsAssignable)
  abbrev pub is_frame_assignable : TypeFrame → TypeFrame → Bool
  is_frame_assignable from to = pointwise is_assignable from.locals to.locals
      && pointwise is_item_assignable from.stack to.stack
      && (not from.marked || to.marked)

-- a reference, initialised or not (JVMS 4.10.1.2, reference)
abbrev pub is_reference : VType → Bool
is_reference vtype.Null = true
is_reference vtype.UninitThis = true
is_reference (vtype.Object ty) = true
is_reference (vtype.Uninit at) = true
is_reference _ = false
