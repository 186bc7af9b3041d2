-- What a run may begin with: a heap of strings and of arrays of numbers, strings and such arrays, and arguments of the
-- parameters' types (the project's own: what an entry is given). There is no float and no double.
use Rattle.std.specs.Prelude.{◌≡◌, ℕ, ◌^◌, ℤ, Bool, true, false, ◌&&◌, ◌==◌, List, ◌∷◌, length}
use Rattle.std.specs.Prelude.{IfSome, nat_lt, slice_get}
use Rattle.std.specs.Int.{w32, w64, int_wrap}
use Rattle.std.specs.List.{AllZip, list_all}
use Rattle.std.specs.Option.{option_map_or}
use Rattle.std.specs.Ordering.{int_eq}
use Rattle.std.specs.Result.{result_ok}
use Rattle.jv_base.specs.Descriptors.{read_method}
use Rattle.jv_base.specs.Names.{is_text}
use Rattle.jv_base.specs.declared.types.Base.{Base}
use Rattle.jv_base.specs.declared.types.Base.TheVariants as base
use Rattle.jv_base.specs.declared.types.FieldType.{FieldType}
use Rattle.jvm_model.specs.Heap.{Array, Builder, Instance, Object, Str, string, type_of}
use Rattle.jvm_model.specs.Step.{stream}
use Rattle.jvm_model.specs.Types.{class_type, is_type_below, kind_of, narrowed}
use Rattle.jvm_model.specs.Value.{Key, Value, Int, Long, Null, Ref, Lit, is_of}

-- a primitive type other than float and double, or String
abbrev pub is_plain_base : Base → Bool
is_plain_base (base.Class name) = is_text name string
is_plain_base base.Float = false
is_plain_base base.Double = false
is_plain_base _ = true

-- such a type, or one of arrays of these in any dimension
abbrev pub is_plain : FieldType → Bool
is_plain ty = is_plain_base ty.base

-- a string, or an array of a plain type
abbrev pub is_plain_object : Object → Bool
is_plain_object (Instance class fields message cause) = false
is_plain_object (Array component values) = is_plain component
is_plain_object (Str units) = true
is_plain_object (Builder units) = false

-- a heap of these
abbrev pub ArePlain : List Object → Type 0
ArePlain heap = list_all is_plain_object heap ≡ true

-- the number is one of the type (JVMS 2.3.1, 2.3.4)
abbrev pub is_number_of : Base → ℤ → Bool
is_number_of base.Int z = int_eq (int_wrap w32 z) z
is_number_of base.Long z = int_eq (int_wrap w64 z) z
is_number_of b z = int_eq (narrowed b z) z

-- types of strings and of arrays that are the same
abbrev pub is_same_type : FieldType → FieldType → Bool
is_same_type a b = a.dims == b.dims && is_type_below is_text (record { dims = 0; base = a.base })
    (record { dims = 0; base = b.base })

-- the units of a string: each has 16 bits, and their number is an int (JVMS 2.3.1; Java SE 8 API, String)
abbrev pub are_units : List ℕ → Bool
are_units units = list_all (λ u. nat_lt u (2 ^ 16)) units && nat_lt (length units) (2 ^ 31)

-- a value of a plain type, the objects of a heap being those of its references
abbrev pub is_value_of : List Object → FieldType → Value → Bool
is_value_of heap ty (Int z) = is_of (kind_of ty) (Int z) && is_number_of ty.base z
is_value_of heap ty (Long z) = is_of (kind_of ty) (Long z) && is_number_of ty.base z
is_value_of heap ty Null = is_of (kind_of ty) Null
is_value_of heap ty (Ref n) = option_map_or (λ o. is_same_type (type_of o) ty) (slice_get heap n) false
is_value_of heap ty (Lit units) = is_same_type (class_type string) ty && are_units units

-- a string, or an array of a plain type whose components are of it, and whose length is an int
abbrev pub is_typed : List Object → Object → Bool
is_typed heap (Instance class fields message cause) = false
is_typed heap (Array component values) =
    is_plain component && list_all (is_value_of heap component) values && nat_lt (length values) (2 ^ 31)
is_typed heap (Str units) = are_units units
is_typed heap (Builder units) = false

-- all objects after the stream are so, and their references are to objects that are there
abbrev pub IsTypedHeap : List Object → Type 0
IsTypedHeap heap = list_all (is_typed (stream ∷ heap)) heap ≡ true

-- the parameters are of plain types (JVMS 4.3.3)
abbrev pub are_plain_parameters : List ℕ → Bool
are_plain_parameters descriptor =
    option_map_or (λ ty. list_all is_plain ty.args) (result_ok (read_method descriptor)) false

-- the arguments are values of the parameters' types (JVMS 4.3.3)
abbrev pub AreArguments : List Object → Key → List Value → Type 0
AreArguments heap entry args = IfSome (result_ok (read_method entry.descriptor))
    (λ ty. AllZip (λ t v. (is_plain t ≡ true) × (is_value_of (stream ∷ heap) t v ≡ true)) ty.args args)
