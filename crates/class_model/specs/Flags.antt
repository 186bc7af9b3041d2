-- Access flags (JVMS 4.1, 4.5, 4.6): which mean something, and which may stand together.
use Rattle.std.specs.Prelude.{ℕ, ◌+◌, Bool, not, ◌&&◌, ◌||◌, ◌==◌, nat_lt, bit_and, List, codes}
use Rattle.jv_base.specs.declared.access.Access.{Access}
use Rattle.jv_base.specs.Names.{is_text}

-- ---- the flags (tables 4.1-A, 4.5-A, 4.6-A); of three bits the name depends on the place

-- declared public (JVMS 4.1, 4.5, 4.6)
abbrev pub acc_public : ℕ
acc_public = 0x0001

-- declared private, of a field or a method (JVMS 4.5, 4.6)
abbrev pub acc_private : ℕ
acc_private = 0x0002

-- declared protected, of a field or a method (JVMS 4.5, 4.6)
abbrev pub acc_protected : ℕ
acc_protected = 0x0004

-- declared static, of a field or a method (JVMS 4.5, 4.6)
abbrev pub acc_static : ℕ
acc_static = 0x0008

-- declared final (JVMS 4.1, 4.5, 4.6)
abbrev pub acc_final : ℕ
acc_final = 0x0010

-- of a method (JVMS 4.6)
abbrev pub acc_synchronized : ℕ
acc_synchronized = 0x0020

-- of a class (JVMS 4.1)
abbrev pub acc_super : ℕ
acc_super = 0x0020

-- of a field (JVMS 4.5)
abbrev pub acc_volatile : ℕ
acc_volatile = 0x0040

-- of a method (JVMS 4.6)
abbrev pub acc_bridge : ℕ
acc_bridge = 0x0040

-- of a field (JVMS 4.5)
abbrev pub acc_transient : ℕ
acc_transient = 0x0080

-- of a method (JVMS 4.6)
abbrev pub acc_varargs : ℕ
acc_varargs = 0x0080

-- declared native, of a method (JVMS 4.6)
abbrev pub acc_native : ℕ
acc_native = 0x0100

-- an interface, not a class (JVMS 4.1)
abbrev pub acc_interface : ℕ
acc_interface = 0x0200

-- declared abstract, of a class or a method (JVMS 4.1, 4.6)
abbrev pub acc_abstract : ℕ
acc_abstract = 0x0400

-- declared strictfp, of a method (JVMS 4.6)
abbrev pub acc_strict : ℕ
acc_strict = 0x0800

-- not in the source (JVMS 4.1, 4.5, 4.6)
abbrev pub acc_synthetic : ℕ
acc_synthetic = 0x1000

-- an annotation type (JVMS 4.1)
abbrev pub acc_annotation : ℕ
acc_annotation = 0x2000

-- an enum type, or an element of one (JVMS 4.1, 4.5)
abbrev pub acc_enum : ℕ
acc_enum = 0x4000

-- ---- sets of them

-- all of these flags are set (JVMS 4.1, 4.5, 4.6)
abbrev pub has : ℕ → ℕ → Bool
has wanted flags = bit_and flags wanted == wanted

-- some of these flags is set (JVMS 4.1, 4.5, 4.6)
abbrev pub has_some : ℕ → ℕ → Bool
has_some wanted flags = not (bit_and flags wanted == 0)

-- those that mean something on a class (JVMS 4.1, table 4.1-A)
abbrev pub class_mask : ℕ
class_mask = acc_public + acc_final + acc_super + acc_interface + acc_abstract + acc_synthetic + acc_annotation +
    acc_enum

-- those that mean something on a field (JVMS 4.5, table 4.5-A)
abbrev pub field_mask : ℕ
field_mask = acc_public + acc_private + acc_protected + acc_static + acc_final + acc_volatile + acc_transient +
    acc_synthetic + acc_enum

-- those that mean something on a method (JVMS 4.6, table 4.6-A)
abbrev pub method_mask : ℕ
method_mask = acc_public + acc_private + acc_protected + acc_static + acc_final + acc_synchronized + acc_bridge +
    acc_varargs
    + acc_native + acc_abstract + acc_strict + acc_synthetic

-- the flags that mean something in their place; the others are dropped (JVMS 4.1, 4.5, 4.6)
abbrev pub defined_flags : ℕ → ℕ → ℕ
defined_flags mask flags = bit_and flags mask

-- which of public, private and protected are set (JVMS 4.5, 4.6)
abbrev pub access_of : ℕ → ℕ
access_of flags = bit_and flags (acc_public + acc_private + acc_protected)

-- of public, private and protected at most one (JVMS 4.5, 4.6)
abbrev pub has_one_access : ℕ → Bool
has_one_access flags = nat_lt (access_of flags) 3 || access_of flags == acc_protected

-- an interface (JVMS 4.1)
abbrev pub is_interface : ℕ → Bool
is_interface flags = has acc_interface flags

-- static, of a field or a method (JVMS 4.5, 4.6)
abbrev pub is_static : ℕ → Bool
is_static flags = has acc_static flags

-- a native method (JVMS 4.6)
abbrev pub is_native : ℕ → Bool
is_native flags = has acc_native flags

-- a method has a code where it is neither abstract nor native (JVMS 4.7.3)
abbrev pub has_body : ℕ → Bool
has_body flags = not (has_some (acc_abstract + acc_native) flags)

-- a class isn't both final and abstract, and an interface is abstract (JVMS 4.1)
abbrev pub are_class_flags : ℕ → Bool
are_class_flags flags = not (has (acc_final + acc_abstract) flags)
    && (not (has acc_interface flags) || has acc_abstract flags)

-- a class that is an annotation or an enum is left out (the project's own: annotations and enums aren't taken yet)
abbrev pub is_left_out_class : ℕ → Bool
is_left_out_class flags = has_some (acc_annotation + acc_enum) flags

-- a field isn't both final and volatile, and one of an interface is public, static and final (JVMS 4.5)
abbrev pub are_field_flags : Bool → ℕ → Bool
are_field_flags in_interface flags = has_one_access flags && not (has (acc_final + acc_volatile) flags)
    && (not in_interface || has (acc_public + acc_static + acc_final) flags)

-- an abstract method is neither private, static, final, synchronized, native nor strict (JVMS 4.6)
abbrev pub are_method_flags : ℕ → Bool
are_method_flags flags = has_one_access flags && (not (has acc_abstract flags)
    || not (has_some (acc_private + acc_static + acc_final + acc_synchronized + acc_native + acc_strict) flags))

-- the name of an instance initialisation method (JVMS 2.9)
abbrev pub is_init : List ℕ → Bool
is_init name = is_text name (codes "<init>")

-- the name of a class initialisation method (JVMS 2.9)
abbrev pub is_clinit : List ℕ → Bool
is_clinit name = is_text name (codes "<clinit>")

-- an instance initialisation method stands in no interface and is neither static, final, synchronized, native nor
-- abstract, and a class initialisation method is static (JVMS 2.9, 4.6)
abbrev pub are_initial_flags : Bool → ℕ → List ℕ → Bool
are_initial_flags in_interface flags name =
    (not (is_init name) || (not in_interface && not (has_some
    (acc_static + acc_final + acc_synchronized + acc_native + acc_abstract) flags)))
    && (not (is_clinit name) || is_static flags)

-- access_flags of these bits (JVMS 4.1, 4.5, 4.6)
abbrev pub flags_of : ℕ → Access
flags_of bits = record { 0 = bits }
