-- Which attributes of a method are read, and what stands in them (JVMS 4.6; only the proof of read_class needs it).
use Rattle.std.specs.Prelude.{ℕ, Bool, true, List, codes, Option, Some, None, if◌then◌else◌}
use Rattle.jv_base.specs.Names.{is_text, is_method_name}
use Rattle.jv_base.specs.Types.{method_text}
use Rattle.format_reading.specs.declared.fault.FormatKind.TheVariants as bad
use Rattle.format_reading.specs.Reader.{FormatReader, u2, item, give, here, ◌>>=◌}
use Rattle.class_model.specs.declared.pool.Entry.{Entry}
use Rattle.class_model.specs.Flags.{is_static, has_body, are_method_flags}
use Rattle.class_model.specs.Frames.{initial_locals}
use Rattle.class_model.specs.Lookups.{good_text_at}
use Rattle.class_model.specs.MemberTypes.{method_type_at}
use Rattle.class_model.specs.ReadingAttributes.{once}
use Rattle.class_model.specs.ReadingCodeAttribute.{Body, is_there, read_code}
use Rattle.class_model.specs.ReadingMembers.{MethodSeen, Signature, read_flags, fresh, exceptions_seen, one_code}
use Rattle.class_model.specs.ReadingMembers.{known_of_method}
use Rattle.class_read.specs.declared.methods.MethodHead.{MethodHead}
use Rattle.class_read.specs.declared.methods.MethodAttribute.{MethodAttribute}
use Rattle.class_read.specs.declared.methods.MethodAttribute.TheVariants as known

-- the contents of the Code at an offset, of a method in a class of this name (JVMS 4.7.3)
abbrev pub code_of_method : List Entry → List ℕ → MethodHead → ℕ → FormatReader Body
code_of_method pool class head attribute = read_code pool
    (initial_locals class (is_static head.flags) head.name head.ty) attribute

-- the attributes that are read of a method in a class of this name
abbrev pub known_of : List Entry → List ℕ → MethodHead → ℕ → List ℕ → ℕ → MethodSeen → Option (FormatReader MethodSeen)
known_of pool class head = known_of_method pool (has_body head.flags) (code_of_method pool class head)

-- the attribute of a name, if it is read
abbrev pub method_attribute : List ℕ → Option MethodAttribute
method_attribute name =
    if is_text name (codes "Code") then Some known.Code
    else if is_text name (codes "Exceptions") then Some known.Exceptions
    else if is_text name (codes "Synthetic") then Some known.Synthetic
    else if is_text name (codes "Deprecated") then Some known.Deprecated
    else None

-- its contents, behind what was seen before
abbrev pub method_contents : List Entry → List ℕ → MethodHead → ℕ → MethodSeen → MethodAttribute
    → FormatReader MethodSeen
method_contents pool class head at seen known.Code = one_code at (has_body head.flags)
    (code_of_method pool class head at) seen
method_contents pool class head at seen known.Exceptions = once at (is_there seen.throws) (exceptions_seen pool seen)
method_contents pool class head at seen known.Synthetic = once at seen.synthetic
    (give (record seen { synthetic = true }))
method_contents pool class head at seen known.Deprecated = once at seen.deprecated
    (give (record seen { deprecated = true }))

-- what stands before the attributes of a method behind those of these signatures, with its own signature
unfoldable pub method_head : List Entry → Bool → List Signature → FormatReader (MethodHead × Signature)
method_head pool in_interface before = do
  at ← here
  flags ← read_flags are_method_flags
  name ← item u2 (good_text_at bad.BadName is_method_name pool)
  ty ← item u2 (method_type_at pool in_interface flags name)
  alone ← fresh at before (name, method_text ty)
  give (record { flags = flags; name = name; ty = ty }, (name, method_text ty))
