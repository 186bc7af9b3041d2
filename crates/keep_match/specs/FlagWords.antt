-- The flags that words name (JVMS 4.1, 4.5, 4.6; ProGuard manual, "Class Specifications").
use Rattle.std.specs.Prelude.{ℕ, Bool, false, List, codes, Option, Some, None, if◌then◌else◌}
use Rattle.std.specs.Option.{option_map_or}
use Rattle.jv_base.specs.Names.{is_text}
use Rattle.class_model.specs.Flags.{acc_public, acc_private, acc_protected, acc_static, acc_final, acc_synchronized}
use Rattle.class_model.specs.Flags.{acc_volatile, acc_bridge, acc_transient, acc_varargs, acc_native, acc_abstract}
use Rattle.class_model.specs.Flags.{acc_strict, acc_synthetic, has}
use Rattle.keep_match.specs.declared.flag_word.FlagsOf.{FlagsOf}
use Rattle.keep_match.specs.declared.flag_word.FlagsOf.TheVariants as flags_of

-- the flag of a word that means the same on classes, fields and methods (JVMS 4.1, 4.5, 4.6)
unfoldable pub shared_flag : List ℕ → Option ℕ
shared_flag word =
    if is_text word (codes "public") then Some acc_public
    else if is_text word (codes "final") then Some acc_final
    else if is_text word (codes "synthetic") then Some acc_synthetic
    else None

-- the flag of a class that a word names (JVMS 4.1)
unfoldable pub class_flag : List ℕ → Option ℕ
class_flag word = if is_text word (codes "abstract") then Some acc_abstract else shared_flag word

-- the flag of a member that a word names, whether it is a field or a method (JVMS 4.5, 4.6)
unfoldable pub member_flag : List ℕ → Option ℕ
member_flag word =
    if is_text word (codes "private") then Some acc_private
    else if is_text word (codes "protected") then Some acc_protected
    else if is_text word (codes "static") then Some acc_static
    else shared_flag word

-- the flag of a field that a word names (JVMS 4.5)
unfoldable pub field_flag : List ℕ → Option ℕ
field_flag word =
    if is_text word (codes "volatile") then Some acc_volatile
    else if is_text word (codes "transient") then Some acc_transient
    else member_flag word

-- the flag of a method that a word names (JVMS 4.6)
unfoldable pub method_flag : List ℕ → Option ℕ
method_flag word =
    if is_text word (codes "synchronized") then Some acc_synchronized
    else if is_text word (codes "bridge") then Some acc_bridge
    else if is_text word (codes "varargs") then Some acc_varargs
    else if is_text word (codes "native") then Some acc_native
    else if is_text word (codes "abstract") then Some acc_abstract
    else if is_text word (codes "strictfp") then Some acc_strict
    else member_flag word

-- the flag that a word names of what has the flags (JVMS 4.1, 4.5, 4.6)
abbrev pub flag_of : FlagsOf → List ℕ → Option ℕ
flag_of flags_of.Class word = class_flag word
flag_of flags_of.Field word = field_flag word
flag_of flags_of.Method word = method_flag word

-- a word names a flag that is set (JVMS 4.1, 4.5, 4.6)
abbrev pub is_word_set : FlagsOf → ℕ → List ℕ → Bool
is_word_set of flags word = option_map_or (λ flag. has flag flags) (flag_of of word) false
