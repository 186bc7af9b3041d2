-- The texts of a constant pool (JVMS 4.4.7; only the proof of read_class needs it).
use Rattle.std.specs.Prelude.{ℕ, Bool, List, Option, option_and_then}
use Rattle.jv_base.specs.Names.{is_member_name, is_method_name}
use Rattle.class_model.specs.declared.pool.Entry.{Entry}
use Rattle.class_model.specs.Pool.{units_in}
use Rattle.class_model.specs.Lookups.{text_of, is_descriptor, is_field_text, is_method_text}
use Rattle.known_pool.specs.declared.texts.TextRule.{TextRule}
use Rattle.known_pool.specs.declared.texts.TextRule.TheVariants as rule

-- the text that an entry is, if it is a CONSTANT_Utf8 in which no surrogate is unpaired
abbrev pub text_in : Entry → Option (List ℕ)
text_in e = option_and_then text_of (units_in e)

-- which texts obey a rule (JVMS 4.2.2, 4.3)
abbrev pub obeys : TextRule → List ℕ → Bool
obeys rule.MemberName = is_member_name
obeys rule.MethodName = is_method_name
obeys rule.FieldDescriptor = is_field_text
obeys rule.MethodDescriptor = is_method_text
obeys rule.Descriptor = is_descriptor
