-- The files of the outputs are read as their classes, computed.
use Rattle.std.proofs.Common.{◌≡◌, ℕ, zero, suc, Bool, true, nat_lt, List, [], ◌∷◌, Ok, Err, refl, arith}
use Rattle.std.specs.Prelude.{codes}
use Rattle.std.specs.Char.Utf16.{utf16_chars}
use Rattle.std.specs.List.{list_all}
use Rattle.std.proofs.lemmas.Bool.{ltb-true, and_parts}
use Rattle.jv_base.specs.Decoding.{byte_taken, read_mutf8}
use Rattle.jv_base.specs.Descriptors.{grown, read_field, read_method}
use Rattle.jv_base.specs.Names.{is_class_name, is_member_name, is_method_name, is_name_byte, is_primitive_or_void}
use Rattle.jv_base.specs.Names.{part_after}
use Rattle.jv_base.specs.Types.{argument_words, base_text, field_text, method_text, result_text, words_of}
use Rattle.jv_base.specs.Walk.{walk}
use Rattle.format_reading.specs.Fault.{fault}
use Rattle.format_reading.specs.Reader.{bind, bytes, give, here, lead, many, of_result, part, settle, u1, u2, u4}
use Rattle.format_reading.specs.declared.fault.FormatKind.TheVariants.{Cut}
use Rattle.class_model.specs.ClassFile.{File}
use Rattle.class_model.specs.InstructionMeaning.{op_of}
use Rattle.class_model.specs.Lookups.{class_at, fieldref_at, interface_methodref_at, methodref_at, names_right}
use Rattle.class_model.specs.Lookups.{optional_class_at, text_of, type_at}
use Rattle.class_model.specs.MemberTypes.{field_type_at, method_type_at}
use Rattle.class_model.specs.ReadingAttributes.{attributes, exceptions, line_number_table}
use Rattle.class_model.specs.ReadingClass.{class_read, read_all_fields, read_all_methods, read_class_file, read_head}
use Rattle.class_model.specs.ReadingClass.{read_interfaces}
use Rattle.class_model.specs.ReadingCode.{match_offsets, ops_from, read_instruction, until_end}
use Rattle.class_model.specs.ReadingCodeAttribute.{read_code, read_handlers}
use Rattle.class_model.specs.ReadingFrames.{read_frame, read_frames, read_frames_behind, read_row, read_type}
use Rattle.class_model.specs.ReadingMembers.{read_field_info, read_fields, read_method_info, read_methods}
use Rattle.class_model.specs.ReadingPool.{all_name_right, read_entry, read_pool, slot, slots}
use Rattle.class_laws.proofs.ClassLaw.{class_read-found}
use Rattle.class_laws.specs.ReadingLaws.{AreBytes}
use Rattle.pair_rows.specs.Examples.{b_hidden, b_longer, b_moved, cut_file, file_of_a, file_of_a_moved, file_of_b}
use Rattle.pair_rows.specs.Examples.{file_of_b_hidden, file_of_b_longer, file_of_b_moved, file_of_old_a, file_of_old_b}
use Rattle.pair_rows.specs.Examples.{file_of_lined, file_of_orphan, lined, new_a, new_b, old_a, old_b, orphan}

-- ---- bytes

-- each number is one of a byte
abbrev fit : List ℕ → Bool
fit bs = list_all (λ b. nat_lt b 256) bs

are_bytes : (bs : List ℕ) → fit bs ≡ true → AreBytes bs
are_bytes [] e i = omega arith
are_bytes (b ∷ bs) e zero = ltb-true b 256 (and_parts (nat_lt b 256) (fit bs) e).0
are_bytes (b ∷ bs) e (suc i) = are_bytes bs (and_parts (nat_lt b 256) (fit bs) e).1 i

-- ---- files

-- what the reader gives for each file
record AreRead : Type 0 where
  old_a : class_read file_of_old_a.bytes ≡ Ok old_a
  old_b : class_read file_of_old_b.bytes ≡ Ok old_b
  a : class_read file_of_a.bytes ≡ Ok (new_a (codes "p/a"))
  a_moved : class_read file_of_a_moved.bytes ≡ Ok (new_a (codes "q/a"))
  b : class_read file_of_b.bytes ≡ Ok new_b
  b_moved : class_read file_of_b_moved.bytes ≡ Ok b_moved
  b_hidden : class_read file_of_b_hidden.bytes ≡ Ok b_hidden
  b_longer : class_read file_of_b_longer.bytes ≡ Ok b_longer
  orphan : class_read file_of_orphan.bytes ≡ Ok orphan
  lined : class_read file_of_lined.bytes ≡ Ok lined
  cut : class_read cut_file.bytes ≡ Err (fault 2 Cut)

are_read : AreRead
unfolding lib.Utf8.encode part_after is_primitive_or_void is_name_byte is_member_name is_method_name is_class_name walk
    base_text field_text result_text method_text words_of argument_words byte_taken read_mutf8 grown read_field
    read_method utf16_chars u1 u2 u4 bytes lead bind give here of_result settle part many text_of names_right class_at
    optional_class_at type_at fieldref_at methodref_at interface_methodref_at read_pool slots slot read_entry
    all_name_right op_of match_offsets read_instruction until_end ops_from read_type read_row read_frame
    read_frames_behind read_frames attributes exceptions line_number_table read_handlers read_code field_type_at
    method_type_at read_field_info read_fields read_method_info read_methods read_head read_all_fields read_all_methods
    read_interfaces read_class_file class_read
are_read = record {
  old_a = refl;
  old_b = refl;
  a = refl;
  a_moved = refl;
  b = refl;
  b_moved = refl;
  b_hidden = refl;
  b_longer = refl;
  orphan = refl;
  lined = refl;
  cut = refl;
}

pub old_a_spelled : File file_of_old_a.bytes old_a
old_a_spelled = class_read-found file_of_old_a.bytes old_a (are_bytes file_of_old_a.bytes refl) are_read.old_a

pub old_b_spelled : File file_of_old_b.bytes old_b
old_b_spelled = class_read-found file_of_old_b.bytes old_b (are_bytes file_of_old_b.bytes refl) are_read.old_b

pub a_spelled : File file_of_a.bytes (new_a (codes "p/a"))
a_spelled = class_read-found file_of_a.bytes (new_a (codes "p/a")) (are_bytes file_of_a.bytes refl) are_read.a

pub a_moved_spelled : File file_of_a_moved.bytes (new_a (codes "q/a"))
a_moved_spelled =
    class_read-found file_of_a_moved.bytes (new_a (codes "q/a")) (are_bytes file_of_a_moved.bytes refl) are_read.a_moved

pub b_spelled : File file_of_b.bytes new_b
b_spelled = class_read-found file_of_b.bytes new_b (are_bytes file_of_b.bytes refl) are_read.b

pub b_moved_spelled : File file_of_b_moved.bytes b_moved
b_moved_spelled = class_read-found file_of_b_moved.bytes b_moved (are_bytes file_of_b_moved.bytes refl) are_read.b_moved

pub b_hidden_spelled : File file_of_b_hidden.bytes b_hidden
b_hidden_spelled =
    class_read-found file_of_b_hidden.bytes b_hidden (are_bytes file_of_b_hidden.bytes refl) are_read.b_hidden

pub b_longer_spelled : File file_of_b_longer.bytes b_longer
b_longer_spelled =
    class_read-found file_of_b_longer.bytes b_longer (are_bytes file_of_b_longer.bytes refl) are_read.b_longer

pub orphan_spelled : File file_of_orphan.bytes orphan
orphan_spelled = class_read-found file_of_orphan.bytes orphan (are_bytes file_of_orphan.bytes refl) are_read.orphan

pub lined_spelled : File file_of_lined.bytes lined
lined_spelled = class_read-found file_of_lined.bytes lined (are_bytes file_of_lined.bytes refl) are_read.lined

pub cut_unread : class_read cut_file.bytes ≡ Err (fault 2 Cut)
cut_unread = are_read.cut
