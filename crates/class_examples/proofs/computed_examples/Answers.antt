-- Answers of `computed_examples`: what its calls ask for, and what it promises.
use Rattle.class_examples.proofs.Computed as computed
use Rattle.class_examples.proofs.computed_examples.Goals as goal

pub returns-clause-cut : goal.returns-clause-cut
returns-clause-cut c = computed.cut

pub returns-clause-bad_magic : goal.returns-clause-bad_magic
returns-clause-bad_magic c = computed.bad_magic

pub returns-clause-bad_version : goal.returns-clause-bad_version
returns-clause-bad_version c = computed.bad_version

pub returns-clause-bad_tag : goal.returns-clause-bad_tag
returns-clause-bad_tag c = computed.bad_tag

pub returns-clause-bad_utf8 : goal.returns-clause-bad_utf8
returns-clause-bad_utf8 c = computed.bad_utf8

pub returns-clause-bad_index : goal.returns-clause-bad_index
returns-clause-bad_index c = computed.bad_index

pub returns-clause-bad_name : goal.returns-clause-bad_name
returns-clause-bad_name c = computed.bad_name

pub returns-clause-bad_descriptor : goal.returns-clause-bad_descriptor
returns-clause-bad_descriptor c = computed.bad_descriptor

pub returns-clause-bad_flags : goal.returns-clause-bad_flags
returns-clause-bad_flags c = computed.bad_flags

pub returns-clause-bad_attribute : goal.returns-clause-bad_attribute
returns-clause-bad_attribute c = computed.bad_attribute

pub returns-clause-bad_code : goal.returns-clause-bad_code
returns-clause-bad_code c = computed.bad_code

pub returns-clause-bad_opcode : goal.returns-clause-bad_opcode
returns-clause-bad_opcode c = computed.bad_opcode

pub returns-clause-bad_operand : goal.returns-clause-bad_operand
returns-clause-bad_operand c = computed.bad_operand

pub returns-clause-bad_target : goal.returns-clause-bad_target
returns-clause-bad_target c = computed.bad_target

pub returns-clause-bad_handler : goal.returns-clause-bad_handler
returns-clause-bad_handler c = computed.bad_handler

pub returns-clause-bad_frame : goal.returns-clause-bad_frame
returns-clause-bad_frame c = computed.bad_frame

pub returns-clause-repeated : goal.returns-clause-repeated
returns-clause-repeated c = computed.repeated

pub returns-clause-trailing : goal.returns-clause-trailing
returns-clause-trailing c = computed.trailing

pub returns-clause-left_out_flag : goal.returns-clause-left_out_flag
returns-clause-left_out_flag c = computed.left_out_flag

pub returns-clause-left_out_constant : goal.returns-clause-left_out_constant
returns-clause-left_out_constant c = computed.left_out_constant

pub returns-clause-left_out_opcode : goal.returns-clause-left_out_opcode
returns-clause-left_out_opcode c = computed.left_out_opcode

pub returns-clause-left_out_float_type : goal.returns-clause-left_out_float_type
returns-clause-left_out_float_type c = computed.left_out_float_type

pub returns-clause-respelled : goal.returns-clause-respelled
returns-clause-respelled c = computed.respelled
