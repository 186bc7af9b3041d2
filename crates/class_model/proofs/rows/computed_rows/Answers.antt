-- Answers of `computed_rows`: what its calls ask for, and what it promises.
use Rattle.class_model.proofs.ComputedRows as computed
use Rattle.class_model.proofs.FormedClass as formed
use Rattle.class_model.proofs.SpelledClass as whole
use Rattle.class_model.proofs.SpelledRows as relation
use Rattle.class_model.proofs.rows.computed_rows.Goals as goal

pub returns-clause-spelled : goal.returns-clause-spelled
returns-clause-spelled c = relation.spelled

pub returns-clause-read : goal.returns-clause-read
returns-clause-read c = computed.read

pub returns-clause-written : goal.returns-clause-written
returns-clause-written c = computed.written

pub returns-clause-cut_anywhere : goal.returns-clause-cut_anywhere
returns-clause-cut_anywhere c = computed.cut_anywhere

pub returns-clause-trailed : goal.returns-clause-trailed
returns-clause-trailed c = computed.trailed

pub returns-clause-head_faults : goal.returns-clause-head_faults
returns-clause-head_faults c = computed.head_faults

pub returns-clause-code_faults : goal.returns-clause-code_faults
returns-clause-code_faults c = computed.code_faults

pub returns-clause-code_left_out : goal.returns-clause-code_left_out
returns-clause-code_left_out c = computed.code_left_out

pub returns-clause-member_faults : goal.returns-clause-member_faults
returns-clause-member_faults c = computed.member_faults

pub returns-clause-pool_faults : goal.returns-clause-pool_faults
returns-clause-pool_faults c = computed.pool_faults

pub returns-clause-class_left_out : goal.returns-clause-class_left_out
returns-clause-class_left_out c = computed.class_left_out

pub returns-clause-t_spelled : goal.returns-clause-t_spelled
returns-clause-t_spelled c = whole.spelled

pub returns-clause-t_read : goal.returns-clause-t_read
returns-clause-t_read c = computed.t_read

pub returns-clause-t_well_formed : goal.returns-clause-t_well_formed
returns-clause-t_well_formed c = formed.well_formed

pub returns-clause-code_limits : goal.returns-clause-code_limits
returns-clause-code_limits c = computed.code_limits

pub returns-clause-main_is_canonical : goal.returns-clause-main_is_canonical
returns-clause-main_is_canonical c = computed.main_is_canonical

pub returns-clause-compiled_are_respelled : goal.returns-clause-compiled_are_respelled
returns-clause-compiled_are_respelled c = computed.compiled_are_respelled
