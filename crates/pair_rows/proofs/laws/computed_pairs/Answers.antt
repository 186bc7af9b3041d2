-- Answers of `computed_pairs`: what its calls ask for, and what it promises.
use Rattle.pair_rows.proofs.Answered as answered
use Rattle.pair_rows.proofs.Lines as lines
use Rattle.pair_rows.proofs.Required as required
use Rattle.pair_rows.proofs.Sets as sets
use Rattle.pair_rows.proofs.laws.computed_pairs.Goals as goal

pub returns-clause-required : goal.returns-clause-required
returns-clause-required c = required.system

pub returns-clause-input : goal.returns-clause-input
returns-clause-input c = sets.input_accepted

pub returns-clause-taken : goal.returns-clause-taken
returns-clause-taken c = answered.taken

pub returns-clause-none : goal.returns-clause-none
returns-clause-none c = answered.none

pub returns-clause-output_format : goal.returns-clause-output_format
returns-clause-output_format c = answered.output_format

pub returns-clause-output_profile : goal.returns-clause-output_profile
returns-clause-output_profile c = answered.output_profile

pub returns-clause-map_shape : goal.returns-clause-map_shape
returns-clause-map_shape c = answered.map_shape

pub returns-clause-fixed_name : goal.returns-clause-fixed_name
returns-clause-fixed_name c = answered.fixed_name

pub returns-clause-other_package : goal.returns-clause-other_package
returns-clause-other_package c = answered.other_package

pub returns-clause-seed_lost : goal.returns-clause-seed_lost
returns-clause-seed_lost c = answered.seed_lost

pub returns-clause-not_closed : goal.returns-clause-not_closed
returns-clause-not_closed c = answered.not_closed

pub returns-clause-member_differs : goal.returns-clause-member_differs
returns-clause-member_differs c = answered.member_differs

pub returns-clause-witness_stray : goal.returns-clause-witness_stray
returns-clause-witness_stray c = answered.witness_stray

pub returns-clause-edit_illegal : goal.returns-clause-edit_illegal
returns-clause-edit_illegal c = answered.edit_illegal

pub returns-clause-code_differs : goal.returns-clause-code_differs
returns-clause-code_differs c = answered.code_differs

pub returns-clause-line_range : goal.returns-clause-line_range
returns-clause-line_range c = lines.line_range
