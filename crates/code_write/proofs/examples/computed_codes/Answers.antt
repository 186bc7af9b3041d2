-- Answers of `computed_codes`: what its calls ask for, and what it promises.
use Rattle.code_write.proofs.ComputedCodes as computed
use Rattle.code_write.proofs.examples.computed_codes.Goals as goal

pub returns-clause-on_members : goal.returns-clause-on_members
returns-clause-on_members c = computed.on_members

pub returns-clause-on_types : goal.returns-clause-on_types
returns-clause-on_types c = computed.on_types

pub returns-clause-new_arrays : goal.returns-clause-new_arrays
returns-clause-new_arrays c = computed.new_arrays
