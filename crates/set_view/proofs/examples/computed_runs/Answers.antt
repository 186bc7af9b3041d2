-- Answers of `computed_runs`: what its calls ask for, and what it promises.
use Rattle.set_view.proofs.ComputedRuns as computed
use Rattle.set_view.proofs.examples.computed_runs.Goals as goal

pub returns-clause-hash_codes : goal.returns-clause-hash_codes
returns-clause-hash_codes c = computed.hash_codes

pub returns-clause-loops : goal.returns-clause-loops
returns-clause-loops c = computed.loops

pub returns-clause-calls : goal.returns-clause-calls
returns-clause-calls c = computed.calls

pub returns-clause-exceptions : goal.returns-clause-exceptions
returns-clause-exceptions c = computed.exceptions

pub returns-clause-failed_initialisation : goal.returns-clause-failed_initialisation
returns-clause-failed_initialisation c = computed.failed_initialisation

pub returns-clause-initialisation : goal.returns-clause-initialisation
returns-clause-initialisation c = computed.initialisation

pub returns-clause-selection : goal.returns-clause-selection
returns-clause-selection c = computed.selection

pub returns-clause-arrays : goal.returns-clause-arrays
returns-clause-arrays c = computed.arrays

pub returns-clause-startable : goal.returns-clause-startable
returns-clause-startable c = computed.startable
