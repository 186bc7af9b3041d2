-- Answers of `computed_rows`: what its calls ask for, and what it promises.
use Rattle.run_rows.proofs.Arithmetic as arithmetic
use Rattle.run_rows.proofs.Branches as branches
use Rattle.run_rows.proofs.Switches as switches
use Rattle.run_rows.proofs.Stack as stack
use Rattle.run_rows.proofs.Arrays as arrays
use Rattle.run_rows.proofs.NestedArrays as nested_arrays
use Rattle.run_rows.proofs.NullReceivers as null_receivers
use Rattle.run_rows.proofs.ArrayReceivers as array_receivers
use Rattle.run_rows.proofs.Handlers as handlers
use Rattle.run_rows.proofs.Uncaught as uncaught
use Rattle.run_rows.proofs.Initialisation as initialisation
use Rattle.run_rows.proofs.FailedInitialisation as failed_initialisation
use Rattle.run_rows.proofs.Calls as calls
use Rattle.run_rows.proofs.Strings as strings
use Rattle.run_rows.proofs.Builders as builders
use Rattle.run_rows.proofs.Printing as printing
use Rattle.run_rows.proofs.rows.computed_rows.Goals as goal

pub returns-clause-arithmetic : goal.returns-clause-arithmetic
returns-clause-arithmetic c = arithmetic.computed

pub returns-clause-branches : goal.returns-clause-branches
returns-clause-branches c = branches.computed

pub returns-clause-switches : goal.returns-clause-switches
returns-clause-switches c = switches.computed

pub returns-clause-stack : goal.returns-clause-stack
returns-clause-stack c = stack.computed

pub returns-clause-arrays : goal.returns-clause-arrays
returns-clause-arrays c = arrays.computed

pub returns-clause-nested_arrays : goal.returns-clause-nested_arrays
returns-clause-nested_arrays c = nested_arrays.computed

pub returns-clause-null_receivers : goal.returns-clause-null_receivers
returns-clause-null_receivers c = null_receivers.computed

pub returns-clause-array_receivers : goal.returns-clause-array_receivers
returns-clause-array_receivers c = array_receivers.computed

pub returns-clause-handlers : goal.returns-clause-handlers
returns-clause-handlers c = handlers.computed

pub returns-clause-uncaught : goal.returns-clause-uncaught
returns-clause-uncaught c = uncaught.computed

pub returns-clause-initialisation : goal.returns-clause-initialisation
returns-clause-initialisation c = initialisation.computed

pub returns-clause-failed_initialisation : goal.returns-clause-failed_initialisation
returns-clause-failed_initialisation c = failed_initialisation.computed

pub returns-clause-calls : goal.returns-clause-calls
returns-clause-calls c = calls.computed

pub returns-clause-strings : goal.returns-clause-strings
returns-clause-strings c = strings.computed

pub returns-clause-builders : goal.returns-clause-builders
returns-clause-builders c = builders.computed

pub returns-clause-printing : goal.returns-clause-printing
returns-clause-printing c = printing.computed
