-- Answers of `computed_ends`: what its calls ask for, and what it promises.
use Rattle.class_run.proofs.ComputedEnds as computed
use Rattle.class_run.proofs.examples.computed_ends.Goals as goal

pub returns-clause-returned : goal.returns-clause-returned
returns-clause-returned c = computed.returned

pub returns-clause-thrown : goal.returns-clause-thrown
returns-clause-thrown c = computed.thrown

pub returns-clause-started : goal.returns-clause-started
returns-clause-started c = computed.started
