-- Answers of `computed_optimised`: what its calls ask for, and what it promises.
use Rattle.optimised_rows.proofs.Computed as computed
use Rattle.optimised_rows.proofs.rows.computed_optimised.Goals as goal

pub returns : goal.returns
returns c = record { optimised = computed.optimised_is; prints = computed.prints_are }
