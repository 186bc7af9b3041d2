-- Answers of `renamed_sets_are_taken`: what its calls ask for, and what it promises.
use Rattle.pair_laws.proofs.RenamedTaken.Whole.{built_again, links_right, same_count, taken_again}
use Rattle.pair_laws.proofs.renamed_taken.renamed_sets_are_taken.Goals as goal

pub returns : goal.returns
returns c = record { taken = taken_again; built = built_again; count = same_count; links = links_right }
