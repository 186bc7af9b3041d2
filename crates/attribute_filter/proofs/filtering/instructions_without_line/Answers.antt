-- Answers of `instructions_without_line`: what its calls ask for, and what it promises.
use Rattle.std.proofs.Common.{rules}
use Rattle.std.proofs.lemmas.List.Edits.{map_over_more}
use Rattle.attribute_filter.specs.Filtered.{without_line}
use Rattle.attribute_filter.proofs.filtering.instructions_without_line.Goals as goal

pub loop-instruction-preserved : goal.loop-instruction-preserved
loop-instruction-preserved c = search (rules, map_over_more without_line)
