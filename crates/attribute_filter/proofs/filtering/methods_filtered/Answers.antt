-- Answers of `methods_filtered`: what its calls ask for, and what it promises.
use Rattle.std.proofs.Common.{rules}
use Rattle.std.proofs.lemmas.List.Edits.{map_over_more}
use Rattle.attribute_filter.specs.Filtered.{method_filtered}
use Rattle.attribute_filter.proofs.filtering.methods_filtered.Goals as goal

pub loop-method-preserved : goal.loop-method-preserved
loop-method-preserved c =
    rw c.filter_method.ensures (search (rules, map_over_more (method_filtered c.args.filter.now)))
