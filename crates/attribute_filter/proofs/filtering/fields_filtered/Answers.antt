-- Answers of `fields_filtered`: what its calls ask for, and what it promises.
use Rattle.std.proofs.Common.{rules}
use Rattle.std.proofs.lemmas.List.Edits.{map_over_more}
use Rattle.attribute_filter.specs.Filtered.{field_filtered}
use Rattle.attribute_filter.proofs.filtering.fields_filtered.Goals as goal

pub loop-field-preserved : goal.loop-field-preserved
loop-field-preserved c =
    rw c.filter_field.ensures (search (rules, map_over_more (field_filtered c.args.filter.now)))
