use Rattle.std.proofs.Common.{◌≡◌, ◌++◌, take, drop, map}
use Rattle.attribute_filter.specs.Filtered.{field_filtered}
use Rattle.attribute_filter.proofs.filtering.fields_filtered.Given as goal

abbrev pub invariant-loop-field : goal.invariant-loop-field
invariant-loop-field l = l.field-items
    ≡ map (field_filtered l.filter) (take l.field-index l.fn.fields) ++ drop l.field-index l.fn.fields
