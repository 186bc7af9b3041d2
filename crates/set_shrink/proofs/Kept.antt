-- Classes that can be written can be written with those optional attributes alone that are kept.
use Rattle.std.proofs.Common.{List, [], ◌∷◌, map}
use Rattle.std.specs.List.{AllByRecursion}
use Rattle.std.specs.Prelude.{IfSome}
use Rattle.std.specs.Str.{IsUtf8}
use Rattle.attribute_filter.specs.Filtered.{filtered}
use Rattle.attribute_filter.specs.declared.filter.AttributeFilter.{AttributeFilter}
use Rattle.class_model.specs.declared.class.Class.{Class}
use Rattle.class_laws.specs.SpellingLaws.{IsWritable}
use Rattle.set_shrink.specs.Order.{in_order}
use Rattle.set_shrink.proofs.Ordered.{each_in_order}
use Rattle.set_shrink.proofs.Writable.{filtered_writable}

all_writable : (filter : AttributeFilter) (classes : List Class) → IfSome filter.source_name IsUtf8
    → AllByRecursion IsWritable classes
    → AllByRecursion IsWritable (map (filtered filter) classes)
all_writable filter [] utf8 h = tt
all_writable filter (c ∷ classes) utf8 h =
    (filtered_writable filter c utf8 h.0, all_writable filter classes utf8 h.1)

-- so can they in the order of their paths
pub ordered_writable : (filter : AttributeFilter) (classes : List Class) → IfSome filter.source_name IsUtf8
    → AllByRecursion IsWritable classes → AllByRecursion IsWritable (map (filtered filter) (in_order classes))
ordered_writable filter classes utf8 h =
    all_writable filter (in_order classes) utf8 (each_in_order IsWritable classes h)
