-- A set does the same without optional attributes, as statements on all filters and sets (the project's own).
use Rattle.std.specs.Prelude.{List, map}
use Rattle.class_model.specs.declared.class.Class.{Class}
use Rattle.attribute_filter.specs.Filtered.{filtered}
use Rattle.attribute_filter.specs.declared.filter.AttributeFilter.{AttributeFilter}
use Rattle.jvm_model.specs.Same.{Same, own_names}
use Rattle.jvm_model.specs.Value.{Key}
use Rattle.set_view.specs.ViewOf.{view_of}

-- from each entry, each name standing for itself; where lines are taken away, none is told of a frame
abbrev pub FilteringKeepsSame : Type 0
FilteringKeepsSame = (filter : AttributeFilter) (classes : List Class) (entries : List Key)
    → Same (view_of classes) (view_of (map (filtered filter) classes)) own_names entries
