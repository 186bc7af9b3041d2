-- What stays of a set where optional attributes are taken away, as statements on all filters and sets (the project's
-- own).
use Rattle.std.specs.Prelude.{List, map, IfSome}
use Rattle.std.specs.Str.{IsUtf8}
use Rattle.class_model.specs.declared.class.Class.{Class}
use Rattle.attribute_filter.specs.Filtered.{filtered}
use Rattle.attribute_filter.specs.declared.filter.AttributeFilter.{AttributeFilter}
use Rattle.image_laws.specs.TakenSet.TakenSet.{IsTaken}
use Rattle.type_verifier.specs.Verified.{AreTyped}

-- a set that is taken is taken; the name that the source files get, if they get one, is UTF-8
abbrev pub FilteringKeepsTaken : Type 0
FilteringKeepsTaken = (filter : AttributeFilter) → IfSome filter.source_name IsUtf8 → (classes : List Class)
    → IsTaken classes → IsTaken (map (filtered filter) classes)

-- each method is typed, as it was (JVMS 4.10.1)
abbrev pub FilteringKeepsTyped : Type 0
FilteringKeepsTyped = (filter : AttributeFilter) (classes : List Class) → AreTyped classes
    → AreTyped (map (filtered filter) classes)
