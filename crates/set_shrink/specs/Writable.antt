-- What is left of classes that can be written can be written too (JVMS 4.1; that it can is the project's own law).
use Rattle.std.specs.Prelude.{Bool, List, IfSome}
use Rattle.std.specs.List.{AllByRecursion}
use Rattle.std.specs.Str.{IsUtf8}
use Rattle.class_model.specs.declared.class.Class.{Class}
use Rattle.class_laws.specs.SpellingLaws.{IsWritable}
use Rattle.attribute_filter.specs.Filtered.{filtered}
use Rattle.attribute_filter.specs.declared.filter.AttributeFilter.{AttributeFilter}
use Rattle.member_shrink.specs.Shrunk.{shrunk}

-- where each class can be written, so can each that is left, whatever is marked
abbrev pub ShrunkAreWritable : Type 0
ShrunkAreWritable = (classes : List Class) (marks : List Bool) → AllByRecursion IsWritable classes
    → AllByRecursion IsWritable (shrunk classes marks)

-- a class that can be written can be written with those optional attributes alone that are kept, where the name that
-- its source file gets is in UTF-8, as each text of the code is
abbrev pub FilteredIsWritable : Type 0
FilteredIsWritable = (filter : AttributeFilter) (c : Class) → IfSome filter.source_name IsUtf8 → IsWritable c
    → IsWritable (filtered filter c)
