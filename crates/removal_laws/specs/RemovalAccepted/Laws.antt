-- What is left of a set, without the optional attributes that aren't kept, is taken and typed again, as statements on
-- all sets, rules, marks and filters (the project's own).
use Rattle.std.specs.Prelude.{◌≡◌, Bool, List, map, IfSome}
use Rattle.std.specs.Str.{IsUtf8}
use Rattle.mark_core.specs.Marks.{Closed, set_of}
use Rattle.class_model.specs.declared.class.Class.{Class}
use Rattle.attribute_filter.specs.Filtered.{filtered}
use Rattle.attribute_filter.specs.declared.filter.AttributeFilter.{AttributeFilter}
use Rattle.member_shrink.specs.Shrunk.{shrunk}
use Rattle.require_sys.specs.Requires.{requires}
use Rattle.require_sys.specs.declared.kept.KeptByRules.{KeptByRules}
use Rattle.image_laws.specs.TakenSet.TakenSet.{IsTaken}
use Rattle.type_verifier.specs.Verified.{AreTyped}

-- the marked classes with their marked members and the attributes that a filter keeps
abbrev pub left_and_filtered : AttributeFilter → List Class → List Bool → List Class
left_and_filtered filter classes marks = map (filtered filter) (shrunk classes marks)

-- where rules and filter agree on Exceptions, all that was asked of the set holds of what is left, whether that
-- attribute is kept or not; the name that the source files get, if they get one, is UTF-8
abbrev pub FilteredRemovalKeepsTaken : Type 0
FilteredRemovalKeepsTaken = (classes : List Class) (rules : KeptByRules) (marks : List Bool) (filter : AttributeFilter)
    → IsTaken classes → Closed (requires classes rules) (set_of marks) → filter.exceptions ≡ rules.exceptions
    → IfSome filter.source_name IsUtf8 → IsTaken (left_and_filtered filter classes marks)

-- and each method is typed, as it was (JVMS 4.10.1)
abbrev pub FilteredRemovalKeepsTyped : Type 0
FilteredRemovalKeepsTyped = (classes : List Class) (rules : KeptByRules) (marks : List Bool) (filter : AttributeFilter)
    → IsTaken classes → AreTyped classes → Closed (requires classes rules) (set_of marks)
    → AreTyped (left_and_filtered filter classes marks)
