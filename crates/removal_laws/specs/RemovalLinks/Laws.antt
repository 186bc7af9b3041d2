-- What is left of a set that is taken breaks no rule for links, as a statement on all sets, rules and marks (the
-- project's own).
use Rattle.std.specs.Prelude.{◌≡◌, true, Bool, List, Ok}
use Rattle.mark_core.specs.Marks.{Closed, set_of}
use Rattle.class_model.specs.declared.class.Class.{Class}
use Rattle.link_check.specs.Profile.{links_checked}
use Rattle.member_shrink.specs.Shrunk.{shrunk}
use Rattle.require_sys.specs.Requires.{requires}
use Rattle.require_sys.specs.declared.kept.KeptByRules.{KeptByRules}
use Rattle.image_laws.specs.TakenSet.TakenSet.{IsTaken}

-- where the attribute Exceptions is kept: else it may name classes that aren't, and is taken away
abbrev pub RemovalKeepsLinks : Type 0
RemovalKeepsLinks = (classes : List Class) (rules : KeptByRules) (marks : List Bool) → IsTaken classes
    → Closed (requires classes rules) (set_of marks) → rules.exceptions ≡ true
    → links_checked (shrunk classes marks) ≡ Ok tt
