-- Rules by which names stay, as rules that keep classes: so one search serves both (only the proof of `fixed_rows`
-- needs them).
use Rattle.std.specs.Prelude.{false, List, map}
use Rattle.std.specs.List.{filter}
use Rattle.keep_rules.specs.declared.rules.Keep.{Keep}
use Rattle.keep_rules.specs.declared.rules.KeepKind.{KeepKind}
use Rattle.keep_rules.specs.declared.rules.KeepKind.TheVariants as kind
use Rattle.keep_match.specs.Fixed.{fixes_names}
use Rattle.keep_match.specs.declared.fixed.Fixes.{Fixes}

-- a rule on members alone counts as one on classes
abbrev pub kind_of : KeepKind → KeepKind
kind_of kind.Keep = kind.Keep
kind_of kind.Members = kind.Keep
kind_of kind.WithMembers = kind.WithMembers

-- the rule, as one that keeps classes
abbrev pub as_fixing : Keep → Keep
as_fixing k = record k { kind = kind_of k.kind; allow_shrinking = false }

-- those rules by which names stay, as rules that keep classes
abbrev pub as_fixings : Fixes → List Keep → List Keep
as_fixings what keeps = map as_fixing (filter (fixes_names what) keeps)
