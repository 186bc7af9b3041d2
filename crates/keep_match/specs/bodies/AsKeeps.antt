-- Rules on members alone, as rules that keep classes with these members: so one search serves both (only the proof of
-- `members_asked` needs them).
use Rattle.std.specs.Prelude.{false, List, map}
use Rattle.std.specs.List.{filter}
use Rattle.keep_rules.specs.declared.rules.Keep.{Keep}
use Rattle.keep_rules.specs.declared.rules.KeepKind.TheVariants as kind
use Rattle.keep_match.specs.Asked.{asks_members}

-- the rule, as one that keeps classes
abbrev pub as_keep : Keep → Keep
as_keep k = record k { kind = kind.Keep; allow_shrinking = false }

-- those rules that ask for members, as rules that keep classes
abbrev pub as_keeps : List Keep → List Keep
as_keeps keeps = map as_keep (filter asks_members keeps)
