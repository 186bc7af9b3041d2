-- What a call tells of a member by its row (only the proof of ClassSet needs it).
use Rattle.class_model.specs.Flags.{flags_of, is_init}
use Rattle.class_pool.specs.declared.set.found.MemberFacts.{MemberFacts}
use Rattle.class_pool.specs.Found.{MemberRow}

-- what a call tells of the member with this row
abbrev pub facts_of : MemberRow → MemberFacts
facts_of row = record { flags = flags_of row.flags; is_method = row.is_method; is_init = is_init row.named.0 }
