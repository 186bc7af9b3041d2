-- Answers of `last_part`: what its calls ask for, and what it promises.
use Rattle.std.proofs.Common.{sym, None, Some, arith, ◌∙◌}
use Rattle.std.proofs.lemmas.Str.Pattern.{rfind_char}
use Rattle.keep_rules.proofs.Spelling.{last_part_is, last_part_same}
use Rattle.keep_rules.proofs.texts.last_part.Goals as goal

pub returns-in-Some : goal.returns-in-Some
returns-in-Some c =
    let f = rfind_char 46 c.args.name.now (Some c.in-Some.at) c.in-Some.ensures.cases (omega arith) in
    c.range_from.ensures.value ∙ sym (last_part_is c.args.name.now c.in-Some.at f.0 f.1 f.2)

pub returns-in-None : goal.returns-in-None
returns-in-None c =
    sym (last_part_same c.args.name.now (rfind_char 46 c.args.name.now None c.in-None.ensures.cases (omega arith)))
