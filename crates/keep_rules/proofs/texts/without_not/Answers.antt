-- Answers of `without_not`: what its calls ask for, and what it promises.
use Rattle.std.proofs.Common.{sym, None, arith}
use Rattle.std.proofs.lemmas.Str.Pattern.{strip_prefix_char}
use Rattle.keep_rules.proofs.Spelling.{without_not_same}
use Rattle.keep_rules.proofs.texts.without_not.Goals as goal

pub returns-in-None : goal.returns-in-None
returns-in-None c =
    sym (without_not_same c.args.word.now (strip_prefix_char 33 c.args.word.now None c.in-None.ensures.cases
    (omega arith)))
