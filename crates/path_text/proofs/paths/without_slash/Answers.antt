-- Answers of `without_slash`: what its calls ask for, and what it promises.
use Rattle.std.proofs.Common.{ap, sym, ◌∙◌, arith}
use Rattle.std.proofs.lemmas.Str.Pattern.{strip_suffix_char}
use Rattle.std.proofs.Common.{None, Some}
use Rattle.path_text.specs.Path.{without_slash}
use Rattle.path_text.proofs.Segments.{without_slash-append, without_slash_same}
use Rattle.path_text.proofs.paths.without_slash.Goals as goal

pub returns-in-Some : goal.returns-in-Some
returns-in-Some c =
    let is = strip_suffix_char 47 c.args.text.now (Some c.in-Some.front) c.in-Some.ensures.cases (omega arith) in
    sym (ap without_slash is ∙ without_slash-append c.in-Some.front.now)

pub returns-in-None : goal.returns-in-None
returns-in-None c = sym
    (without_slash_same c.args.text.now
    (strip_suffix_char 47 c.args.text.now None c.in-None.ensures.cases (omega arith)))
