-- Answers of `strings_in`: what its calls ask for, and what it promises.
use Rattle.std.proofs.Common.{◌≡◌, ◌++◌, ◌∷◌, [], sym, ◌∙◌}
use Rattle.run_command.proofs.Strings.{all_strings, no_more, string_taken}
use Rattle.run_command.specs.Arguments.{strings_in}
use Rattle.run_command.proofs.arguments.strings_in.Goals as goal

pub returns-in_default : goal.returns-in_default
returns-in_default c =
    no_more (strings_in c.args.words.now) c.loop-word.texts c.args.words.now c.loop-word.word-index
    c.loop-word.invariant c.word-item.result c.loop-word-test.true c.word-item.is
    (sym c.in_default.is ∙ c.in_ok-units.ensures)

pub loop-word-preserved : goal.loop-word-preserved
loop-word-preserved c =
    let e : c.push.new.self ≡ c.loop-word.texts ++ c.in-Some.units ∷ [] = c.in_ok-push.ensures in
    rw e (string_taken (strings_in c.args.words.now) c.loop-word.texts c.args.words.now c.loop-word.word-index
    c.loop-word.invariant c.word-item.result c.in-Some.units c.loop-word-test.true c.word-item.is
    (sym c.in-Some.is ∙ c.in_ok-units.ensures))

pub returns : goal.returns
returns c =
    all_strings (strings_in c.args.words.now) c.loop-word.texts c.args.words.now c.loop-word.word-index
    c.loop-word.invariant c.loop-word-test.false
