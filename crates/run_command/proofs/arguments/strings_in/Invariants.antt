use Rattle.std.proofs.Common.{◌≡◌, drop}
use Rattle.run_command.proofs.Taking.{behind}
use Rattle.run_command.specs.Arguments.{strings_in}
use Rattle.run_command.proofs.arguments.strings_in.Given as goal

abbrev pub invariant-loop-word : goal.invariant-loop-word
invariant-loop-word l = behind l.texts (strings_in (drop l.word-index l.words)) ≡ strings_in l.words
