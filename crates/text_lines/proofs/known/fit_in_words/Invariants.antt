use Rattle.std.proofs.Common.{◌≡◌, ◌≤◌, take}
use Rattle.jv_base.specs.Types.{argument_words}
use Rattle.text_lines.proofs.known.fit_in_words.Given as goal

abbrev pub invariant-loop-arg : goal.invariant-loop-arg
invariant-loop-arg l = record {
  counted : l.words ≡ argument_words (take l.arg-index l.args);
  few : l.words ≤ 255;
}
