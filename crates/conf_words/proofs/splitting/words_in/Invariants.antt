use Rattle.std.proofs.Common.{◌≡◌, ◌+◌, ◌≤◌, length}
use denote.Shadow.{shadow}
use denote.Text.{Utf8}
use Rattle.conf_words.specs.Reading.{words_at, with_words}
use Rattle.conf_words.proofs.splitting.words_in.Given as goal

abbrev pub invariant-loop-first : goal.invariant-loop-first
invariant-loop-first l = record {
  read : with_words l.words (words_at 0 l.line l.rest) ≡ words_at 0 1 l.text;
  lines : l.line + length l.rest ≤ 1 + length l.text;
  utf8 : shadow (Utf8 l.rest);
}

abbrev pub decreases-loop-first : goal.decreases-loop-first
decreases-loop-first l = length l.rest
