-- Answers of `word_len`: what its calls ask for, and what it promises.
use Rattle.conf_words.specs.Pieces.{ends_word}
use Rattle.conf_words.proofs.Cutting.{cut_at, found_none, ascii_end}
use Rattle.conf_words.proofs.pieces.word_len.Goals as goal
use Rattle.std.proofs.Common.{sym}

pub returns-in-Some-clause-boundary : goal.returns-in-Some-clause-boundary
returns-in-Some-clause-boundary c = cut_at ends_word c.args.text.now c.in-Some.at ascii_end (sym c.in-Some.ensures)

pub returns-in-None-clause-len : goal.returns-in-None-clause-len
returns-in-None-clause-len c = found_none ends_word c.args.text.now (sym c.in-None.ensures)
