-- Answers of `note_many`: what its calls ask for, and what it promises.
use Rattle.type_verifier.proofs.Noting.{notes_all}
use Rattle.type_verifier.proofs.fitting.note_many.Goals as goal

pub returns : goal.returns
returns c =
    notes_all c.args.noted.now.items c.make_room.new.noted.items c.note_words.new.noted.items c.args.types.now
    c.in_ok-make_room.ensures c.in_ok-note_words.ensures
