-- Answers of `note_words`: what its calls ask for, and what it promises.
use Rattle.std.proofs.Common.{arith, ◌∙◌, ◌<◌, length}
use Rattle.std.proofs.lemmas.List.{get_or_default}
use Rattle.class_model.specs.declared.frame.VType.TheVariants as vtype
use Rattle.type_verifier.proofs.Noting.{notes_more}
use Rattle.type_verifier.proofs.fitting.note_words.Goals as goal

pub loop-word-preserved : goal.loop-word-preserved
loop-word-preserved c =
    let types = c.args.types.now in
    let word = c.loop-word.word in
    let within : word < length types = omega (arith, c.loop-word-test.true, c.requires) in
    notes_more c.args.noted.now.items c.loop-word.noted.items c.note.new.noted.items types word
    c.index-types-word.result
    c.loop-word.invariant c.in_ok-note.ensures within
    (c.index-types-word.is ∙ get_or_default types word c.index-types-word.result vtype.Top within)
