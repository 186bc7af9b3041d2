-- Answers of `answer`: what its calls ask for, and what it promises.
use Rattle.class_vectors.proofs.answer.answer.Goals as goal

pub written_answer-requires-clause-well_formed : goal.written_answer-requires-clause-well_formed
written_answer-requires-clause-well_formed c =
    (c.spelled_classes_can_be_written.ensures.writable c.args.bytes.now c.in-Ok.class c.in-Ok.ensures.found
    c.in-None.is).well_formed

pub written_answer-requires-clause-words : goal.written_answer-requires-clause-words
written_answer-requires-clause-words c =
    (c.spelled_classes_can_be_written.ensures.writable c.args.bytes.now c.in-Ok.class c.in-Ok.ensures.found
    c.in-None.is).counts
