-- Answers of `class_of`: what its calls ask for, and what it promises.
use Rattle.class_vectors.proofs.edits.class_of.Goals as goal

pub returns-in-Ok : goal.returns-in-Ok
returns-in-Ok c =
    (c.spelled_classes_can_be_written.ensures.writable c.as_slice.result.now c.in-Ok.class
    c.in-Ok.ensures.found c.in-None.is).well_formed
