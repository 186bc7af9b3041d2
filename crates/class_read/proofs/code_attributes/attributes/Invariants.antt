use Rattle.std.proofs.Common.{◌≡◌, ◌-◌}
use Rattle.class_model.specs.ReadingAttributes.{attributes}
use Rattle.class_model.specs.ReadingCodeAttribute.{known_of_code, nothing_seen}
use Rattle.class_read.specs.bodies.CodeAttributes.{frames_by}
use Rattle.class_read.proofs.code_attributes.attributes.Given as goal

abbrev pub invariant-loop : goal.invariant-loop
invariant-loop l = attributes (l.count - l.counter) l.frames.pool.now
    (known_of_code (frames_by l.frames)) l.seen l.cursor
    ≡ attributes l.count l.frames.pool.now (known_of_code (frames_by l.frames)) nothing_seen l.fn.cursor
