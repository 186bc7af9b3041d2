use Rattle.std.proofs.Common.{◌≡◌, ◌-◌, map}
use Rattle.format_reading.specs.Reader.{many, behind}
use Rattle.class_model.specs.ReadingFrames.{read_type}
use Rattle.frame_read.specs.bodies.Rows.{info_of}
use Rattle.frame_read.proofs.reading.type_infos.Given as goal

abbrev pub invariant-loop : goal.invariant-loop
invariant-loop l = behind (map info_of l.infos) (many (l.count - l.counter) read_type l.cursor)
    ≡ many l.count read_type l.fn.cursor
