-- Instructions under new names, with or without their lines.
use Rattle.std.specs.Prelude.{Bool, None, if◌then◌else◌}
use Rattle.class_model.specs.declared.code.Ins.{Ins}
use Rattle.class_rename.specs.Names.{Names}
use Rattle.class_rename.specs.Renamed.{renamed_op}

-- an instruction with its line where lines are kept, and without one elsewhere (JVMS 4.7.12)
abbrev pub mapped_ins_if : Names → Bool → Ins → Ins
mapped_ins_if names lines i = record { op = renamed_op names i.op; line = if lines then i.line else None }
