-- A program in which one method has another code (the project's own).
use Rattle.std.specs.Prelude.{Some}
use Rattle.class_model.specs.declared.code.Code.{Code}
use Rattle.jvm_model.specs.Program.{View}
use Rattle.jvm_model.specs.Value.{Key, set_key}

-- all but the code of the method is as it was
abbrev pub replaced : View → Key → Code → View
replaced v m new = record v { code = set_key v.code m (Some new) }
