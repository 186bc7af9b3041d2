-- Which code a method has by a witness: the one after the acts of its entry, or its own (the project's own).
use Rattle.std.specs.Prelude.{List, [], map, Option, Some, None}
use Rattle.std.specs.List.{find}
use Rattle.std.specs.Option.{option_map}
use Rattle.jv_base.specs.Types.{method_text}
use Rattle.class_model.specs.declared.class.Class.{Class}
use Rattle.class_model.specs.declared.class.Method.{Method}
use Rattle.code_edit.specs.Applied.{edited}
use Rattle.code_edit.specs.declared.act.PassEdits.{PassEdits}
use Rattle.witness_file.specs.Witnesses.{is_method}
use Rattle.witness_file.specs.declared.witness.MethodWitness.{MethodWitness}
use Rattle.witness_file.specs.declared.witness.Witness.{Witness}

-- the steps of an entry; none where there is no entry
abbrev pub steps_in : Option MethodWitness → List PassEdits
steps_in None = []
steps_in (Some entry) = entry.edits.steps

module _ (entries : List MethodWitness) (c : Class) where
  -- the entry of a method: the first that names it
  abbrev pub entry_of : Method → Option MethodWitness
  entry_of m = find (is_method c.name m.name (method_text m.ty)) entries

  -- the steps that a method goes through
  abbrev pub steps_of : Method → List PassEdits
  steps_of m = steps_in (entry_of m)

  -- the method with the code after them, without frames; without an entry it has its own
  abbrev pub edited_method : Method → Method
  edited_method m = record m { code = option_map (edited (steps_of m)) m.code }

  -- the class with these methods
  abbrev pub edited_class : Class
  edited_class = record c { methods = map edited_method c.methods }

-- the input in which each method has the code after the acts of its entry
abbrev pub edited_input : Witness → List Class → List Class
edited_input witness input = map (edited_class witness.methods) input
