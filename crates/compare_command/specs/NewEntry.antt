-- What stands for an entry in an output: the method that has its name and its descriptor through the mapping (ProGuard
-- manual, "ReTrace", the mapping file). Of several lines for one class or method the first counts, and a name without a
-- line stays (the project's own).
use Rattle.std.specs.Prelude.{ℕ, Bool, ◌&&◌, List, Option, Some, None, if◌then◌else◌}
use Rattle.std.specs.List.{find}
use Rattle.std.specs.Option.{option_map, unwrap_or}
use Rattle.jv_base.specs.Names.{is_text}
use Rattle.jv_base.specs.Types.{method_text}
use Rattle.class_model.specs.declared.class.Class.{Class}
use Rattle.class_rename.specs.Renamed.{renamed_method_type}
use Rattle.mapping_file.specs.declared.mapping.MapMethod.{MapMethod}
use Rattle.mapping_file.specs.declared.mapping.Mapping.{Mapping}
use Rattle.new_names.specs.NewNames.{class_line, names_of}
use Rattle.jvm_model.specs.Value.{Key}
use Rattle.set_view.specs.ViewOf.{is_startable}
use Rattle.run_command.specs.declared.entries.Entry.{Entry}

-- the line is that of a method of this name and descriptor
abbrev pub is_line_of : Key → MapMethod → Bool
is_line_of k line = is_text line.old k.name && is_text (method_text line.ty) k.descriptor

-- the new name of a method by the lines of its class; it stays where none is its own
abbrev pub named_in : Key → List MapMethod → List ℕ
named_in k lines = unwrap_or (option_map (λ line. line.new) (find (is_line_of k) lines)) k.name

-- the same by a mapping, in which its class may have no line
abbrev pub new_name : Mapping → Key → List ℕ
new_name mapping k = unwrap_or (option_map (λ line. named_in k line.methods) (class_line mapping k.class)) k.name

-- the entry under new names
abbrev pub new_key : Mapping → Entry → Key
new_key mapping entry = record {
  class = (names_of mapping).class entry.key.class;
  name = new_name mapping entry.key;
  descriptor = method_text (renamed_method_type (names_of mapping) entry.ty);
}

-- so it is an entry of the output, if a run may begin with it
abbrev pub new_entry : Mapping → List Class → Entry → Option Key
new_entry mapping output entry =
    if is_startable output (new_key mapping entry) then Some (new_key mapping entry) else None
