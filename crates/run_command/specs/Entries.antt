-- The method that an entry names: it is spelled `class.name(types)`, and a run may begin with it (ProGuard manual,
-- "ReTrace": names and types as a mapping file has them; that they are joined so is the project's own).
use Rattle.std.specs.Prelude.{ℕ, Bool, ◌&&◌, List, [], ◌∷◌, ◌++◌, Option, None, codes}
use Rattle.std.specs.List.{find, join_by}
use Rattle.std.specs.Option.{option_and_then, option_map, option_or}
use Rattle.jv_base.specs.External.{dotted, external_text}
use Rattle.jv_base.specs.Names.{is_text}
use Rattle.jv_base.specs.Types.{method_text}
use Rattle.text_lines.specs.Cut.{after}
use Rattle.class_model.specs.declared.class.Class.{Class}
use Rattle.class_model.specs.declared.class.Method.{Method}
use Rattle.jvm_model.specs.Value.{Key}
use Rattle.set_view.specs.ViewOf.{is_startable}
use Rattle.run_command.specs.declared.entries.Entry.{Entry}

-- what a list gives first
abbrev pub first_given : {A B : Type 0} → (A → Option B) → List A → Option B
first_given given [] = None
first_given given (x ∷ xs) = option_or (given x) (first_given given xs)

-- a method of a class, by its names
abbrev pub key_of : Class → Method → Key
key_of class m = record { class = class.name; name = m.name; descriptor = method_text m.ty }

abbrev pub entry_of : Class → Method → Entry
entry_of class m = record { key = key_of class m; ty = m.ty }

-- the name of a class and a dot behind it
abbrev pub class_front : Class → List ℕ
class_front class = dotted class.name ++ codes "."

-- the name of a method, and the types of its parameters in parentheses, a comma between two
abbrev pub method_spelled : Method → List ℕ
method_spelled m = m.name ++ codes "(" ++ join_by external_text (codes ",") m.ty.args ++ codes ")"

-- the method of a class is spelled so, and a run may begin with it
abbrev pub is_entry_of : List Class → Class → List ℕ → Method → Bool
is_entry_of classes class spelled m = is_text (method_spelled m) spelled && is_startable classes (key_of class m)

-- the first such method of these
abbrev pub method_entry : List Class → Class → List Method → List ℕ → Option Entry
method_entry classes class methods spelled =
    option_map (entry_of class) (find (is_entry_of classes class spelled) methods)

-- the same of a class, the text of an entry beginning with its name
abbrev pub class_entry : List Class → List ℕ → Class → Option Entry
class_entry classes text class =
    option_and_then (method_entry classes class class.methods) (after (class_front class) text)

-- the method that a text names as an entry; of several, which differ in their result, it is the first of its class
abbrev pub entry_in : List Class → List ℕ → Option Entry
entry_in classes text = first_given (class_entry classes text) classes
