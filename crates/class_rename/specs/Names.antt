-- New names for old ones (ProGuard manual, "Usage": obfuscation renames classes, fields and methods).
use Rattle.std.specs.Prelude.{List, ℕ, Bool, ◌&&◌, Option, Some, None}
use Rattle.std.specs.Map.{lookup}
use Rattle.jv_base.specs.Names.{is_text}

-- the new name of a class, of a field of any class, and of a method of any class by its name and its descriptor; a name
-- that stays is its own new name (the project's own: one name in all classes)
pub record Names : Type 0 where
  pub class : List ℕ → List ℕ
  pub field : List ℕ → List ℕ
  pub method : List ℕ → List ℕ → List ℕ

-- every name stays (ProGuard manual, "-dontobfuscate")
abbrev pub same_names : Names
same_names = record { class = λ name. name; field = λ name. name; method = λ name descriptor. name }

-- what is there, else something else
abbrev pub or_else : {A : Type 0} → Option A → A → A
or_else (Some x) other = x
or_else None other = other

-- the new name that a table has, else the name itself (the project's own)
abbrev pub new_name : List (List ℕ × List ℕ) → List ℕ → List ℕ
new_name table name = or_else (lookup (is_text name) table) name

-- the name and the descriptor of a method, which tell it from the others of its class (JVMS 4.6)
abbrev pub MethodName : Type 0
MethodName = List ℕ × List ℕ

-- two are the same
abbrev pub is_same_method : MethodName → MethodName → Bool
is_same_method a b = is_text a.0 b.0 && is_text a.1 b.1

-- the new name that a table has for a method, else its own (the project's own)
abbrev pub new_method_name : List (MethodName × List ℕ) → MethodName → List ℕ
new_method_name table m = or_else (lookup (is_same_method m) table) m.0

-- old names, each with its new one, as tables; those of methods by their names and descriptors (the project's own)
pub record Tables : Type 0 where
  pub classes : List (List ℕ × List ℕ)
  pub fields : List (List ℕ × List ℕ)
  pub methods : List (MethodName × List ℕ)

-- the names that tables tell (the project's own)
abbrev pub names_in : Tables → Names
names_in t = record {
  class = new_name t.classes;
  field = new_name t.fields;
  method = λ name descriptor. new_method_name t.methods (name, descriptor);
}
