-- What the code is told of a program, as what the machine is told (JVMS 5.4.3, 5.4.5, 6.5).
use Rattle.std.specs.Prelude.{◌≡◌, ℕ, true, List, Option, codes, is_some}
use Rattle.std.specs.List.{All, list_any}
use Rattle.std.specs.Option.{option_map}
use Rattle.jvm_model.specs.Heap.{string, string_builder}
use Rattle.jvm_model.specs.Program.{Shape, Target as Run, View}
use Rattle.jvm_model.specs.Program as program
use Rattle.jvm_model.specs.Value.{Key, same_key}
use Rattle.run_heap.specs.declared.shapes.Found.{Found}
use Rattle.run_heap.specs.declared.shapes.Found.TheVariants as found
use Rattle.run_heap.specs.declared.shapes.Known.{Known}
use Rattle.run_heap.specs.declared.shapes.Known.TheVariants as known
use Rattle.run_heap.specs.declared.target.Target.{Target}
use Rattle.run_heap.specs.declared.target.Target.TheVariants as target
use Rattle.run_library.specs.Rows.{exception_of, method_of}

-- the name of a class of the library
abbrev pub known_name : Known → List ℕ
known_name known.Object = codes "java/lang/Object"
known_name known.String = string
known_name known.StringBuilder = string_builder

-- the field or the method that was found
abbrev pub key_found : Found → Key
key_found (found.Kept key) = key.now
key_found (found.Made key) = key

-- what a call runs
abbrev pub target_of : Target → Run
target_of (target.Program key) = program.Program key
target_of (target.Library row) = program.Library (method_of row)
target_of (target.Fails e) = program.Fails (exception_of e)

-- it runs that, or nothing is told
abbrev pub IsTarget : Option Target → Option Run → Type 0
IsTarget t due = option_map target_of t ≡ due

-- these are fields of the class, and each of its fields with an attribute ConstantValue is among them (JVMS 4.7.2)
abbrev pub HasConstants : Shape → (class : List ℕ) → List Key → Type 0
HasConstants p class keys =
    All (λ k. k.class ≡ class) keys
    × ((k : Key) → k.class ≡ class → is_some (p.constant k) ≡ true → list_any (same_key k) keys ≡ true)
