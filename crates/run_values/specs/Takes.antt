-- Operands that are taken from a stack (the project's own: how a body tells what a reader of `jvm_model` reads).
use Rattle.std.specs.Prelude.{◌≡◌, Bool, true, false, List, Option, Some, None}
use Rattle.jvm_model.specs.Stack.{Reader}
use Rattle.jvm_model.specs.Value.{Value}

-- what the reader takes was taken, and the stack that it leaves is left; nothing, where it takes nothing
abbrev pub Takes : {A : Type 0} → Reader A → Option A → (before after : List Value) → Type 0
Takes read None before after = read before ≡ None
Takes read (Some x) before after = read before ≡ Some (x, after)

-- the stack became the one that is due, where there is one
abbrev pub Becomes : Bool → (due : Option (List Value)) → (after : List Value) → Type 0
Becomes false due after = due ≡ None
Becomes true due after = due ≡ Some after
