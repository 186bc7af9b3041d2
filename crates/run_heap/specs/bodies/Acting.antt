-- Objects that a method of the library changes (Java SE 8 API; only the proof of the bodies needs it).
use Rattle.std.specs.Prelude.{◌≡◌, ◌++◌, ℕ, Bool, true, false, List, [], ◌∷◌, Option, Some, None}
use Rattle.jvm_model.specs.Answers.{Answer, Gives, NoAnswer}
use Rattle.jvm_model.specs.Heap.{Builder, Instance, Object as Thing, World as Whole, with_object}
use Rattle.jvm_model.specs.Value.{Ref, Value}
use Rattle.run_heap.specs.bodies.Puts.{is_instance}
use Rattle.run_heap.specs.Worlds.{object_of}
use Rattle.run_heap.specs.declared.world.Object.{Object}
use Rattle.run_values.specs.References.{number_of}

-- the object is a StringBuilder
abbrev pub is_builder : Thing → Bool
is_builder (Builder units) = true
is_builder _ = false

-- a StringBuilder with these units, any other object as it is
abbrev pub with_units : Thing → List ℕ → Thing
with_units (Builder old) units = Builder units
with_units o units = o

-- a StringBuilder with more units, any other object as it is
abbrev pub with_more : Thing → List ℕ → Thing
with_more (Builder old) units = Builder (old ++ units)
with_more o units = o

-- an instance with another message and cause, any other object as it is
abbrev pub with_thrown : Thing → (message cause : Value) → Thing
with_thrown (Instance class fields m c) message cause = Instance class fields message cause
with_thrown o message cause = o

-- a StringBuilder got these units, and any other object is as it was
abbrev pub SetsUnits : Bool → (before after : Object) → List ℕ → Type 0
SetsUnits done before after units =
    (done ≡ is_builder (object_of before)) × (object_of after ≡ with_units (object_of before) units)

-- a StringBuilder got more units, and any other object is as it was
abbrev pub GrowsUnits : Bool → (before after : Object) → List ℕ → Type 0
GrowsUnits done before after units =
    (done ≡ is_builder (object_of before)) × (object_of after ≡ with_more (object_of before) units)

-- an instance got another message and cause, and any other object is as it was
abbrev pub SetsThrowing : Bool → (before after : Object) → (message cause : Value) → Type 0
SetsThrowing done before after message cause =
    (done ≡ is_instance (object_of before)) × (object_of after ≡ with_thrown (object_of before) message cause)

-- the number of the object that the first of the values refers to, if it does
abbrev pub first_number : List Value → Option ℕ
first_number [] = None
first_number (v ∷ vs) = number_of v

-- units are appended to a StringBuilder, which is returned
abbrev pub append_to : Whole → ℕ → List ℕ → Thing → Answer
append_to w n units (Builder old) = Gives (Some (Ref n)) (with_object w n (Builder (old ++ units)))
append_to w n units _ = NoAnswer
