-- Calls of methods (JVMS 6.5.invokestatic, 6.5.invokespecial, 6.5.invokevirtual, 6.5.invokeinterface).
use Rattle.std.specs.Prelude.{◌++◌, ℕ, List, [], ◌∷◌, Option, Some, None, slice_get}
use Rattle.std.specs.Option.{option_and_then}
use Rattle.class_model.specs.declared.op.MemberRef.{MemberRef}
use Rattle.jvm_model.specs.Answers.{Answer, Gives, Raises, Begins, NoAnswer, of_some, once_initialised}
use Rattle.jvm_model.specs.Exceptions.{NullPointer}
use Rattle.jvm_model.specs.Fields.{put_on_heap}
use Rattle.jvm_model.specs.Heap.{Object, Instance, Array, Str, Builder, World, class_of, object_of, with_object}
use Rattle.jvm_model.specs.Library.{Act, Returns, MakesString, SetsBuilder, SetsThrown, Writes, Throws, NoAct, act}
use Rattle.jvm_model.specs.Library.{Seen, ANull, AnInt, ALong, AString, ABuilder, AnInstance, AnArray}
use Rattle.jvm_model.specs.Program.{Shape, Target, Program, Library, Fails}
use Rattle.jvm_model.specs.Stack.{◌>>=◌}
use Rattle.jvm_model.specs.Value.{Value, Int, Long, Null, Ref, Lit}

-- ---- methods of the library

-- an object as it sees it, without its class
abbrev pub seen_object : ℕ → Object → Seen
seen_object n (Instance class fields message cause) = AnInstance n message cause
seen_object n (Array component values) = AnArray n
seen_object n (Str units) = AString (Ref n) units
seen_object n (Builder units) = ABuilder n units

-- an operand as a method of the library sees it
abbrev pub seen_operand : World → Value → Option Seen
seen_operand w (Int z) = Some (AnInt z)
seen_operand w (Long z) = Some (ALong z)
seen_operand w Null = Some ANull
seen_operand w (Lit units) = Some (AString (Lit units) units)
seen_operand w (Ref n) = option_and_then (λ o. Some (seen_object n o)) (slice_get w.heap n)

-- the same of all operands, where each is one
abbrev pub all_seen : World → List Value → Option (List Seen)
all_seen w [] = Some []
all_seen w (v ∷ vs) = do
  x ← seen_operand w v
  xs ← all_seen w vs
  Some (x ∷ xs)

-- a StringBuilder with other units
abbrev pub set_builder : World → ℕ → List ℕ → Option Value → Object → Answer
set_builder w n units result (Builder old) = Gives result (with_object w n (Builder units))
set_builder w n units result _ = NoAnswer

-- an exception with another message and cause
abbrev pub set_thrown : World → ℕ → Value → Value → Object → Answer
set_thrown w n message cause (Instance class fields m c) =
    Gives None (with_object w n (Instance class fields message cause))
set_thrown w n message cause _ = NoAnswer

-- what an act does to the world
abbrev pub acted : World → Act → Answer
acted w (Returns result) = Gives result w
acted w (MakesString units) = put_on_heap w (Str units)
acted w (SetsBuilder n units result) = of_some (set_builder w n units result) (slice_get w.heap n)
acted w (SetsThrown n message cause) = of_some (set_thrown w n message cause) (slice_get w.heap n)
acted w (Writes units) = Gives None (record w { printed = w.printed ++ units })
acted w (Throws exception) = Raises exception
acted w NoAct = NoAnswer

-- ---- calls

-- what the call runs, with its arguments
abbrev pub called : World → List Value → Target → Answer
called w args (Program method) = Begins method args
called w args (Library row) = of_some (λ operands. acted w (act row operands)) (all_seen w args)
called w args (Fails exception) = Raises exception

-- the class of a static method is initialised first (JVMS 6.5.invokestatic)
abbrev pub called_static : World → List Value → Target → Answer
called_static w args (Program method) = once_initialised w method.class (Begins method args)
called_static w args target = called w args target

-- a call with a receiver, which isn't null (JVMS 6.5.invokespecial, 6.5.invokevirtual, 6.5.invokeinterface)
abbrev pub on_receiver : World → List Value → (Object → Option Target) → Answer
on_receiver w (Null ∷ args) target = Raises NullPointer
on_receiver w (v ∷ args) target = of_some (called w (v ∷ args)) (option_and_then target (object_of w v))
on_receiver w [] target = NoAnswer

-- a constructor, a private method or one of a superclass (JVMS 6.5.invokespecial)
abbrev pub call_special : Shape → List ℕ → World → MemberRef → List Value → Answer
call_special p from w r args = on_receiver w args (λ o. p.special_target from r)

-- what runs on an object
abbrev pub target_on : Shape → MemberRef → Object → Option Target
target_on p r (Array component values) = p.array_target r
target_on p r o = p.selected_target (class_of o) r

-- a method that is selected by the class of the receiver (JVMS 6.5.invokevirtual, 6.5.invokeinterface)
abbrev pub call_selected : Shape → World → MemberRef → List Value → Answer
call_selected p w r args = on_receiver w args (target_on p r)
