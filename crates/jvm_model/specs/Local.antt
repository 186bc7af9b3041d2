-- What a frame does at its instruction, told of its code and itself alone (JVMS 2.6, 6.5).
use Rattle.std.specs.Prelude.{ℕ, ◌+◌, ℤ, List, [], ◌∷◌, Option, Some, None, Bool, true, ◌&&◌, nat_le, nat_lt, slice_get}
use Rattle.std.specs.Prelude.{if◌then◌else◌}
use Rattle.std.specs.Int.{w32, int_wrapping_add}
use Rattle.std.specs.List.{find}
use Rattle.std.specs.Option.{option_and_then, option_map, option_map_or, unwrap_or}
use Rattle.class_model.specs.declared.code.Code.{Code}
use Rattle.class_model.specs.declared.code.Handler.{Handler}
use Rattle.class_model.specs.declared.code.Ins.{Ins}
use Rattle.class_model.specs.declared.op.Kind.TheVariants as kind
use Rattle.jvm_model.specs.Instructions.{Request, Sort, OnStack, Loads, Stores, Incs, Jumps, Asks, Leaves, Throws}
use Rattle.jvm_model.specs.Instructions.{sort_of}
use Rattle.jvm_model.specs.Stack.{top}
use Rattle.jvm_model.specs.State.{Body}
use Rattle.jvm_model.specs.Value.{Value, Int, Ref, as_int, as_kind, is_wide, set_at}

-- The frame is this one now; or it asks, and waits where it stands with this stack; or its method returns; or throws a
-- reference; or an operand is missing or of another kind.
pub data Local : Type 0 where
  Moves : Body → Local
  Wants : Request → List Value → Local
  Ends : Option Value → Local
  Tosses : Value → Local
  Stuck : Local

-- the next instruction, with this stack
abbrev pub goes_on : Body → List Value → Body
goes_on b s = record b { at = b.at + 1; stack = s }

-- it goes on, with another stack
abbrev pub after_stack : Body → Option (List Value) → Local
after_stack b None = Stuck
after_stack b (Some s) = Moves (goes_on b s)

-- the value of a slot is pushed (JVMS 6.5.iload, 6.5.lload, 6.5.aload)
abbrev pub after_load : Body → Option Value → Local
after_load b None = Stuck
after_load b (Some v) = Moves (goes_on b (v ∷ b.stack))

-- the top goes into a slot (JVMS 6.5.istore, 6.5.lstore, 6.5.astore)
abbrev pub after_store : Body → ℕ → Option (Value × List Value) → Local
after_store b slot None = Stuck
after_store b slot (Some p) = Moves (record b { at = b.at + 1; locals = set_at b.locals slot (Some p.0); stack = p.1 })

-- a number is added to the int of a slot (JVMS 6.5.iinc)
abbrev pub after_inc : Body → ℕ → ℤ → Option ℤ → Local
after_inc b slot z None = Stuck
after_inc b slot z (Some old) =
    Moves (record b { at = b.at + 1; locals = set_at b.locals slot (Some (Int (int_wrapping_add w32 old z))) })

-- it goes on at an index, or at the next one
abbrev pub after_jump : Body → Option (Option ℕ × List Value) → Local
after_jump b None = Stuck
after_jump b (Some p) = Moves (record b { at = unwrap_or p.0 (b.at + 1); stack = p.1 })

-- it asks
abbrev pub after_ask : Option (Request × List Value) → Local
after_ask None = Stuck
after_ask (Some p) = Wants p.0 p.1

-- it leaves the method
abbrev pub after_leave : Option (Option Value × List Value) → Local
after_leave None = Stuck
after_leave (Some p) = Ends p.0

-- the top is thrown (JVMS 6.5.athrow)
abbrev pub after_throw : Option (Value × List Value) → Local
after_throw None = Stuck
after_throw (Some p) = Tosses p.0

-- by the sort of its instruction
abbrev pub by_sort : Body → Sort → Local
by_sort b (OnStack f) = after_stack b (f b.stack)
by_sort b (Loads k slot) = after_load b (option_and_then (as_kind k) (b.locals slot))
by_sort b (Stores k slot) = after_store b slot (top (as_kind k) b.stack)
by_sort b (Incs slot z) = after_inc b slot z (option_and_then as_int (b.locals slot))
by_sort b (Jumps read) = after_jump b (read b.stack)
by_sort b (Asks read) = after_ask (read b.stack)
by_sort b (Leaves read) = after_leave (read b.stack)
by_sort b Throws = after_throw (top (as_kind kind.Ref) b.stack)

-- by its instruction
abbrev pub by_instruction : Body → Option Ins → Local
by_instruction b None = Stuck
by_instruction b (Some i) = by_sort b (sort_of i.op)

-- what the frame does at its instruction; where there is none its operands are missing
abbrev pub local : Code → Body → Local
local code b = by_instruction b (slice_get code.ins b.at)

-- ---- a frame that begins, waits, and goes on

-- the slots from n on hold these values, a long being given two (JVMS 2.6.1)
abbrev pub slots_from : ℕ → List Value → ℕ → Option Value
slots_from n [] = λ slot. None
slots_from n (v ∷ vs) = set_at (slots_from (if is_wide v then n + 2 else n + 1) vs) n (Some v)

-- a method that is called with these arguments (JVMS 2.6.1, 6.5.invokestatic)
abbrev pub called_with : List Value → Body
called_with args = record { at = 0; locals = slots_from 0 args; stack = [] }

-- the operands are taken, and nothing else is done yet
abbrev pub with_stack : Body → List Value → Body
with_stack b s = record b { stack = s }

-- what was asked for has come: nothing, or a value
abbrev pub resumed : Body → Option Value → Body
resumed b None = goes_on b b.stack
resumed b (Some v) = goes_on b (v ∷ b.stack)

-- ---- exceptions (JVMS 2.10, 4.7.3, 6.5.athrow)

-- the handler begins, with the exception as the only operand
abbrev pub at_handler : Body → ℕ → ℕ → Body
at_handler b entry n = record b { at = entry; stack = Ref n ∷ [] }

-- the handler covers the index, and catches the exception, which is what the test says of its class
abbrev pub handles : (List ℕ → Bool) → ℕ → Handler → Bool
handles is at h = nat_le h.from at && nat_lt at h.to && option_map_or is h.caught true

-- where the first such handler begins
abbrev pub handler_for : (List ℕ → Bool) → ℕ → List Handler → Option ℕ
handler_for is at handlers = option_map (λ h. h.entry) (find (handles is at) handlers)
